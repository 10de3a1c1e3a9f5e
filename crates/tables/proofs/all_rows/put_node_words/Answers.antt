-- `put_node_words` puts the words of a node row.
-- Assumes nothing.
use Rattle.room.proofs.Counting.{counts-then, counts-as}
use Rattle.tables.proofs.Listed.{node-numbers_are}
use Rattle.tables.proofs.all_rows.put_node_words.Goals as goal

pub returns : goal.returns
returns c = counts-as (node-numbers_are _) (counts-then
    (counts-then (counts-then (counts-then
    (counts-then (counts-then (counts-then
    (counts-then (counts-then (counts-then (counts-then (counts-then c.put_number-a.ensures c.put_number-b.ensures) c.put_number-c.ensures)
    c.put_number-d.ensures) c.put_number-e.ensures) c.put_number-f.ensures) c.put_number-g.ensures) c.put_number-h.ensures)
    c.put_number-i.ensures) c.put_number-j.ensures) c.put_number-k.ensures) c.put_number-l.ensures) c.put_number.ensures)
