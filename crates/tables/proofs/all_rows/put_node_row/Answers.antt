-- `put_node_row` puts the line of a node row.
-- Assumes nothing.
use Rattle.room.proofs.Counting.{counts-then, counts-as}
use Rattle.tables.proofs.Listed.{node-row_is}
use Rattle.tables.proofs.all_rows.put_node_row.Goals as goal

pub returns : goal.returns
returns c = counts-as (node-row_is _ _) (counts-then (counts-then (counts-then c.put_byte-a.ensures c.put_number-b.ensures) c.put_node_words-c.ensures) c.put_byte.ensures)
