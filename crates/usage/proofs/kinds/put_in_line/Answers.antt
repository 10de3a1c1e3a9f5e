-- `put_in_line` puts the kinds in one line.
-- Assumes nothing.
use Rattle.room.proofs.Counting.{counts-then, counts-as}
use Rattle.usage.proofs.Accounting.{in_line_is}
use Rattle.usage.proofs.kinds.put_in_line.Goals as goal

pub returns : goal.returns
returns c = counts-as (in_line_is _ _ c.total.ensures)
    (counts-then (counts-then (counts-then
    (counts-then (counts-then (counts-then
    (counts-then (counts-then (counts-then (counts-then (counts-then c.put_byte-letter.ensures c.put_number-a.ensures) c.put_number-b.ensures)
    c.put_number-c.ensures) c.put_number-d.ensures) c.put_number-e.ensures) c.put_number-f.ensures) c.put_number-g.ensures)
    c.put_number-h.ensures) c.put_number-i.ensures) c.put_number-j.ensures) c.put_end.ensures)
