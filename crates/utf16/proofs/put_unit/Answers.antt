-- `put_unit` puts the two bytes of a unit.
-- Assumes nothing.
use Rattle.room.proofs.Counting.{counts-then, counts-as}
use Rattle.utf16.proofs.Sixteen.{unit-is}
use Rattle.utf16.proofs.put_unit.Goals as goal

pub returns : goal.returns
returns c = counts-as (unit-is _) (counts-then c.put_byte-one.ensures c.put_byte.ensures)
