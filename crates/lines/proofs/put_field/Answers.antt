-- `put_field` puts the field of a name.
-- Assumes nothing.
use Rattle.room.proofs.Counting.{counts-then, counts-as}
use Rattle.lines.proofs.Ending.{field_is}
use Rattle.lines.proofs.put_field.Goals as goal

pub returns : goal.returns
returns c = counts-as (field_is _) (counts-then c.put_byte-next.ensures c.put_escaped.ensures)
