-- `put_version` puts what `version_text` says.
-- Assumes nothing.
use Rattle.room.proofs.Counting.{counts-then, counts-as}
use Rattle.text.proofs.Numbers.{version-is}
use Rattle.text.proofs.put_version.Goals as goal

pub returns : goal.returns
returns c = counts-as (version-is _) (counts-then
    (counts-then (counts-then c.put_decimal-one.ensures c.put_byte-two.ensures)
    c.put_decimal-three.ensures) c.put_decimal.ensures)
