-- `read_common` answers what the definitions read in the common form.
-- Assumes nothing.
use Rattle.metadata.proofs.Ways.{common_read}
use native.Mathlib.Omega.{arith}
use Rattle.metadata.proofs.read_common.Goals as goal

pub returns : goal.returns
returns c = common_read _ _ _ c.byte-name.ensures c.byte-number.ensures c.byte-versions.ensures c.byte-size.ensures
    c.byte-format.ensures c.if-name-ne0.false c.if-number-gt127.false c.if-versions-ne0.false (omega arith) (omega arith)
    c.if-format-gt127.false (omega (arith, c.if-end-after.false, c.on-after.ensures))
