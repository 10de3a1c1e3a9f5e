-- `set_field` sets the bytes of a number.
-- Assumes nothing.
use native.Mathlib.Omega.{arith}
use Rattle.mend.proofs.Ways.{set_is}
use Rattle.mend.proofs.set_field.Goals as goal

pub returns : goal.returns
returns c = set_is _ _ c.put_in_bytes.ensures (omega (arith, c.requires)) (omega (arith, c.well_formed))
