-- `read_guid` gives what `guid` gives.
-- Assumes nothing.
use Rattle.description.proofs.Ways.{guid-cut, guid-all}
use native.Mathlib.Omega.{arith}
use Rattle.description.proofs.read_guid.Goals as goal

pub returns-then-end-at : goal.returns-then-end-at
returns-then-end-at c = guid-cut _ _ _ (omega arith)

pub returns-then-end-at-lt16 : goal.returns-then-end-at-lt16
returns-then-end-at-lt16 c = guid-cut _ _ _ (omega arith)

pub returns : goal.returns
returns c = guid-all _ _ _ (omega arith)
