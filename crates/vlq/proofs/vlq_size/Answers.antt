-- `vlq_size` gives the least count for a number that does not depend on it.
-- Assumes nothing.
use mathlib.Core.Path.{refl}
use Rattle.vlq.proofs.vlq_size.Goals as goal

pub returns : goal.returns
returns c = c.least_bytes.ensures (λ _. c.args.n) refl refl refl
