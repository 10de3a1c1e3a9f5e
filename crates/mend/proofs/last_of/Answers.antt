-- The sum does not wrap.
-- Assumes nothing.
use native.Mathlib.Omega.{arith}
use Rattle.mend.proofs.Exits.{number_bound}
use Rattle.mend.proofs.last_of.Goals as goal

pub overflow_add-start : goal.overflow_add-start
overflow_add-start c = omega (arith, number_bound c.args.file.now c.args.start, c.number_at-root.ensures, c.requires)
