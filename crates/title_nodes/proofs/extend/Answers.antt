-- `extend` makes the part that is to be put longer, or puts it and begins another.
-- Assumes nothing.
use native.Mathlib.Omega.{arith}
use Rattle.title_nodes.proofs.Runs.{append_on, append_new}
use Rattle.title_nodes.proofs.extend.Goals as goal

pub overflow_add-run : goal.overflow_add-run
overflow_add-run c = omega (arith, c.requires, c.well_formed)

pub overflow_add-result : goal.overflow_add-result
overflow_add-result c = omega (arith, c.requires, c.well_formed)

pub returns-then-run-from : goal.returns-then-run-from
returns-then-run-from c = append_on c.args.file.now _ c.args.run _ _ c.if-run-from.true c.requires.1 (omega arith)

pub put_part-next-requires : goal.put_part-next-requires
put_part-next-requires c = c.requires.0

pub returns : goal.returns
returns c = append_new c.args.file.now _ c.args.run _ _ c.requires.1 c.put_part-next.ensures
