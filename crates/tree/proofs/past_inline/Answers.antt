-- `past_inline` moves on by a row's inline data.
-- Assumes nothing.
use native.Mathlib.Omega.{arith}
use Rattle.tree.proofs.Nodes.{inline_is, inline_other, inline_folder}
use Rattle.tree.proofs.past_inline.Goals as goal

pub overflow_add-result : goal.overflow_add-result
overflow_add-result c = omega (arith, c.requires, inline_is c.args.row c.if-row-eq0.true c.if-row-eq1.true)

pub returns-then-row-eq1 : goal.returns-then-row-eq1
returns-then-row-eq1 c = omega (arith, inline_is c.args.row c.if-row-eq0.true c.if-row-eq1.true)

pub returns-else-row-eq1 : goal.returns-else-row-eq1
returns-else-row-eq1 c = omega (arith, inline_other c.args.row c.if-row-eq0.true c.if-row-eq1.false)

pub returns-else-row-eq0 : goal.returns-else-row-eq0
returns-else-row-eq0 c = omega (arith, inline_folder c.args.row c.if-row-eq0.false)
