-- `first_taken` goes over the rows from the last on. The invariant: what the rows from row i on take.
-- Assumes nothing.
use mathlib.Core.Path.{ap, ◌∙◌}
use Prim.Native.Nat.{◌-◌, ◌+◌, min}
use Rattle.cursor.specs.declared.Node.{Node}
use Rattle.rows.proofs.Rows.{row_is}
use Rattle.targets.proofs.Targets.{taken-begun, taken_here, taken-past, taken-other, taken-done}
use native.Mathlib.Omega.{arith}
use Rattle.targets.proofs.first_taken.Goals as goal

pub loop-i-init : goal.loop-i-init
loop-i-init c = (c.requires.0, omega arith, taken-begun c.args.nodes.now c.args.count c.args.place.0 c.args.end.0)

pub node_at-row-requires : goal.node_at-row-requires
node_at-row-requires c = omega (arith, c.requires)

pub overflow_add-row : goal.overflow_add-row
overflow_add-row c = let w = c.requires.2 (c.loop-i.i - 1) (omega arith) in omega (
  arith,
  ap (λ (r : Node). r.start + r.size)
      (row_is c.args.nodes.now c.args.count (c.loop-i.i - 1) (omega arith) c.node_at-row.ensures),
)

pub loop-i-preserved-then-place-row : goal.loop-i-preserved-then-place-row
loop-i-preserved-then-place-row c = (
  omega arith,
  omega arith,
  taken_here c.args.nodes.now c.args.count c.args.place.0 c.args.end.0
      {i = c.loop-i.i - 1} {j = c.loop-i.i} c.loop-i.invariant.2 (omega arith) (omega arith) c.node_at-row.ensures
      c.if-row-eq1.true c.if-place-row.true (c.lesser-taken.ensures ∙ ap (λ v. min v c.loop-i.taken) c.greater.ensures),
)

pub loop-i-preserved-else-place-row : goal.loop-i-preserved-else-place-row
loop-i-preserved-else-place-row c = (
  omega arith,
  omega arith,
  taken-past c.args.nodes.now c.args.count c.args.place.0 c.args.end.0
      {i = c.loop-i.i - 1} {j = c.loop-i.i} c.loop-i.invariant.2 (omega arith) (omega arith) c.node_at-row.ensures
      c.if-place-row.false,
)

pub loop-i-preserved : goal.loop-i-preserved
loop-i-preserved c = (
  omega arith,
  omega arith,
  taken-other c.args.nodes.now c.args.count c.args.place.0 c.args.end.0
      {i = c.loop-i.i - 1} {j = c.loop-i.i} c.loop-i.invariant.2 (omega arith) (omega arith) c.node_at-row.ensures
      c.if-row-eq1.false,
)

pub returns : goal.returns
returns c = c.loop-i.invariant.2 ∙ taken-done c.args.nodes.now c.args.count c.args.tree c.args.place.0
    c.args.end.0 c.loop-i.i (omega arith) c.requires.0 c.requires.3
