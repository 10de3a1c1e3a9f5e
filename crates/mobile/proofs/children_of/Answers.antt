-- `children_of` gives what `children` gives. The invariant: what the nodes from row i on are, and where the own rows of node i begin.
-- Assumes nothing.
use Prim.Native.Nat.{◌-◌}
use Rattle.file.proofs.Own.{end-begin, rows_in_lem, end-in, end-next}
use Rattle.mobile.proofs.Roles.{children-begin, children-end, child-next}
use native.Mathlib.Omega.{arith}
use Rattle.mobile.proofs.children_of.Goals as goal

pub loop-i-init : goal.loop-i-init
loop-i-init c = (omega arith, λ z. z, end-begin c.requires, children-begin c.requires)

pub node_at-row-requires : goal.node_at-row-requires
node_at-row-requires c = omega (arith, c.requires.node-room)

pub overflow_sub-at : goal.overflow_sub-at
overflow_sub-at c = rows_in_lem c.requires c.loop-i.i (c.loop-i.i - 1) (omega arith) (omega arith) c.node_at-row.ensures c.loop-i.invariant.2

pub role_of-requires : goal.role_of-requires
role_of-requires c = (c.requires.item-rows, omega arith, end-in c.requires c.loop-i.i (c.loop-i.i - 1) (omega arith) (omega arith) c.node_at-row.ensures c.loop-i.invariant.2)

pub loop-i-preserved : goal.loop-i-preserved
loop-i-preserved c = (
  omega arith,
  λ z. omega arith,
  end-next c.requires c.loop-i.i (c.loop-i.i - 1) (omega arith) (omega arith)
      c.node_at-row.ensures c.loop-i.invariant.2,
  child-next c.requires c.loop-i.i (c.loop-i.i - 1) (omega arith)
      (omega arith) c.node_at-row.ensures c.loop-i.invariant.2 c.role_of.ensures c.loop-i.invariant.3
      c.child-c.ensures,
)

pub returns : goal.returns
returns c = children-end c.requires c.loop-i.i (omega arith) c.loop-i.invariant.1 c.loop-i.invariant.3
