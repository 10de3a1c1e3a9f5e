-- `measure_tree` goes from the last row to the first. The invariant: the rows from row i on are measured, and the stack has the sizes of the nodes that no other of these holds.
-- Assumes nothing.
use native.Mathlib.Omega.{arith}
use mathlib.Core.Path.{refl}
use Rattle.title_nodes.proofs.Nodes.{stopped_length}
use Rattle.title_nodes.proofs.Passes.{measuring_start, stack_room, items-here, first-row, stack_row, inside-row, measuring_row, measured_all, tree-size}
use Rattle.title_nodes.proofs.measure_tree.Goals as goal

pub loop-i-init : goal.loop-i-init
loop-i-init c = measuring_start c.requires.task refl c.requires.room

pub overflow_sub-first : goal.overflow_sub-first
overflow_sub-first c = omega (arith, first-row c.requires.task c.loop-i.invariant c.loop-i-test.true c.node_at-node.ensures)

pub overflow_add-below : goal.overflow_add-below
overflow_add-below c = omega (arith, stack_row c.requires.task c.loop-i.invariant c.loop-i-test.true c.node_at-node.ensures)

pub put_items-requires : goal.put_items-requires
put_items-requires c = (
  omega (arith, first-row c.requires.task c.loop-i.invariant c.loop-i-test.true c.node_at-node.ensures),
  items-here
      c.requires.task c.loop-i.invariant c.loop-i-test.true,
)

pub sum-n-requires : goal.sum-n-requires
sum-n-requires c = (omega arith, omega (arith, stack_row c.requires.task c.loop-i.invariant c.loop-i-test.true c.node_at-node.ensures, c.loop-i.invariant.stacked))

pub offset_bounds-sizes-top : goal.offset_bounds-sizes-top
offset_bounds-sizes-top c = omega (arith, stack_row c.requires.task c.loop-i.invariant c.loop-i-test.true c.node_at-node.ensures)

pub bounds-sizes-top : goal.bounds-sizes-top
bounds-sizes-top c = omega (
  arith,
  stack_row c.requires.task c.loop-i.invariant c.loop-i-test.true c.node_at-node.ensures,
  stack_room
      c.requires.task c.loop-i.invariant c.loop-i-test.true,
  c.loop-i.invariant.stacked,
)

pub loop-i-preserved : goal.loop-i-preserved
loop-i-preserved c = measuring_row c.requires.task c.loop-i.invariant c.loop-i-test.true c.node_at-node.ensures
    (stopped_length c.put_items.ensures c.stopped-m.ensures) c.sum-n.ensures c.unpackers_of-p.ensures
    (λ cs e. c.frame_of-f.ensures _ cs
    (inside-row c.requires.task c.loop-i.invariant c.loop-i-test.true c.node_at-node.ensures)
    c.unpackers_of-p.ensures.size e)

pub returns : goal.returns
returns c = record {
  measured = measured_all c.loop-i.invariant c.loop-i-test.false;
  tree = tree-size c.loop-i.invariant c.loop-i-test.false c.sum.ensures;
}
