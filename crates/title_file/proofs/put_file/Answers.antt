-- `put_file` measures the tree, finds where it starts, and puts part after part.
-- Assumes nothing.
use native.Mathlib.Omega.{arith}
use Rattle.title_nodes.proofs.Lengths.{tree-few}
use Rattle.title_nodes.proofs.Nodes.{stopped_length}
use Rattle.title_file.proofs.Files.{file-stops, copied-put}
use Rattle.title_file.proofs.put_file.Goals as goal

pub measure_tree-tree-requires : goal.measure_tree-tree-requires
measure_tree-tree-requires c = record {
  task = c.requires.rows;
  room = (omega arith, omega arith, omega arith, omega arith, omega arith);
}

pub returns-then-tree-eq-SIZE_STOP : goal.returns-then-tree-eq-SIZE_STOP
returns-then-tree-eq-SIZE_STOP c = file-stops _ _ _ _ _ c.measure_tree-tree.ensures.tree c.if-tree-eq-SIZE_STOP.true

pub overflow_add-stop : goal.overflow_add-stop
overflow_add-stop c = omega (arith, tree-few _ _ _ c.tree_start-first.ensures, c.measure_tree-tree.ensures.tree, c.stopped-types.ensures, c.requires.inside)

pub overflow_add-size : goal.overflow_add-size
overflow_add-size c = omega (arith, tree-few _ _ _ c.tree_start-first.ensures, c.measure_tree-tree.ensures.tree, c.stopped-types.ensures, c.requires.inside)

pub overflow_sub-stop : goal.overflow_sub-stop
overflow_sub-stop c = omega (arith, tree-few _ _ _ c.tree_start-first.ensures)

pub put_tree-g-requires : goal.put_tree-g-requires
put_tree-g-requires c = record {
  rows = (c.requires.rows, c.measure_tree-tree.ensures.measured);
  room = (
    omega (arith, c.measure_tree-tree.auto),
    omega (arith, c.measure_tree-tree.auto),
    omega (arith, c.measure_tree-tree.auto),
    omega (arith, c.measure_tree-tree.auto),
    omega (arith, c.measure_tree-tree.auto),
  );
  small = omega (arith, c.measure_tree-tree.ensures.tree, c.if-tree-eq-SIZE_STOP.false);
}

pub returns : goal.returns
returns c = copied-put _ _ _ _ _ _ _ c.requires.inside (stopped_length c.put_types.ensures c.stopped-types.ensures)
    (omega (arith, c.measure_tree-tree.ensures.tree, c.if-tree-eq-SIZE_STOP.false)) c.tree_start-first.ensures
    c.put_part-a.ensures c.put_number-b.ensures c.put_types-c.ensures
    c.put_number-d.ensures c.put_number-e.ensures c.put_part-f.ensures
    c.put_tree-g.ensures c.put_part.ensures
