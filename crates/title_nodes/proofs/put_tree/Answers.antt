-- `put_tree` goes from the first row to the last. The invariant: the rows before row i are appended.
-- Assumes nothing.
use native.Mathlib.Omega.{arith}
use Rattle.title_nodes.proofs.Passes.{putting-start, rows-room, inside-here, node-here, items-room, texts-row, packed-row, leaf_row, putting-row, putting-end}
use Rattle.title_nodes.proofs.put_tree.Goals as goal

pub loop-i-init : goal.loop-i-init
loop-i-init c = putting-start _ (omega arith)

pub overflow_add-end : goal.overflow_add-end
overflow_add-end c = omega (arith, rows-room c.requires.rows.0 c.loop-i.invariant c.loop-i-test.true c.node_at-node.ensures, c.requires.rows.0.items-inside.0)

pub put_row-run-requires : goal.put_row-run-requires
put_row-run-requires c = let laid = c.requires.rows.1.laid _ (omega arith) c.loop-i-test.true in
    record {
      rows = (inside-here c.requires.rows.0 c.loop-i.invariant c.loop-i-test.true c.node_at-node.ensures, c.requires.rows.0.small, omega arith, items-room c.requires.rows.0 c.loop-i.invariant c.loop-i-test.true c.node_at-node.ensures);
      sizes = (texts-row c.requires.rows.0 c.loop-i.invariant c.loop-i-test.true c.node_at-node.ensures laid c.requires.small, packed-row c.requires.rows.0 c.loop-i.invariant c.loop-i-test.true c.node_at-node.ensures laid c.requires.small);
      inside = (c.loop-i.invariant.inside, node-here c.requires.rows.0 c.loop-i.invariant c.loop-i-test.true c.node_at-node.ensures);
      leaf = leaf_row c.requires.rows.0 c.loop-i.invariant c.loop-i-test.true c.node_at-node.ensures laid c.requires.small;
    }

pub loop-i-preserved : goal.loop-i-preserved
loop-i-preserved c = putting-row c.requires.rows.0 c.loop-i.invariant c.loop-i-test.true c.node_at-node.ensures
    (c.requires.rows.1.laid _ (omega arith) c.loop-i-test.true) c.requires.small
    c.put_row-run.ensures

pub returns : goal.returns
returns c = putting-end c.requires.rows.0 c.loop-i.invariant c.loop-i-test.false c.put_part.ensures
