-- Reading a node and reading its children, which call each other. What falls is one number, the levels left and the bytes left together: a child has
-- a level less than its holder and no more bytes, and a later child has fewer bytes. It is the measure of the calls (twice, and one more for children,
-- whose first child has the same left). The loop's invariant: what is left comes to what the whole comes to. Each child takes a byte of the part or more: there are no more children
-- than it has bytes, whatever the number of contained nodes.
-- Assumes nothing.
use mathlib.Core.List.{[]}
use Rattle.refusals.proofs.Passing.{passed_on}
use Rattle.metadata.proofs.Gives.{done, stopped, fitting, no}
use Rattle.node.proofs.Ends.{front-inside, inline_fits}
use Rattle.node.proofs.Ways.{front-done, front-stopped, front-fitting}
use Rattle.tree.proofs.Nodes.{node-none, node-limit, node-front, node-children, node-contained, node-file, children-begun, children-done, children-no, children-on}
use native.Mathlib.Omega.{arith}
use Rattle.tree.proofs.+read_children_read_node.Goals as goal

pub read_children-loop-init : goal.read_children-loop-init
read_children-loop-init t c = children-begun _ _ _ _ _ _ _ _ _ _ (omega (arith, c.requires)) (omega (arith, c.requires))

pub read_children-read_node-requires : goal.read_children-read_node-requires
read_children-read_node-requires t c = omega (
  arith,
  c.requires,
  c.loop.invariant.nodes-long,
  c.loop.invariant.items-long,
  c.loop.invariant.nodes-fit,
  c.loop.invariant.items-fit,
  c.loop.invariant.onward,
)

pub read_children-returns-in_err-m : goal.read_children-returns-in_err-m
read_children-returns-in_err-m t c = rw (passed_on c.from_residual.ensures.1) (children-no _ _ _ _ _ _ _ _ _ _
    c.loop.invariant
    c.loop-test.true
    c.read_node.ensures c.in_err-m.was)

pub read_children-loop-preserved : goal.read_children-loop-preserved
read_children-loop-preserved t c = children-on _ _ _ _ _ _ _ _ _ _ c.loop.invariant c.loop-test.true c.read_node.ensures
    (omega (arith, c.requires)) c.in_ok-m.was c.read_node.auto.nodes
    c.read_node.auto.items

pub read_children-returns : goal.read_children-returns
read_children-returns t c = children-done _ _ _ _ _ _ _ _ _ _ c.loop.invariant c.loop-test.false

pub read_node-returns-then-levels-eq0 : goal.read_node-returns-then-levels-eq0
read_node-returns-then-levels-eq0 t c = no (node-none _ _ _ _ _ _ _ _ c.if-levels-eq0.true)

pub read_node-returns-then-lim-index : goal.read_node-returns-then-lim-index
read_node-returns-then-lim-index t c = no (node-limit _ _ _ _ _ _ _ _ c.if-levels-eq0.false c.if-lim-index.true)

pub read_node-read_front-requires : goal.read_node-read_front-requires
read_node-read_front-requires t c = omega (arith, c.requires)

pub read_node-overflow_add-counts : goal.read_node-overflow_add-counts
read_node-overflow_add-counts t c = omega (arith, c.requires, c.well_formed.1.1.1.0.0, c.if-lim-index.false, front-fitting (c.read_front.ensures []) c.in_ok-w.was)

pub read_node-put_node-requires : goal.read_node-put_node-requires
read_node-put_node-requires t c = omega (arith, c.requires, c.if-lim-index.false)

pub read_node-of-stop-requires : goal.read_node-of-stop-requires
read_node-of-stop-requires t c = omega (arith, c.requires, front-inside _ _ _ _ _ _ _ _ (omega (arith, c.requires)) (front-done (c.read_front.ensures []) c.in_ok-w.was))

pub read_node-past_inline-next-requires : goal.read_node-past_inline-next-requires
read_node-past_inline-next-requires t c = omega (
  arith,
  c.requires,
  inline_fits
      (front-inside _ _ _ _ _ _ _ _ (omega (arith, c.requires)) (front-done (c.read_front.ensures []) c.in_ok-w.was)),
  front-inside _ _ _ _ _ _ _ _ (omega (arith, c.requires)) (front-done (c.read_front.ensures []) c.in_ok-w.was),
)

pub read_node-end_node-requires : goal.read_node-end_node-requires
read_node-end_node-requires t c = omega (
  arith,
  front-inside _ _ _ _ _ _ _ _ (omega (arith, c.requires))
      (front-done (c.read_front.ensures []) c.in_ok-w.was),
  c.if-lim-index.false,
  front-fitting
      (c.read_front.ensures []) c.in_ok-w.was,
)

pub read_node-returns-then-row-eq0 : goal.read_node-returns-then-row-eq0
read_node-returns-then-row-eq0 t c = node-file _ _ _ _ _ _ _ c.if-levels-eq0.false c.if-lim-index.false (omega (arith, c.requires)) _ _ _
    (front-done (c.read_front.ensures _) c.in_ok-w.was) _ c.put_node.ensures c.of-stop.ensures
    c.past_inline-next.ensures c.if-row-eq0.true (c.end_node.ensures _ _ _)

pub read_node-overflow_sub-levels-2 : goal.read_node-overflow_sub-levels-2
read_node-overflow_sub-levels-2 t c = omega (arith, c.if-levels-eq0.false)

pub read_node-read_children-requires : goal.read_node-read_children-requires
read_node-read_children-requires t c = omega (
  arith,
  c.requires,
  c.if-levels-eq0.false,
  c.if-lim-index.false,
  front-inside _ _ _ _ _ _ _ _
      (omega (
        arith,
        c.requires,
      ))
      (front-done (c.read_front.ensures [])
      c.in_ok-w.was),
  c.of-stop.ensures,
  front-fitting
      (c.read_front.ensures [])
      c.in_ok-w.was,
  c.put_node.auto.nodes,
  c.read_front.auto.items,
)

pub read_node-end_node-requires-2 : goal.read_node-end_node-requires-2
read_node-end_node-requires-2 t c = fitting c.read_children.ensures c.in_ok-all.was

pub read_node-returns-in_err-w : goal.read_node-returns-in_err-w
read_node-returns-in_err-w t c = rw (passed_on c.from_residual.ensures.1) (no (node-front _ _ _ _ _ _ _ _
    c.if-levels-eq0.false
    c.if-lim-index.false
    (front-stopped (c.read_front.ensures _) c.in_err-w.was)))

pub read_node-returns-in_err-all : goal.read_node-returns-in_err-all
read_node-returns-in_err-all t c = rw (passed_on c.from_residual-in_err-all.ensures.1) (no (node-children _ _ _ _ _ _ _ c.if-levels-eq0.false c.if-lim-index.false (omega (arith, c.requires)) _ _ _
    (front-done (c.read_front.ensures _) c.in_ok-w.was) _ c.put_node.ensures c.of-stop.ensures
    c.past_inline-next.ensures (stopped c.read_children.ensures c.in_err-all.was)))

pub read_node-returns : goal.read_node-returns
read_node-returns t c = node-contained _ _ _ _ _ _ _ c.if-levels-eq0.false c.if-lim-index.false (omega (arith, c.requires)) _ _ _
    (front-done (c.read_front.ensures _) c.in_ok-w.was) _ c.put_node.ensures c.of-stop.ensures
    c.past_inline-next.ensures (done c.read_children.ensures c.in_ok-all.was) (c.end_node-2.ensures _ _ _)
