-- `row_starting` gives what `row_starting` gives. In the first loop rows before `low` start before the place and rows of the tree from `high` on after it; in the second no row so far starts there.
-- Assumes nothing.
use Rattle.rows.proofs.Search.{search_begins, search_later, search_sooner, search_found, search_none, linear_on, linear_found, linear_ends}
use native.Mathlib.Omega.{arith}
use Rattle.rows.proofs.row_starting.Goals as goal

pub loop-low-init : goal.loop-low-init
loop-low-init c = (omega arith, search_begins _ _ _)

pub node_at-start-requires : goal.node_at-start-requires
node_at-start-requires c = omega (arith, c.requires)

pub returns-then-start-place : goal.returns-then-start-place
returns-then-start-place c = search_found _ _ _ _ c.requires.0 c.requires.2 _ (omega arith) c.node_at-start.ensures c.if-start-place.true

pub loop-low-preserved-then-start-place-2 : goal.loop-low-preserved-then-start-place-2
loop-low-preserved-then-start-place-2 c = (omega arith, search_later _ _ _ _ c.requires.0 c.requires.2 _ (omega arith) c.node_at-start.ensures c.loop-low.invariant.1 c.if-start-place-2.true)

pub loop-low-preserved : goal.loop-low-preserved
loop-low-preserved c = (omega arith, search_sooner _ _ _ _ c.requires.0 c.requires.2 _ (omega arith) c.node_at-start.ensures c.loop-low.invariant.1 (omega arith))

pub loop-i-init : goal.loop-i-init
loop-i-init c = search_none _ _ _ _ c.requires.0 c.loop-low.invariant.1 c.loop-low-test.false

pub node_at-requires : goal.node_at-requires
node_at-requires c = omega (arith, c.requires)

pub returns-then-node_at-place : goal.returns-then-node_at-place
returns-then-node_at-place c = linear_found _ _ _ _ c.requires.0 c.loop-i.invariant c.node_at.ensures c.loop-i-test.true c.if-node_at-place.true

pub loop-i-preserved : goal.loop-i-preserved
loop-i-preserved c = linear_on c.args.nodes.now c.args.tree c.args.count c.args.place.0
    c.requires.0 c.loop-i.invariant c.node_at.ensures c.if-node_at-place.false

pub returns : goal.returns
returns c = linear_ends _ _ _ _ c.requires.0 c.loop-i.invariant (omega arith)
