-- `next_item` finds the next item line. The invariant: the item lines from here on are all of them, and the lines are known.
-- Assumes nothing.
use mathlib.Core.Path.{refl}
use Prim.{tt}
use native.Mathlib.Omega.{arith}
use Rattle.editions.proofs.Places.{next-piece}
use Rattle.editions.proofs.Judging.{lent}
use Rattle.mover.proofs.Writing.{known_on, known-line, item-none, item-past, item-here}
use Rattle.mover.proofs.next_item.Goals as goal

pub loop-at-init : goal.loop-at-init
loop-at-init c = (refl, omega arith, c.requires)

pub slice_bounds-is_kind-count : goal.slice_bounds-is_kind-count
slice_bounds-is_kind-count c = omega (arith, c.piece_end-end.ensures.1)

pub slice_bounds-is_kind-start : goal.slice_bounds-is_kind-start
slice_bounds-is_kind-start c = omega (arith, c.piece_end-end.ensures.1)

pub slice_bounds-is_kind-end : goal.slice_bounds-is_kind-end
slice_bounds-is_kind-end c = c.piece_end-end.ensures.0

pub is_kind-requires : goal.is_kind-requires
is_kind-requires c = known-line c.args.sheet.now c.loop-at.at (next-piece 0x0A c.args.sheet.now c.loop-at.at (omega arith) c.piece_end-end.ensures.1) (omega (arith, c.piece_end-end.ensures.1)) c.piece_end-end.ensures.0 c.loop-at.invariant.2

pub slice_bounds-node_of-count : goal.slice_bounds-node_of-count
slice_bounds-node_of-count c = omega (arith, c.piece_end-end.ensures.1)

pub slice_bounds-node_of-start : goal.slice_bounds-node_of-start
slice_bounds-node_of-start c = omega (arith, c.piece_end-end.ensures.1)

pub slice_bounds-node_of-end : goal.slice_bounds-node_of-end
slice_bounds-node_of-end c = c.piece_end-end.ensures.0

pub returns-then-is_kind : goal.returns-then-is_kind
returns-then-is_kind c = let line = lent c.args.sheet.now c.loop-at.at c.piece_end-end.result (omega (arith, c.piece_end-end.ensures.1)) c.piece_end-end.ensures.0 in
    let piece = next-piece 0x0A c.args.sheet.now c.loop-at.at (omega arith) c.piece_end-end.ensures.1 in
    let behind = (known_on c.args.sheet.now c.loop-at.at piece c.piece_end-end.ensures.0 c.loop-at.invariant.2).1 in
    item-here c.args.sheet.now c.args.from c.loop-at.at c.loop-at.invariant.0 piece c.piece_end-end.ensures.0
    line c.is_kind.ensures c.if-is_kind.true c.loop-at.invariant.1
    c.loop-at-test.true (omega (arith, c.piece_end-end.ensures.1)) c.node_of.ensures behind

pub overflow_add-at : goal.overflow_add-at
overflow_add-at c = omega (arith, c.piece_end-end.ensures.0)

pub loop-at-smaller : goal.loop-at-smaller
loop-at-smaller c = omega (arith, c.piece_end-end.ensures.1)

pub loop-at-preserved : goal.loop-at-preserved
loop-at-preserved c = let line = lent c.args.sheet.now c.loop-at.at c.piece_end-end.result (omega (arith, c.piece_end-end.ensures.1)) c.piece_end-end.ensures.0 in
    let piece = next-piece 0x0A c.args.sheet.now c.loop-at.at (omega arith) c.piece_end-end.ensures.1 in
    let behind = (known_on c.args.sheet.now c.loop-at.at piece c.piece_end-end.ensures.0 c.loop-at.invariant.2).1 in (
      item-past c.args.sheet.now c.args.from c.loop-at.at c.loop-at.invariant.0 piece c.piece_end-end.ensures.0 line
          c.is_kind.ensures c.if-is_kind.false,
      omega (arith, c.piece_end-end.ensures.1),
      behind,
    )

pub returns : goal.returns
returns c = (item-none c.args.sheet.now c.args.from c.loop-at.at c.loop-at.invariant.0 c.loop-at-test.false, tt)
