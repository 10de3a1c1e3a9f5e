-- `put_kind` puts the lines of one kind. The invariant: of all of them, those from here on are still to be put, and the lines are known.
-- Assumes nothing.
use mathlib.Core.Path.{refl}
use native.Mathlib.Omega.{arith}
use Rattle.room.proofs.Counting.{going_start, going_on, going_end}
use Rattle.editions.proofs.Places.{next-piece}
use Rattle.editions.proofs.Judging.{lent}
use Rattle.mover.proofs.Writing.{known_on, known-line, going_as, put-kind_one, put-kind_past, put-kind_end}
use Rattle.mover.proofs.put_kind.Goals as goal

pub loop-at-init : goal.loop-at-init
loop-at-init c = (going_start _ (omega arith) refl, c.requires.1)

pub slice_bounds-is_kind-count : goal.slice_bounds-is_kind-count
slice_bounds-is_kind-count c = omega (arith, c.piece_end-end.ensures.1)

pub slice_bounds-is_kind-start : goal.slice_bounds-is_kind-start
slice_bounds-is_kind-start c = omega (arith, c.piece_end-end.ensures.1)

pub slice_bounds-is_kind-end : goal.slice_bounds-is_kind-end
slice_bounds-is_kind-end c = c.piece_end-end.ensures.0

pub is_kind-requires : goal.is_kind-requires
is_kind-requires c = known-line c.args.sheet.now c.loop-at.at (next-piece 0x0A c.args.sheet.now c.loop-at.at (omega arith) c.piece_end-end.ensures.1) (omega (arith, c.piece_end-end.ensures.1)) c.piece_end-end.ensures.0 c.loop-at.invariant.1

pub put_line-next-requires : goal.put_line-next-requires
put_line-next-requires c = (omega (arith, c.piece_end-end.ensures.1), c.piece_end-end.ensures.0)

pub overflow_add-at : goal.overflow_add-at
overflow_add-at c = omega (arith, c.piece_end-end.ensures.0)

pub loop-at-smaller-then-is_kind : goal.loop-at-smaller-then-is_kind
loop-at-smaller-then-is_kind c = omega (arith, c.piece_end-end.ensures.1)

pub loop-at-preserved-then-is_kind : goal.loop-at-preserved-then-is_kind
loop-at-preserved-then-is_kind c = let line = lent c.args.sheet.now c.loop-at.at c.piece_end-end.result (omega (arith, c.piece_end-end.ensures.1)) c.piece_end-end.ensures.0 in
    let piece = next-piece 0x0A c.args.sheet.now c.loop-at.at (omega arith) c.piece_end-end.ensures.1 in
    let behind = (known_on c.args.sheet.now c.loop-at.at piece c.piece_end-end.ensures.0 c.loop-at.invariant.1).1 in (
      going_on (put-kind_one c.args.sheet.now c.args.items c.loop-at.at piece c.piece_end-end.ensures.0 line
          c.is_kind.ensures c.if-is_kind.true) c.loop-at.invariant.0
          c.put_line-next.ensures,
      behind,
    )

pub overflow_add-at-else-is_kind : goal.overflow_add-at-else-is_kind
overflow_add-at-else-is_kind c = omega (arith, c.piece_end-end.ensures.0)

pub loop-at-smaller : goal.loop-at-smaller
loop-at-smaller c = omega (arith, c.piece_end-end.ensures.1)

pub loop-at-preserved : goal.loop-at-preserved
loop-at-preserved c = let line = lent c.args.sheet.now c.loop-at.at c.piece_end-end.result (omega (arith, c.piece_end-end.ensures.1)) c.piece_end-end.ensures.0 in
    let piece = next-piece 0x0A c.args.sheet.now c.loop-at.at (omega arith) c.piece_end-end.ensures.1 in
    let behind = (known_on c.args.sheet.now c.loop-at.at piece c.piece_end-end.ensures.0 c.loop-at.invariant.1).1 in
    (going_as (put-kind_past c.args.sheet.now c.args.items c.loop-at.at piece c.piece_end-end.ensures.0 line c.is_kind.ensures c.if-is_kind.false) c.loop-at.invariant.0, behind)

pub returns : goal.returns
returns c = going_end (put-kind_end c.args.sheet.now c.args.items c.loop-at.at c.loop-at-test.false) c.loop-at.invariant.0
