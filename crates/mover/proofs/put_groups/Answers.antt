-- `put_groups` puts each node line with its items. The invariant: of the whole walk, the node lines from here on with the item lines from the next one on are still to be put,
-- and the lines are known.
-- Assumes nothing.
use lib.ListN.{drop}
use native.Mathlib.Omega.{arith}
use Rattle.room.proofs.Counting.{going_start, going_end}
use Rattle.editions.specs.Sheets.{parted, nodes_of}
use Rattle.mover.specs.Told.{item_lines}
use Rattle.editions.proofs.Places.{next-piece}
use Rattle.editions.proofs.Judging.{lent}
use Rattle.mover.proofs.Writing.{known_on, known-line, going_as, right-low, walk_start, walk_turn, walk-past, walk_end}
use Rattle.mover.proofs.put_groups.Goals as goal

pub next_item-item-requires : goal.next_item-item-requires
next_item-item-requires c = c.requires.1

pub loop-at-init : goal.loop-at-init
loop-at-init c = let first = walk_start (nodes_of (parted 0x0A (drop c.args.from c.args.sheet.now))) (item_lines c.args.sheet.now c.next_item-item.result) c.next_item-item.ensures.0 in
    (going_start _ (omega arith) first, right-low c.args.sheet.now c.args.from c.next_item-item.result c.next_item-item.ensures.1, omega arith, c.requires.1)

pub slice_bounds-is_kind-count : goal.slice_bounds-is_kind-count
slice_bounds-is_kind-count c = omega (arith, c.piece_end-end.ensures.1)

pub slice_bounds-is_kind-start : goal.slice_bounds-is_kind-start
slice_bounds-is_kind-start c = omega (arith, c.piece_end-end.ensures.1)

pub slice_bounds-is_kind-end : goal.slice_bounds-is_kind-end
slice_bounds-is_kind-end c = c.piece_end-end.ensures.0

pub is_kind-requires : goal.is_kind-requires
is_kind-requires c = known-line c.args.sheet.now c.loop-at.at (next-piece 0x0A c.args.sheet.now c.loop-at.at (omega arith) c.piece_end-end.ensures.1) (omega (arith, c.piece_end-end.ensures.1)) c.piece_end-end.ensures.0 c.loop-at.invariant.3

pub put_line-next-requires : goal.put_line-next-requires
put_line-next-requires c = (omega (arith, c.piece_end-end.ensures.1), c.piece_end-end.ensures.0)

pub put_run-run-requires : goal.put_run-run-requires
put_run-run-requires c = c.loop-at.invariant.1

pub overflow_add-row : goal.overflow_add-row
overflow_add-row c = omega (arith, c.loop-at.invariant.2)

pub overflow_add-at : goal.overflow_add-at
overflow_add-at c = omega (arith, c.piece_end-end.ensures.0)

pub loop-at-smaller-then-is_kind : goal.loop-at-smaller-then-is_kind
loop-at-smaller-then-is_kind c = omega (arith, c.piece_end-end.ensures.1)

pub loop-at-preserved-then-is_kind : goal.loop-at-preserved-then-is_kind
loop-at-preserved-then-is_kind c = let line = lent c.args.sheet.now c.loop-at.at c.piece_end-end.result (omega (arith, c.piece_end-end.ensures.1)) c.piece_end-end.ensures.0 in
    let piece = next-piece 0x0A c.args.sheet.now c.loop-at.at (omega arith) c.piece_end-end.ensures.1 in
    let behind = (known_on c.args.sheet.now c.loop-at.at piece c.piece_end-end.ensures.0 c.loop-at.invariant.3).1 in
    let puts = walk_turn c.args.sheet.now c.loop-at.row c.loop-at.at (item_lines c.args.sheet.now c.loop-at.item) piece c.piece_end-end.ensures.0 line
    c.is_kind.ensures
    c.if-is_kind.true c.loop-at.invariant.0
    c.put_line-next.ensures c.put_run-run.ensures.puts c.put_run-run.ensures.left.0 in
    (puts, c.put_run-run.ensures.left.1, omega (arith, c.loop-at.invariant.2, c.piece_end-end.ensures.1), behind)

pub overflow_add-at-else-is_kind : goal.overflow_add-at-else-is_kind
overflow_add-at-else-is_kind c = omega (arith, c.piece_end-end.ensures.0)

pub loop-at-smaller : goal.loop-at-smaller
loop-at-smaller c = omega (arith, c.piece_end-end.ensures.1)

pub loop-at-preserved : goal.loop-at-preserved
loop-at-preserved c = let line = lent c.args.sheet.now c.loop-at.at c.piece_end-end.result (omega (arith, c.piece_end-end.ensures.1)) c.piece_end-end.ensures.0 in
    let piece = next-piece 0x0A c.args.sheet.now c.loop-at.at (omega arith) c.piece_end-end.ensures.1 in
    let behind = (known_on c.args.sheet.now c.loop-at.at piece c.piece_end-end.ensures.0 c.loop-at.invariant.3).1 in
    let past = walk-past c.args.sheet.now c.loop-at.row c.loop-at.at (item_lines c.args.sheet.now c.loop-at.item) piece c.piece_end-end.ensures.0 line c.is_kind.ensures c.if-is_kind.false in
    (going_as past c.loop-at.invariant.0, c.loop-at.invariant.1, omega (arith, c.loop-at.invariant.2, c.piece_end-end.ensures.1), behind)

pub returns : goal.returns
returns c = going_end (walk_end c.args.sheet.now c.loop-at.row c.loop-at.at
    (item_lines c.args.sheet.now c.loop-at.item) c.loop-at-test.false) c.loop-at.invariant.0
