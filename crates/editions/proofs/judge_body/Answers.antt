-- `judge_body` judges the lines behind the first. The invariant: what is left of them is the whole; there are no more nodes, items and lines than bytes.
-- Assumes nothing.
use mathlib.Core.Path.{refl, sym}
use native.Mathlib.Omega.{arith}
use Rattle.machine.proofs.Laws.{was}
use Rattle.editions.specs.Told.{step_told}
use Rattle.editions.proofs.Places.{next-piece, was_some, was_none, passed_on}
use Rattle.editions.proofs.Judging.{lent, judged-all, judged-unended, judged-no, judged-on}
use Rattle.editions.proofs.judge_body.Goals as goal

pub loop-at-init : goal.loop-at-init
loop-at-init c = record { same = refl; nodes-few = omega arith; items-few = omega arith; few = omega arith; inside = omega arith }

pub returns-then-sheet-end : goal.returns-then-sheet-end
returns-then-sheet-end c = let piece = next-piece 0x0A c.args.sheet.now c.loop-at.at (omega arith) c.piece_end-end.ensures.1 in
    judged-unended c.loop-at.invariant c.loop-at-test.true piece c.piece_end-end.ensures.0 c.if-sheet-end.true

pub slice_bounds-read_line-start : goal.slice_bounds-read_line-start
slice_bounds-read_line-start c = omega (arith, c.piece_end-end.ensures.1)

pub step-requires : goal.step-requires
step-requires c = (omega (arith, c.loop-at.invariant.nodes-few), omega (arith, c.loop-at.invariant.items-few))

pub returns-in_err-t : goal.returns-in_err-t
returns-in_err-t c = let line = lent c.args.sheet.now c.loop-at.at c.piece_end-end.result (omega (arith, c.piece_end-end.ensures.1)) c.piece_end-end.ensures.0 in
    let piece = next-piece 0x0A c.args.sheet.now c.loop-at.at (omega arith) c.piece_end-end.ensures.1 in
    let (none, same) = was_none _ _ c.ok_or.ensures.value c.in_err-t.was in
    rw (passed_on c.from_residual.ensures.1, same) (judged-no c.loop-at.invariant c.loop-at-test.true piece c.if-sheet-end.false (omega (arith, c.piece_end-end.ensures.1)) line
    c.read_line-line.ensures (sym (was step_told c.step.ensures none)))

pub overflow_add-number : goal.overflow_add-number
overflow_add-number c = omega (arith, c.loop-at.invariant.few)

pub loop-at-smaller : goal.loop-at-smaller
loop-at-smaller c = omega (arith, c.piece_end-end.ensures.1)

pub loop-at-preserved : goal.loop-at-preserved
loop-at-preserved c = let line = lent c.args.sheet.now c.loop-at.at c.piece_end-end.result (omega (arith, c.piece_end-end.ensures.1)) c.piece_end-end.ensures.0 in
    let piece = next-piece 0x0A c.args.sheet.now c.loop-at.at (omega arith) c.piece_end-end.ensures.1 in
    judged-on c.loop-at.invariant c.loop-at-test.true piece c.if-sheet-end.false (omega (arith, c.piece_end-end.ensures.1)) line c.read_line-line.ensures
    (sym (was step_told c.step.ensures (was_some _ _ c.ok_or.ensures.value c.in_ok-t.was)))

pub returns : goal.returns
returns c = judged-all c.loop-at.invariant c.loop-at-test.false
