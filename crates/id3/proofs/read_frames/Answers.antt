-- `read_frames` counts the frames and keeps the one asked for. The invariant: what is left of them, behind those so far, is the whole; these are counted, and the one was kept
-- if it is among them; no frame is shorter than a byte. The measure is what is left of the tag.
-- Assumes nothing.
use mathlib.Core.Logic.{inl, inr}
use native.Mathlib.Omega.{arith}
use Rattle.machine.proofs.Laws.{was}
use Rattle.cursor.specs.Told.{read_told}
use Rattle.refusals.proofs.Passing.{passed_on}
use Rattle.id3.proofs.Ways.{walk-begun, walk-done, walk-padding, walk_no, walk-on, further}
use Rattle.id3.proofs.read_frames.Goals as goal
use Rattle.id3.proofs.read_frames.Goals.{then-count-want, else-count-want}

pub loop-end-init : goal.loop-end-init
loop-end-init c = (walk-begun _ _ _ _, omega arith)

pub loop-end-smaller : goal.loop-end-smaller
loop-end-smaller c = omega (arith, further _ _ _ _ (was read_told c.read_frame.ensures c.in_ok-x.was))

pub loop-end-preserved : goal.loop-end-preserved
loop-end-preserved c = (
  walk-on c.loop-end.invariant.0 c.if-end-at.false c.if-tag-at-eq0.false
      (was read_told c.read_frame.ensures c.in_ok-x.was)
      (elim c.if-count-want.branch [ then-count-want w ↦ inl (w.if-count-want.true, w.kept-is) | else-count-want w ↦ inr (w.if-count-want.false, w.kept-is) ]),
  omega
      (arith, further _ _ _ _ (was read_told c.read_frame.ensures c.in_ok-x.was)),
)

pub returns-then-end-at : goal.returns-then-end-at
returns-then-end-at c = walk-done c.loop-end.invariant.0 c.if-end-at.true

pub returns-then-tag-at-eq0 : goal.returns-then-tag-at-eq0
returns-then-tag-at-eq0 c = walk-padding c.loop-end.invariant.0 c.if-end-at.false c.if-tag-at-eq0.true

pub returns-in_err-x : goal.returns-in_err-x
returns-in_err-x c = rw (passed_on c.from_residual.ensures.1) (walk_no c.loop-end.invariant.0 c.if-end-at.false c.if-tag-at-eq0.false (was read_told c.read_frame.ensures c.in_err-x.was))
