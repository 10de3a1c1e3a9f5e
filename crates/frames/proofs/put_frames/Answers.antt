-- `put_frames` puts the lines of all frames. The invariant: those of the frames before frame i were put.
-- Assumes nothing.
use mathlib.Core.Path.{refl}
use native.Mathlib.Omega.{arith}
use Rattle.refusals.proofs.Passing.{passed_on}
use Rattle.frames.proofs.Tagging.{framing_refused, framing_start, framing_no, framing_on, framing_end}
use Rattle.frames.proofs.put_frames.Goals as goal

pub loop-i-init : goal.loop-i-init
loop-i-init c = framing_start _ c.frame_count.ensures c.in_ok-count.was _

pub returns-in_err-x : goal.returns-in_err-x
returns-in_err-x c = absurd (framing_no _ c.loop-i.invariant c.loop-i-test.true _ c.frame.ensures c.in_err-x.was)

pub loop-i-preserved : goal.loop-i-preserved
loop-i-preserved c = framing_on _ c.loop-i.invariant c.loop-i-test.true _ c.frame.ensures c.in_ok-x.was c.put_frame-next.ensures

pub returns-in_err-count : goal.returns-in_err-count
returns-in_err-count c = rw (passed_on c.from_residual.ensures.1) (framing_refused _ c.frame_count.ensures c.in_err-count.was, refl)

pub returns : goal.returns
returns c = framing_end _ c.loop-i.invariant c.loop-i-test.false (omega arith)
