-- `put_one` puts the line of one frame, or tells the refusal.
-- Assumes nothing.
use mathlib.Core.Path.{refl}
use Rattle.refusals.proofs.Passing.{passed_on}
use Rattle.frames.proofs.Tagging.{one-bad, one-good}
use Rattle.frames.proofs.put_one.Goals as goal

pub returns-in_err-x : goal.returns-in_err-x
returns-in_err-x c = rw (passed_on c.from_residual.ensures.1) (one-bad _ _ c.frame.ensures c.in_err-x.was, refl)

pub returns : goal.returns
returns c = (_, one-good _ _ c.frame.ensures c.in_ok-x.was, c.put_frame.ensures)
