-- `put_answered` answers the lines that were put, or the refusal.
-- Assumes nothing.
use Rattle.lines.proofs.Ending.{gives_as, refuse-room, printed-good, printed-bad}
use Rattle.lines.specs.Answer.{plainly}
use Rattle.needs.proofs.Needing.{puts-bad, puts-good}
use Rattle.needs.proofs.put_answered.Goals as goal

pub returns-in-Err : goal.returns-in-Err
returns-in-Err c = λ o x h. let z = puts-bad _ _ _ _ _ h c.in-Err.is in gives_as (printed-bad plainly _ _ z.0) (refuse-room _ _ _ z.1 c.refuse.ensures)

pub returns-in-Ok : goal.returns-in-Ok
returns-in-Ok c = λ o x h. let z = puts-good _ _ _ _ _ h c.in-Ok.is in gives_as (printed-good plainly _ _ z.1) (c.conclude.ensures _ _ z.2)
