-- `settle` answers what a call wrote or refused.
-- Assumes nothing.
use Rattle.lines.proofs.Ending.{gives_as, refuse-room, settle_bad, settle_good}
use Rattle.lines.proofs.settle.Goals as goal

pub returns-in-Err : goal.returns-in-Err
returns-in-Err c = λ room x z e t. gives_as (settle_bad room _ x e c.in-Err.is) (refuse-room _ _ _ z c.refuse.ensures)

pub returns-in-Ok : goal.returns-in-Ok
returns-in-Ok c = λ room x z e t. settle_good room _ x _ z e c.in-Ok.is t
