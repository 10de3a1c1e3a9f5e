-- `hidden` gives no answer.
-- Assumes nothing.
use Rattle.needs.proofs.Needing.{nothing-given}
use Rattle.needs.proofs.hidden.Goals as goal

pub returns : goal.returns
returns c = nothing-given _ (c.fill.ensures.after (λ _ e. e))
