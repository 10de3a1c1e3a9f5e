-- `put_answer` fills the buffer as `fit` says.
-- Assumes nothing.
use Rattle.words.proofs.Putting.{fits}
use Rattle.words.proofs.put_answer.Goals as goal

pub returns : goal.returns
returns c = fits _ _ (c.fill.ensures.after (λ _ e. e)) c.put_front.ensures
