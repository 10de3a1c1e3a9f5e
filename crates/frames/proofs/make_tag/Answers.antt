-- `make_tag` answers the frames of a tag, or the refusal.
-- Assumes nothing.
use Rattle.frames.specs.Tags.{tag_answer}
use Rattle.frames.proofs.make_tag.Goals as goal

pub returns : goal.returns
unfolding tag_answer
returns c = c.put_answered.ensures _ _ c.put_tag-put.ensures
