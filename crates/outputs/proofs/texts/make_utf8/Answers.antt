-- `make_utf8` answers the converted bytes, or the refusal.
-- Assumes nothing.
use Rattle.outputs.specs.Printed.{utf8_answer}
use Rattle.outputs.proofs.texts.make_utf8.Goals as goal

pub returns : goal.returns
unfolding utf8_answer
returns c = c.settle.ensures _ _ c.to_utf8-written.auto.text c.to_utf8-written.ensures.answer c.to_utf8-written.ensures.text
