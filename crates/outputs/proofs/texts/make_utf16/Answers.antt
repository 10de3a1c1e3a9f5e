-- `make_utf16` answers the converted bytes, or the refusal.
-- Assumes nothing.
use Rattle.outputs.specs.Printed.{utf16_answer}
use Rattle.outputs.proofs.texts.make_utf16.Goals as goal

pub returns : goal.returns
unfolding utf16_answer
returns c = c.settle.ensures _ _ c.to_utf16-written.auto.units c.to_utf16-written.ensures.answer c.to_utf16-written.ensures.units
