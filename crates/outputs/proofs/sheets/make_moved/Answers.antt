-- `make_moved` answers the sheet in its other edition, or the refusal.
-- Assumes nothing.
use Rattle.outputs.specs.Printed.{moved_answer}
use Rattle.outputs.proofs.sheets.make_moved.Goals as goal

pub returns : goal.returns
unfolding moved_answer
returns c = c.settle.ensures _ _ c.move_sheet-written.auto.room c.move_sheet-written.ensures.answer c.move_sheet-written.ensures.room
