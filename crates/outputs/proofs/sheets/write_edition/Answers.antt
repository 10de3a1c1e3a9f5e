-- `write_edition` writes the sheet in the edition that is asked for.
-- Assumes nothing.
use Rattle.outputs.proofs.sheets.write_edition.Goals as goal

pub returns-then-second : goal.returns-then-second
returns-then-second c = record { answer = rw c.if-second.true c.write_sheet2.ensures.answer; text = rw c.if-second.true c.write_sheet2.ensures.sheet }

pub returns : goal.returns
returns c = record { answer = rw c.if-second.false c.write_sheet.ensures.answer; text = rw c.if-second.false c.write_sheet.ensures.sheet }
