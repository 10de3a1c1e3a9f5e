-- `mark` answers, and leaves tables and marks, as `marks_of` says of what the file reads as.
-- Assumes nothing.
use native.Mathlib.Omega.{arith}
use Rattle.account.proofs.Exits.{nodes-stand, items-stand}
use Rattle.account.proofs.Marking.{ends_unread, ends_few, ends_marked, zeros}
use Rattle.account.proofs.marks.mark.Goals as goal

pub returns-then-marks-size : goal.returns-then-marks-size
returns-then-marks-size c = let all = (ends_few c.args.file.now _ _ _ c.read_file.ensures.answer c.read_file.ensures.nodes c.read_file.ensures.items c.in-Ok.is c.if-marks-size.true
    (zeros c.clear_all.ensures.nodes c.read_file.auto.nodes) (zeros c.clear_all.ensures.items c.read_file.auto.items) (c.fill.ensures.after (λ _ e. e))) in record { answer = all.0; nodes = all.1.0; items = all.1.1.0; marks = all.1.1.1 }

pub mark_rows-requires : goal.mark_rows-requires
mark_rows-requires c = (nodes-stand _ _ _ c.read_file.ensures.answer c.read_file.ensures.nodes c.read_file.ensures.items c.in-Ok.is, items-stand _ _ _ c.read_file.ensures.answer c.read_file.ensures.nodes c.read_file.ensures.items c.in-Ok.is)

pub returns-in-Err : goal.returns-in-Err
returns-in-Err c = let all = (ends_unread c.args.file.now _ _ _ c.read_file.ensures.answer c.read_file.ensures.nodes c.read_file.ensures.items c.in-Err.is (c.fill-in-Err.ensures.after (λ _ e. e))) in record { answer = all.0; nodes = all.1.0; items = all.1.1.0; marks = all.1.1.1 }

pub returns-else-marks-size : goal.returns-else-marks-size
returns-else-marks-size c = let all = (ends_marked c.args.file.now _ _ _ c.read_file.ensures.answer c.read_file.ensures.nodes c.read_file.ensures.items c.in-Ok.is (omega (arith, c.if-marks-size.false))
    _ c.mark_rows.auto.marks c.mark_rows.ensures c.fill_from.ensures) in record { answer = all.0; nodes = all.1.0; items = all.1.1.0; marks = all.1.1.1 }
