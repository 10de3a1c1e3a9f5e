-- `judge` gives the verdict of the file's reading, or its refusal, and leaves the tables as the reader does.
-- Assumes nothing.
use Rattle.refusals.proofs.Passing.{passed_on}
use Rattle.file.proofs.Rows.{standing}
use Rattle.file.proofs.Exits.{says-unread}
use Rattle.file.proofs.Own.{tables}
use Rattle.mobile.specs.Mobile.{mobile}
use Rattle.mobile.proofs.Checks.{judged}
use Rattle.mobile.proofs.judge.Goals as goal

pub verdict-requires : goal.verdict-requires
verdict-requires c = tables _ _ (standing _ _ _ _ c.read_file.ensures.answer c.read_file.ensures.nodes c.read_file.ensures.items c.in_ok-s.was)

pub returns-in_err-s : goal.returns-in_err-s
returns-in_err-s c = let w = says-unread _ _ _ (mobile c.args.file.now) c.read_file.ensures.answer c.in_err-s.was
    c.read_file.ensures.nodes c.read_file.ensures.items in
    rw (passed_on c.from_residual.ensures.1) (record { answer = w.0; nodes = w.1; items = w.2 })

pub returns : goal.returns
returns c = let st = standing _ _ _ _ c.read_file.ensures.answer c.read_file.ensures.nodes c.read_file.ensures.items c.in_ok-s.was in
    let w = judged st c.verdict.ensures _ _ c.read_file.ensures.nodes c.read_file.ensures.items in
    record { answer = w.0; nodes = w.1; items = w.2 }
