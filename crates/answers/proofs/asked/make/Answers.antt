-- `make` answers the question.
-- Assumes nothing.
use Rattle.lines.proofs.Ending.{gives_as, answered}
use Rattle.answers.proofs.Questioned.{long-is, short-is}
use Rattle.answers.proofs.asked.make.Goals as goal

pub returns-then-file-gt-LONGEST : goal.returns-then-file-gt-LONGEST
returns-then-file-gt-LONGEST c =
    let all = answered (gives_as (long-is _ _ _ _ _ c.if-file-gt-LONGEST.true) c.refuse_long.ensures) in
    record { prefix_len = all.0; gives = all.1 }

pub returns : goal.returns
returns c =
    let all = answered (gives_as (short-is _ _ _ _ _ c.if-file-gt-LONGEST.false) c.make_short.ensures) in
    record { prefix_len = all.0; gives = all.1 }
