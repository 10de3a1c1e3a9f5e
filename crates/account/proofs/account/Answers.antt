-- `account` answers what the file gives, and adds it to the totals; a 1,001st file is refused first.
-- Assumes nothing.
use Rattle.account.proofs.Exits.{ends_full, ends_unread, rows-stand, ends_counted}
use Rattle.account.proofs.account.Goals as goal

pub returns-then-totals-ge-MOST_FILES : goal.returns-then-totals-ge-MOST_FILES
returns-then-totals-ge-MOST_FILES c = let all = (ends_full _ _ _ c.args.totals c.if-totals-ge-MOST_FILES.true c.clear_all.ensures.nodes c.clear_all.ensures.items) in record { answer = all.0; totals = all.1.0; nodes = all.1.1.0; items = all.1.1.1 }

pub kinds_of-kinds-requires : goal.kinds_of-kinds-requires
kinds_of-kinds-requires c = rows-stand _ _ _ c.read_file.ensures.answer c.read_file.ensures.nodes c.read_file.ensures.items c.in-Ok.is

pub returns-in-Err : goal.returns-in-Err
returns-in-Err c = let all = (ends_unread _ _ _ c.args.totals c.if-totals-ge-MOST_FILES.false c.read_file.ensures.answer c.read_file.ensures.nodes c.read_file.ensures.items c.in-Err.is c.add_refused-left.ensures) in record { answer = all.0; totals = all.1.0; nodes = all.1.1.0; items = all.1.1.1 }

pub returns-in-Ok : goal.returns-in-Ok
returns-in-Ok c = let all = (ends_counted _ _ _ c.args.totals c.if-totals-ge-MOST_FILES.false c.read_file.ensures.answer c.read_file.ensures.nodes c.read_file.ensures.items c.in-Ok.is c.kinds_of-kinds.ensures c.add-sums.ensures) in record { answer = all.0; totals = all.1.0; nodes = all.1.1.0; items = all.1.1.1 }
