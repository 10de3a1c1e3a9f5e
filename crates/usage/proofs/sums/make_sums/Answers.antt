-- `make_sums` answers the sums, or the refusal.
-- Assumes nothing.
use mathlib.Core.Path.{ap}
use Rattle.usage.specs.Bytes.{summed, sums_of, sums_told}
use Rattle.lines.proofs.Ending.{gives_as, answered, printed-good, printed-bad}
use Rattle.usage.proofs.sums.make_sums.Goals as goal

pub returns-in-Err : goal.returns-in-Err
unfolding sums_of
returns-in-Err c = let all = (answered (gives_as (printed-bad summed _ _ (ap sums_told c.in-Err.is)) c.refuse.ensures)) in record { prefix_len = all.0; gives = all.1 }

pub returns-in-Ok : goal.returns-in-Ok
unfolding sums_of
returns-in-Ok c = let all = (answered (gives_as (printed-good summed _ _ (ap sums_told c.in-Ok.is)) (c.conclude.ensures _ _ c.put_sums-end.ensures))) in record { prefix_len = all.0; gives = all.1 }
