-- `add_file` gives the sums with one more file.
-- Assumes nothing.
use native.Mathlib.Omega.{arith}
use Rattle.refusals.proofs.Passing.{passed_on}
use Rattle.usage.proofs.Accounting.{with_none, with_over, with_long, with_short}
use Rattle.usage.proofs.sums.add_file.Goals as goal

pub returns-then-t-ge-MOST_FILES : goal.returns-then-t-ge-MOST_FILES
returns-then-t-ge-MOST_FILES c = with_over _ c.in_ok-t.was c.if-t-ge-MOST_FILES.true

pub returns-then-file-gt-LONGEST : goal.returns-then-file-gt-LONGEST
returns-then-file-gt-LONGEST c = with_long _ c.in_ok-t.was (omega (arith, c.if-t-ge-MOST_FILES.false)) c.if-file-gt-LONGEST.true c.add_long.ensures

pub returns-in_err-t : goal.returns-in_err-t
returns-in_err-t c = rw (passed_on c.from_residual.ensures.1) (with_none _ c.in_err-t.was)

pub returns : goal.returns
returns c = with_short _ c.in_ok-t.was (omega (arith, c.if-t-ge-MOST_FILES.false)) (omega (arith, c.if-file-gt-LONGEST.false)) c.add_short.ensures
