-- `copy_entries` puts one after the other. The invariant: what is put and what is left are the whole.
-- Assumes nothing.
use Rattle.title_parts.proofs.Copying.{copying_start, copying_on, copying_no, copying_end, entry-behind, copied-was, copied-no, copies-no}
use Rattle.refusals.proofs.Passing.{passed_on}
use native.Mathlib.Omega.{arith}
use Rattle.title_parts.proofs.copy_entries.Goals as goal

pub loop-i-init : goal.loop-i-init
loop-i-init c = copying_start _ _ _ _ _ _ (omega arith)

pub returns-in_err-a : goal.returns-in_err-a
returns-in_err-a c = copies-no (passed_on c.from_residual.ensures.1)
    (copying_no (entry-behind _) c.loop-i.invariant c.loop-i-test.true (copied-no c.copy_entry.ensures c.in_err-a.was))

pub loop-i-preserved : goal.loop-i-preserved
loop-i-preserved c = copying_on (entry-behind _) c.loop-i.invariant c.loop-i-test.true (copied-was c.copy_entry.ensures c.in_ok-a.was)

pub returns : goal.returns
returns c = record { is = copying_end (entry-behind _) c.loop-i.invariant c.loop-i-test.false }
