-- The place is within the buffer, whose length stays. Assumes nothing.
use Rattle.std.proofs.Common.{◌≡◌, ◌≤◌, min, length}
use Rattle.casetext.proofs.output.put_hex.Given as goal

abbrev pub invariant-loop-byte : goal.invariant-loop-byte
invariant-loop-byte l = (length l.out ≡ length l.initial.out) × (min l.at (length l.out) ≤ l.end) × (l.end ≤ length l.out)
