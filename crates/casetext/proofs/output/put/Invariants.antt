-- The bytes so far are put. Assumes nothing.
use Rattle.std.proofs.Common.{◌≡◌, ◌≤◌, min, length, take}
use Rattle.casetext.specs.Text.{Puts}
use Rattle.casetext.proofs.output.put.Given as goal

abbrev pub invariant-loop-byte : goal.invariant-loop-byte
invariant-loop-byte l = record {
  long : length l.out ≡ length l.initial.out;
  after : min l.at (length l.initial.out) ≤ l.end;
  within : l.end ≤ length l.initial.out;
  puts : Puts l.initial.out l.out l.at (take l.byte-index l.bytes) l.end;
}
