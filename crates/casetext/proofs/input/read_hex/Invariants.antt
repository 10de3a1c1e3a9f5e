-- The bytes of the pairs that were passed are stored, and their digits are hex digits. Assumes nothing.
use Rattle.std.proofs.Common.{◌≡◌, ℕ, ◌<◌, length, get_or}
use Rattle.casetext.specs.Text.{byte_at}
use Rattle.casetext.proofs.input.read_hex.Given as goal

abbrev pub invariant-loop-n : goal.invariant-loop-n
invariant-loop-n l = record { long : length l.bytes ≡ length l.initial.bytes; stored : (k : ℕ) → k < l.n → get_or l.bytes k 0 ≡ byte_at l.digits k }
