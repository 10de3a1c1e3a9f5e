-- The bytes of the digits passed are stored.
-- Assumes nothing.
use Rattle.std.proofs.Common.{◌≡◌, ℕ, ◌*◌, ◌≤◌, ◌<◌, length, get_or}
use Rattle.spelling.specs.Spelling.{hex_value, byte_at}
use Rattle.spelling.proofs.spell.Given as goal

abbrev pub invariant-loop-i : goal.invariant-loop-i
invariant-loop-i l = record {
  long : length l.bytes ≡ length l.initial.bytes;
  stored : (k : ℕ) → k < l.i → get_or l.bytes k 0 ≡ byte_at l.digits k;
  rest : (k : ℕ) → l.i ≤ k → get_or l.bytes k 0 ≡ get_or l.initial.bytes k 0;
  each : (k : ℕ) → k < 2 * l.i → hex_value (get_or l.digits k 0) ≤ 15;
}
