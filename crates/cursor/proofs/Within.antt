-- The leaves read no byte at or past the end of their part.
-- Assumes nothing.
use Prim.Native.Nat.{ℕ, zero, suc}
use Rattle.cursor.specs.Rows.{Frame}
use Rattle.cursor.specs.Leaves.{next, digits, number, manufacturer}
use Rattle.machine.proofs.Within.{Within, ends, stops, after, either, places, reads}

module _ (κ : Frame) (end : ℕ) where
  pub next-within : (past p : ℕ) → Within end (next κ past end p)
  unfolding next
  next-within past p = reads _ κ end past p

  digits-within : (past p left v : ℕ) → Within end (digits κ past end p left v)
  unfolding digits
  digits-within past p zero v = stops
  digits-within past p (suc left) v = after (next-within past p) λ b. either _ ends (digits-within past p left _)

  pub manufacturer-within : Within end (manufacturer κ end)
  unfolding manufacturer
  manufacturer-within =
      places λ p. after (next-within _ p) λ b. either _ (after (next-within _ p) λ c. after (next-within _ p) λ d. ends) ends

pub number-within : (κ : Frame) (past end : ℕ) → Within end (number κ past end)
unfolding number
number-within κ past end = places λ p. digits-within κ end past p 4 0
