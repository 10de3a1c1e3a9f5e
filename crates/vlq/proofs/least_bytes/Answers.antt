-- `least_bytes` tries one count after the other.
-- Assumes nothing.
use native.Mathlib.Omega.{arith}
use Prim.Native.Nat.{ℕ}
use Rattle.vlq.proofs.Numbers.{one_byte, two_bytes, three_bytes, four_bytes}
use Rattle.vlq.proofs.least_bytes.Goals as goal

pub returns-then-one-lt128 : goal.returns-then-one-lt128
returns-then-one-lt128 c = λ (n : ℕ → ℕ) a b d. one_byte n (omega (arith, a, c.if-one-lt128.true))

pub returns-then-two-lt16384 : goal.returns-then-two-lt16384
returns-then-two-lt16384 c = λ (n : ℕ → ℕ) a b d. two_bytes n (omega (arith, a, c.if-one-lt128.false)) (omega (arith, b, c.if-two-lt16384.true))

pub returns-then-three-lt2097152 : goal.returns-then-three-lt2097152
returns-then-three-lt2097152 c = λ (n : ℕ → ℕ) a b d. three_bytes n (omega (arith, a, c.if-one-lt128.false)) (omega (arith, b, c.if-two-lt16384.false)) (omega (arith, d, c.if-three-lt2097152.true))

pub returns : goal.returns
returns c = λ (n : ℕ → ℕ) a b d. four_bytes n (omega (arith, a, c.if-one-lt128.false)) (omega (arith, b, c.if-two-lt16384.false)) (omega (arith, d, c.if-three-lt2097152.false))
