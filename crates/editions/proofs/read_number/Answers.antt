-- `read_number` reads a field's number. The invariant: v is what the digits before this one say, in 01's spelling.
-- Assumes nothing.
use mathlib.Core.Path.{sym, ◌∙◌}
use mathlib.Core.Logic.{inl, inr}
use native.Mathlib.Omega.{arith}
use Rattle.std.proofs.lemmas.Bool.{false≢true}
use Rattle.std.proofs.lemmas.Bool.Decides.{Decides-eqb}
use Rattle.std.proofs.lemmas.Slice.Eq.{slice_eq-Decides}
use Rattle.editions.proofs.Numbers.{number-empty, number-zero, number-zeros, no-length, some-length, digit_start, digit_small, digit_bad, digit_over, digit_on, digit_end}
use Rattle.editions.proofs.read_number.Goals as goal
use Rattle.editions.proofs.read_number.Goals.{then-is_empty-via-then-is_empty, then-is_empty-via-else-is_empty+then-field-eq48, then-d-lt48-via-then-d-lt48, then-d-lt48-via-else-d-lt48+then-d-gt57}

pub returns-then-eq : goal.returns-then-eq
returns-then-eq c = number-zero _ ((slice_eq-Decides Decides-eqb _ _ _ c.eq.ensures).0 c.if-eq.true ∙ c.as_slice.ensures)

pub returns-then-is_empty : goal.returns-then-is_empty
returns-then-is_empty c = elim c.then-is_empty.branch [
  | then-is_empty-via-then-is_empty w ↦ number-empty _ (no-length _ (sym c.is_empty.ensures ∙ w.if-is_empty.true))
  | then-is_empty-via-else-is_empty+then-field-eq48 w ↦ number-zeros _ (λ e. false≢true (sym c.if-eq.false ∙ (slice_eq-Decides Decides-eqb _ _ _ c.eq.ensures).1 (e ∙ sym c.as_slice.ensures)))
      (some-length _ (sym c.is_empty.ensures ∙ w.if-is_empty.false)) w.if-field-eq48.true
]

pub loop-b-init : goal.loop-b-init
loop-b-init c = digit_start _ (some-length _ (sym c.is_empty.ensures ∙ c.if-is_empty.false)) c.if-field-eq48.false

pub returns-then-d-lt48 : goal.returns-then-d-lt48
returns-then-d-lt48 c = digit_bad c.loop-b.invariant c.loop-b-test.true c.wide-d.ensures.0 (elim c.then-d-lt48.branch [
  | then-d-lt48-via-then-d-lt48 w ↦ inl w.if-d-lt48.true
  | then-d-lt48-via-else-d-lt48+then-d-gt57 w ↦ inr (w.if-d-lt48.false, w.if-d-gt57.true)
])

pub overflow_mul-v : goal.overflow_mul-v
overflow_mul-v c = omega (arith, digit_small c.loop-b.invariant)

pub overflow_add-v : goal.overflow_add-v
overflow_add-v c = omega (arith, digit_small c.loop-b.invariant)

pub returns-then-v-gt268435455 : goal.returns-then-v-gt268435455
returns-then-v-gt268435455 c = digit_over c.loop-b.invariant c.loop-b-test.true c.wide-d.ensures.0 c.if-v-gt268435455.true

pub loop-b-preserved : goal.loop-b-preserved
loop-b-preserved c = digit_on c.loop-b.invariant c.loop-b-test.true c.wide-d.ensures.0 c.if-d-lt48.false c.if-d-gt57.false c.if-v-gt268435455.false

pub returns : goal.returns
returns c = digit_end c.loop-b.invariant c.loop-b-test.false
