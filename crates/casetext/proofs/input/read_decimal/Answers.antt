-- Where a product or a sum does not fit a word, the digits spell no number that does. Assumes nothing.
use Rattle.std.proofs.Common.{◌≡◌, ℕ, ◌+◌, ◌*◌, ◌^◌, ◌≤◌, ◌<◌, List, length, get_or, drop, Option, None, arith}
use Rattle.casetext.specs.Text.{digit_of, value_from, Spells}
use Rattle.casetext.proofs.Laws.{value-over}
use Rattle.casetext.proofs.input.read_decimal.Goals as goal

too_large : (ds : List ℕ) (v i : ℕ) {r : Option ℕ} → r ≡ None → i < length ds → value_from 0 ds ≡ value_from v (drop i ds) → 2 ^ 64 ≤ v * 10 + digit_of (get_or ds i 0) → Spells ds r
too_large ds v i e l k h = rw e (record { meant = tt; taken = λ a b f. absurd (omega (arith, value-over ds v i l k)) })

pub returns-in_err-checked_mul : goal.returns-in_err-checked_mul
returns-in_err-checked_mul c =
    let n = rw c.in_err-checked_mul.was at c.checked_mul.ensures in
    too_large _ c.loop-b.value _ c.from_residual.ensures c.loop-b-test.true c.loop-b.invariant (omega arith)

pub returns-in_err-value : goal.returns-in_err-value
returns-in_err-value c =
    let n = rw c.in_err-value.was at c.checked_add.ensures in
    let p = rw c.in_ok-checked_mul.was at c.checked_mul.ensures in
    too_large _ c.loop-b.value _ c.from_residual-in_err-value.ensures c.loop-b-test.true c.loop-b.invariant (omega (arith, c.digit-d.ensures.0, c.from.ensures))
