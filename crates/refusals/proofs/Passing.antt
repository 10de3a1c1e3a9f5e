-- What a `?` returns when it passes a refusal on.
-- Assumes nothing.
use Rattle.std.proofs.Common.{◌≡◌, Result, Err, ap, ◌∙◌, IsErrAnd}
use Rattle.std.proofs.lemmas.Result.{err_from_is_err_and}
use Rattle.refusals.specs.declared.Refusal.{Refusal}

-- the very refusal
pub passed_on : {A : Type 0} {q : Result A Refusal} {r : Refusal} → IsErrAnd q (λ e. e ≡ r) → q ≡ Err r
passed_on {A} {q} k = let p = err_from_is_err_and q k in p.1 ∙ ap Err p.2
