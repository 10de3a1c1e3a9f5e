-- How a buffer comes to hold the words of an answer.
-- Assumes nothing.
use mathlib.Core.Path.{◌≡◌, sym, ap, ◌∙◌}
use mathlib.Core.List.{List}
use Prim.Native.Nat.{ℕ, ◌-◌, ◌≤◌}
use native.Mathlib.Omega.{arith}
use lib.ListN.{length, take, replicate, length-take, length-replicate}
use lib.Seq.{sets, take_all}
use Rattle.room.specs.Room.{Result}
use Rattle.room.proofs.Sets.{sets-zeros}
use Rattle.promises.specs.Promises.{saying}
use Rattle.words.specs.Fit.{fit, stored}

module _ (t ws : List ℕ) {t' : List ℕ} where
  pub all-stored : length ws ≤ length t → t' ≡ sets t 0 ws → t' ≡ stored t ws
  unfolding stored
  all-stored l e = e ∙ ap (sets t 0) (sym (take_all (length t) ws l))

  pub part-stored : t' ≡ sets t 0 (take (length t - 0) ws) → t' ≡ stored t ws
  unfolding stored
  part-stored e = e ∙ ap (λ n. sets t 0 (take n ws)) (let z : length t - 0 ≡ length t = omega arith in z)

-- over zeros
pub fits : (size : ℕ) (ws : List ℕ) {t t' : List ℕ} → t ≡ replicate size 0 → t' ≡ stored t ws → t' ≡ fit size ws
unfolding fit stored
fits size ws z e =
    let n : length (take size ws) ≤ size = omega (arith, length-take size ws) in
    e ∙ ap (λ v. sets v 0 (take (length v) ws)) z ∙ ap (λ n. sets (replicate size 0) 0 (take n ws)) (length-replicate size 0) ∙ sets-zeros size (take size ws) n
