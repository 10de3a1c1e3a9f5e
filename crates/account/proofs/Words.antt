-- The counts and the totals as words: each at its place, how great it is, and the sum of two.
-- Assumes nothing.
use mathlib.Core.Path.{◌≡◌, refl}
use mathlib.Core.List.{List, [], ◌∷◌}
use Prim.Native.Nat.{ℕ, zero, suc, ◌≤◌, ◌<◌}
use native.Mathlib.Omega.{arith}
use lib.ListN.{get_or}
use Rattle.cursor.specs.Rows.{Events}
use Rattle.account.specs.Account.{places_of, counts, sum_over}
use Rattle.account.specs.ByRows.{plus}
use Rattle.account.specs.Totals.{plus_kinds}
use Rattle.account.specs.Told.{kind_words}
use Rattle.account.specs.declared.Kinds.{Kinds}

pub count_at_lem : (n : ℕ) (es : Events) (κ : ℕ) → κ < 9 → get_or (kind_words (counts n es)) κ 0 ≡ places_of κ es n
count_at_lem n es zero l = refl
count_at_lem n es (suc zero) l = refl
count_at_lem n es (suc (suc zero)) l = refl
count_at_lem n es (suc (suc (suc zero))) l = refl
count_at_lem n es (suc (suc (suc (suc zero)))) l = refl
count_at_lem n es (suc (suc (suc (suc (suc zero))))) l = refl
count_at_lem n es (suc (suc (suc (suc (suc (suc zero)))))) l = refl
count_at_lem n es (suc (suc (suc (suc (suc (suc (suc zero))))))) l = refl
count_at_lem n es (suc (suc (suc (suc (suc (suc (suc (suc zero)))))))) l = refl
count_at_lem n es (suc (suc (suc (suc (suc (suc (suc (suc (suc κ))))))))) l = absurd (omega arith)

pub plus-at : (s k : Kinds) (κ : ℕ) → get_or (kind_words (plus_kinds s k)) κ 0 ≡ plus (get_or (kind_words s) κ 0) (get_or (kind_words k) κ 0)
plus-at s k zero = refl
plus-at s k (suc zero) = refl
plus-at s k (suc (suc zero)) = refl
plus-at s k (suc (suc (suc zero))) = refl
plus-at s k (suc (suc (suc (suc zero)))) = refl
plus-at s k (suc (suc (suc (suc (suc zero))))) = refl
plus-at s k (suc (suc (suc (suc (suc (suc zero)))))) = refl
plus-at s k (suc (suc (suc (suc (suc (suc (suc zero))))))) = refl
plus-at s k (suc (suc (suc (suc (suc (suc (suc (suc zero)))))))) = refl
plus-at s k (suc (suc (suc (suc (suc (suc (suc (suc (suc κ))))))))) = refl

-- a number of a list is at most the sum
pub at_most : (ns : List ℕ) (i : ℕ) → get_or ns i 0 ≤ sum_over (λ n. n) ns
at_most [] i = omega arith
at_most (n ∷ ns) zero = omega arith
at_most (n ∷ ns) (suc i) = let h = at_most ns i in omega arith
