-- A name, compared by slices.
-- Assumes nothing.
use Rattle.std.proofs.Common.{◌≡◌, refl, sym, ap, ◌∙◌, Bool, ◌&&◌, List, [], ◌∷◌, ℕ, suc, ◌+◌, ◌-◌, ◌≤◌, length, arith}
use Rattle.std.specs.Cmp.Lexicographic.{pointwise}
use lib.Dec.{eqb}
use lib.ListN.{get_or, take, drop}
use lib.Seq.{drop-cons}
use Rattle.find.specs.Find.{same_bytes}

-- the bytes from `at` on are the name's, as they are compared one by one
pub compared : (f : List ℕ) (at : ℕ) (name : List ℕ) → at + length name ≤ length f → pointwise eqb (take (at + length name - at) (drop at f)) name ≡ same_bytes f at name
unfolding same_bytes
compared f at name l = let e : at + length name - at ≡ length name = omega arith in ap (λ n. pointwise eqb (take n (drop at f)) name) e ∙ by at name l
  where
    by : (at : ℕ) (name : List ℕ) → at + length name ≤ length f → pointwise eqb (take (length name) (drop at f)) name ≡ same_bytes f at name
    by at [] l = refl
    by at (b ∷ bs) l =
        let e : at + 1 ≡ suc at = omega arith in
        ap (λ v. pointwise eqb (take (suc (length bs)) v) (b ∷ bs)) (drop-cons f at 0 (omega arith))
        ∙ ap (λ (v : Bool). eqb (get_or f at 0) b && v) (by (suc at) bs (omega arith) ∙ ap (λ k. same_bytes f k bs) (sym e))
