-- Elements stored one after the other: of a list, and the same one again and again.
-- Assumes nothing.
use Rattle.std.proofs.Common.{◌≡◌, ◌∷◌, [], ◌++◌, ◌+◌, ◌<◌, ◌≤◌, ℕ, List, length, take, replicate, sym, ap, ◌∙◌, arith, slice_set, slice_index_or}
use lib.Seq.{paste, take_all, length-take-le}
use Rattle.std.proofs.lemmas.List.{take_more}
use Rattle.std.proofs.lemmas.List.Edits.{sets, fill_from_more}
use Rattle.room.proofs.Sets.{sets-append}

module _ {X : Type 0} where
  -- the first i elements are y; so is the next
  pub filled_more : (d : List X) {xs : List X} (i : ℕ) (y : X) → i < length d → xs ≡ paste d 0 (replicate i y) i → slice_set xs i y ≡ paste d 0 (replicate (i + 1) y) (i + 1)
  filled_more d {xs} i y l k =
      let e : 0 + i ≡ i = omega arith in
      ap (λ ws. slice_set ws i y) k ∙ ap (λ j. slice_set (paste d 0 (replicate i y) i) j y) (sym e) ∙ fill_from_more d 0 i y (omega arith)

module _ {X : Type 0} (t : List X) (at : ℕ) (ys : List X) where
  -- the first i elements are stored; so is the next
  pub more : (i : ℕ) {t' : List X} {y : X} → i < length ys → y ≡ slice_index_or ys i y → t' ≡ sets t at (take i ys) → slice_set t' (at + i) y ≡ sets t at (take (i + 1) ys)
  more i {t'} {y} l e k =
      ap (λ ws. slice_set ws (at + i) y) k
      ∙ ap (λ n. slice_set (sets t at (take i ys)) (at + n) y) (sym (length-take-le i ys (omega arith)))
      ∙ sets-append t at (take i ys) (y ∷ [])
      ∙ ap (sets t at) (ap (λ z. take i ys ++ z ∷ []) e ∙ sym (take_more ys i y l))

  pub all : (i : ℕ) {t' : List X} → length ys ≤ i → t' ≡ sets t at (take i ys) → t' ≡ sets t at ys
  all i l k = k ∙ ap (sets t at) (take_all i ys l)
