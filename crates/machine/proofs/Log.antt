-- Several programs, each run on a part of a file of its own: the header, the tree, detached nodes. Their events, part after part, are a log. Where each part
-- lies apart from the log before it, no two events share a byte. So files that agree outside the free bytes of the whole log agree on all its others: `stable`
-- then holds of each run, and which run comes next may depend on what the earlier ones read.
-- Assumes nothing.
use mathlib.Core.Path.{◌≡◌}
use mathlib.Core.Bool.{Bool}
use mathlib.Core.Logic.{◌⊎◌, inl, inr}
use mathlib.Core.List.{List, [], ◌∷◌, ◌++◌}
use Prim.Native.Nat.{ℕ, ◌≤◌, ◌<◌}
use lib.ListN.{get_or}
use Rattle.machine.specs.Machine.{Event, seen, passed}
use Rattle.machine.proofs.Stable.{Chain, end_of, Covers, Separate, covered, separate, Free, Held, Kept, held}

module _ {K W : Type 0} where
  pub held-parts : (free : W → Bool) (P : ℕ → Type 0) (es fs : List (Event K W)) → Held free P (es ++ fs) → Held free P es × Held free P fs
  held-parts free P [] fs x = (tt, x)
  held-parts free P (seen κ p ∷ es) fs x = let (a, b) = held-parts free P es fs x.1 in ((x.0, a), b)
  held-parts free P (passed w p n ∷ es) fs x = let (a, b) = held-parts free P es fs x.1 in ((x.0, a), b)

  covers-parts : (es fs : List (Event K W)) (k : ℕ) → Covers (es ++ fs) k → Covers es k ⊎ Covers fs k
  covers-parts [] fs k x = inr x
  covers-parts (e ∷ es) fs k (inl x) = inl (inl x)
  covers-parts (e ∷ es) fs k (inr y) = elim (covers-parts es fs k y) [ inl z ↦ inl (inr z) | inr z ↦ inr z ]

  separate_on : (es fs : List (Event K W)) → Separate es → Separate fs → ((k : ℕ) → Covers es k → Covers fs k → ⊥) → Separate (es ++ fs)
  separate_on [] fs a b h = b
  separate_on (e ∷ es) fs a b h = (λ k x y. elim (covers-parts es fs k y) [ inl z ↦ a.0 k x z | inr z ↦ h k (inl x) z ], separate_on es fs a.1 b (λ k x y. h k (inr x) y))

  -- ---- the log's events share no byte, and lie in R

  pub record Sound (R : ℕ → Type 0) (es : List (Event K W)) : Type 0 where
    pub apart : Separate es
    pub within : (k : ℕ) → Covers es k → R k

  -- one run
  pub sound_run : (es : List (Event K W)) (at : ℕ) → Chain at es → Sound (λ k. (at ≤ k) × (k < end_of at es)) es
  sound_run es at c = record { apart = separate es at c; within = λ k x. covered es at k c x }

  -- a log, and another that lies apart from it
  pub sound_on : {R S : ℕ → Type 0} {es fs : List (Event K W)} → Sound R es → Sound S fs → ((k : ℕ) → R k → S k → ⊥) → Sound (λ k. R k ⊎ S k) (es ++ fs)
  sound_on {es = es} {fs} a b h = record {
    apart = separate_on es fs a.apart b.apart (λ k x y. h k (a.within k x) (b.within k y));
    within = λ k x. elim (covers-parts es fs k x) [ inl y ↦ inl (a.within k y) | inr y ↦ inr (b.within k y) ];
  }

  pub sound_in : {R S : ℕ → Type 0} {es : List (Event K W)} → ((k : ℕ) → R k → S k) → Sound R es → Sound S es
  sound_in h a = record { apart = a.apart; within = λ k x. h k (a.within k x) }

  -- files that agree in R outside the free bytes agree on all other bytes of the log
  pub sound_kept : (free : W → Bool) {R : ℕ → Type 0} (f g : List ℕ) (es : List (Event K W)) → Sound R es →
      ((k : ℕ) → R k → (Free free es k → ⊥) → get_or f k 0 ≡ get_or g k 0) → Kept free f g es
  sound_kept free f g es a h = held free _ es a.apart (λ k x u. h k (a.within k x) u)
