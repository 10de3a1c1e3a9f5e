-- The bytes of the file, as the code puts them.
-- Assumes nothing.
use mathlib.Core.Path.{◌≡◌, refl, sym, ◌∙◌}
use mathlib.Core.List.{List, [], ◌∷◌, append-nil}
use Prim.Native.Nat.{ℕ, ◌+◌, ◌-◌, ◌≤◌, ◌<◌, min}
use native.Mathlib.Omega.{arith}
use native.Mathlib.Decide.{dec_lt}
use lib.ListN.{length, take, drop, length-take, length-drop}
use lib.Seq.{take_all}
use Rattle.room.specs.Parts.{part, joined}
use Rattle.vlq.specs.Vlq.{vlq}
use Rattle.room.proofs.Lies.{joined_length}
use Rattle.title_text.specs.Text.{start_at, file_bytes, tree_start, assembled, file_of}
use Rattle.room.specs.Counts.{Counts}
use Rattle.room.proofs.Counting.{counts-as, counts-then, part_length}
use Rattle.title_nodes.specs.Passes.{size_stop}
use Rattle.title_file.specs.Told.{Fills}

pub fills-as : {o o' : List ℕ} {r : ℕ} {a b : List ℕ} → a ≡ b → Fills o o' a r → Fills o o' b r
fills-as e p = rw e at p

-- ---- the parts

module _ (opening types gap tree after : List ℕ) where
  abbrev start : ℕ
  start = tree_start opening types gap tree after

  -- no part has more bytes than the whole
  types-within : length types + length tree ≤ length (file_of opening types gap tree after)
  unfolding file_of assembled
  types-within = omega (arith, joined_length (opening ∷ vlq (start + length tree + length after) ∷ types ∷ vlq start ∷ vlq (start + length tree - 1) ∷ gap ∷ tree ∷ after ∷ []))

  -- a tree that is too large
  pub file-stops : {r : ℕ} → r ≡ min (length tree) size_stop → r ≡ size_stop → {o : List ℕ} → Fills o o (file_of opening types gap tree after) r
  file-stops e h = record { small = λ l. absurd (omega (arith, types-within)); large = λ l. omega arith }

  module _ {n t first : ℕ} (m : n ≡ min (length types) size_stop) (et : t ≡ length tree)
      (ef : first ≡ start_at (length opening + n + length gap) t (file_bytes (length opening + n + length gap) t (length after)))
      {o o₁ o₂ o₃ o₄ o₅ o₆ o₇ o₈ : List ℕ} {s₁ s₂ s₃ s₄ s₅ s₆ s₇ s₈ : ℕ} (p₁ : Counts o o₁ 0 opening s₁)
      (p₂ : Counts o₁ o₂ s₁ (vlq (first + t + length after)) s₂) (p₃ : Counts o₂ o₃ s₂ types s₃)
      (p₄ : Counts o₃ o₄ s₃ (vlq first) s₄) (p₅ : Counts o₄ o₅ s₄ (vlq (first + t - 1)) s₅) (p₆ : Counts o₅ o₆ s₅ gap s₆)
      (p₇ : Counts o₆ o₇ s₆ tree s₇) (p₈ : Counts o₇ o₈ s₇ after s₈) where
    abbrev all : List ℕ
    all = joined (opening ∷ vlq (first + t + length after) ∷ types ∷ vlq first ∷ vlq (first + t - 1) ∷ gap ∷ tree ∷ after ∷ [])

    chain : Counts o o₈ 0 all s₈
    chain = counts-then p₁ (counts-then p₂ (counts-then p₃ (counts-then p₄ (counts-then p₅ (counts-then p₆ (counts-then p₇ (counts-as (sym (append-nil after)) p₈)))))))

    exact : length types < size_stop → Counts o o₈ 0 (file_of opening types gap tree after) s₈
    unfolding file_of assembled tree_start
    exact l =
        let a : n ≡ length types = omega arith in let b : first ≡ start = ef ∙ rw (a, et) refl in
        counts-as (rw (b, et) refl) chain

    pub file-put : Fills o o₈ (file_of opening types gap tree after) s₈
    file-put = elim (dec_lt (length types) size_stop) [
      | yes l ↦ let p = exact l in record { small = λ _. p; large = λ g. omega (arith, p.after) }
      | no l ↦
          let k = joined_length (opening ∷ vlq (first + t + length after) ∷ types ∷ vlq first ∷ vlq (first + t - 1) ∷ gap ∷ tree ∷ after ∷ []) in
          record { small = λ g. absurd (omega (arith, types-within)); large = λ g. omega (arith, chain.after) }
    ]

-- ---- parts of the file that was read

module _ (f : List ℕ) (opening end start last : ℕ) (types tree : List ℕ) (inside : (opening ≤ length f) × (end ≤ start) × (start ≤ last) × (last < length f)) where
  abbrev behind : ℕ
  behind = length f - (last + 1)

  front_length : length (take opening f) ≡ opening
  front_length = simp length-take (omega arith)

  gap_length : length (part f end (start - end)) ≡ start - end
  gap_length = part_length f end (start - end) (omega arith)

  after_is : part f (last + 1) behind ≡ drop (last + 1) f
  after_is = take_all behind (drop (last + 1) f) (omega (arith, length-drop (last + 1) f))

  pub copied-put : {n t first : ℕ} → n ≡ min (length types) size_stop → t ≡ length tree → first ≡ start_at (opening + n + (start - end)) t
      (file_bytes (opening + n + (start - end)) t behind) → {o o₁ o₂ o₃ o₄ o₅ o₆ o₇ o₈ : List ℕ} {s₁ s₂ s₃ s₄ s₅ s₆ s₇ s₈ : ℕ}
      → Counts o o₁ 0 (part f 0 opening) s₁ → Counts o₁ o₂ s₁ (vlq (first + t + behind)) s₂ → Counts o₂ o₃ s₂ types s₃ → Counts o₃ o₄ s₃
      (vlq first) s₄ → Counts o₄ o₅ s₄ (vlq (first + t - 1)) s₅ → Counts o₅ o₆ s₅ (part f end (start - end)) s₆
      → Counts o₆ o₇ s₆ tree s₇ → Counts o₇ o₈ s₇ (part f (last + 1) behind) s₈ → Fills o o₈ (file_of (take opening f) types (part f end (start - end)) tree (drop (last + 1) f)) s₈
  copied-put {n} {t} {first} m et ef p₁ p₂ p₃ p₄ p₅ p₆ p₇ p₈ =
      let a : length (drop (last + 1) f) ≡ behind = length-drop (last + 1) f in
      file-put (take opening f) types (part f end (start - end)) tree (drop (last + 1) f) m et (rw (front_length, gap_length, a) ef) p₁ (rw a p₂)
      p₃ p₄ p₅ p₆ p₇ (counts-as after_is p₈)
