-- The path of find ends at the root; that of a detached row is the row alone.
-- Assumes nothing.
use mathlib.Core.Path.{◌≡◌, ap, ◌∙◌}
use mathlib.Core.Logic.{◌⊎◌, inl, inr}
use mathlib.Core.List.{List, [], ◌∷◌, ◌++◌}
use Prim.Native.Nat.{ℕ, zero, suc, ◌+◌, ◌<◌}
use native.Mathlib.Omega.{arith}
use lib.ListN.{length}
use Rattle.cursor.specs.declared.Node.{Node}
use Rattle.rows.specs.Rows.{node_at}
use Rattle.file.proofs.Parents.{Rooted}
use Rattle.find.specs.Find.{path}
use Rattle.find.proofs.Climbing.{path-top, path-up}

module _ (ns : List Node) (rooted : (i : ℕ) → i < length ns → Rooted ns i) where
  -- the path of row k ends at row 0
  abbrev pub Ends : ℕ → Type 0
  Ends k = (above : List ℕ) × (path ns k ≡ above ++ 0 ∷ [])

  -- so does that of a row of the tree
  up : (most k : ℕ) → k < most → k < length ns → (node_at ns k).detached ≡ 0 → Ends k
  up zero k m l d = absurd (omega arith)
  up (suc most) k m l d = elim (rooted k l) [
    | inl w ↦ elim w.2 [
      | inl z ↦ (let e = z.0 in ([], path-top ns k (omega arith) ∙ ap (λ v. v ∷ []) e))
      | inr p ↦ (let u = up most (node_at ns k).parent (omega arith) (omega arith) w.1 in (k ∷ u.0, path-up ns k p ∙ ap (λ v. k ∷ v) u.1))
    ]
    | inr w ↦ (let e = w.0 in absurd (omega arith))
  ]

  pub until_root : (k : ℕ) → k < length ns → (((node_at ns k).detached ≡ 0) × ((k ≡ 0) ⊎ ((node_at ns k).parent < k)) × Ends k) ⊎ (((node_at ns k).detached ≡ 1) × (path ns k ≡ k ∷ []))
  until_root k l = elim (rooted k l) [
    | inl w ↦ inl (w.0, elim w.2 [ inl z ↦ inl z.0 | inr p ↦ inr p ], up (k + 1) k (omega arith) l w.0)
    | inr w ↦ (let e = w.1 in inr (w.0, path-top ns k (omega arith)))
  ]
