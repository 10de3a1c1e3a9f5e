-- Two files that agree on all that the first's header and tree read and pass, but for private data, differ at private places of the first alone: the other half of
-- reading alike. Of a file whose nodes are all in its tree.
-- Assumes nothing.
use mathlib.Core.Path.{◌≡◌, ◌∙◌}
use mathlib.Core.Bool.{Bool, true, false, not, ◌&&◌}
use mathlib.Core.Logic.{◌⊎◌, inl, inr}
use mathlib.Core.List.{List, [], ◌∷◌}
use Prim.Native.Nat.{ℕ, suc, ◌+◌, ◌≤◌, ◌<◌}
use native.Mathlib.Omega.{arith}
use native.Mathlib.Decide.{dec_lt}
use lib.Dec.{T, eqb, eqb→eq}
use lib.ListN.{length, get_or}
use Rattle.machine.specs.Machine.{ok, seen, passed, run, trace, rows_of}
use Rattle.cursor.specs.Rows.{node_row, item_row, plain, Events}
use Rattle.machine.proofs.Agree.{AgreeUpTo}
use Rattle.machine.proofs.Stable.{Chain, end_of, chain, ends, Free, Held, Kept}
use Rattle.machine.proofs.Wp.{All}
use Rattle.header.specs.Header.{Header}
use Rattle.metadata.specs.declared.Limits.{Limits}
use Rattle.metadata.specs.declared.Made.{Made}
use Rattle.metadata.proofs.Ends.{Nothing, Inside}
use Rattle.file_laws.specs.Private.{HiddenData, InlineData, InDetached, InParts, Private, DifferInPrivate}
use Rattle.rows.specs.Rows.{nodes_of, items_of}
use Rattle.file.specs.Reading.{context}
use Rattle.tree.proofs.Ends.{tree-inside}
use Rattle.tree.proofs.Nodes.{inline_is}
use Rattle.tree.proofs.Starts.{tree-attached}
use Rattle.file.proofs.Follow.{tree_of}
use Rattle.file_laws.proofs.Demand.{private_data}

-- ---- a byte of what was read and passed is private, or has what is not

held_at : (B : ℕ → Type 0) (es : Events) (at k : ℕ) → Chain at es → Held private_data B es → at ≤ k → k < end_of at es → Free private_data es k ⊎ B k
held_at B [] at k c h l m = absurd (omega arith)
held_at B (seen κ p ∷ es) at k c h l m = elim (dec_lt at k) [
  | yes i ↦ held_at B es (at + 1) k c.1 h.1 (omega arith) m
  | no i ↦ let e : p ≡ k = omega arith in inr (rw e at h.0)
]
held_at B (passed w p n ∷ es) at k c h l m = elim (dec_lt k (at + n)) [
  | yes i ↦ by (private_data w) (λ t. inl (inl (t, omega arith, omega arith))) (λ t. inr (h.0 t k (omega arith) (omega arith)))
  | no i ↦ elim (held_at B es (at + n) k c.1 h.1 (omega arith) m) [ inl x ↦ inl (inr x) | inr x ↦ inr x ]
]
  where
    by : {C : Type 0} (b : Bool) → (T b → C) → (T (not b) → C) → C
    by true x y = x tt
    by false x y = y tt

-- ---- what is free is private

both : (a b : Bool) → T (a && b) → T a × T b
both true b t = (tt, t)
both false b t = absurd t

free_private : (es : Events) (end size k : ℕ) → All (Inside Nothing end size).asks es → Free private_data es k → HiddenData (items_of es) k ⊎ InlineData (nodes_of es) k
unfolding rows_of
free_private [] end size k a x = elim x [ ]
free_private (seen κ p ∷ es) end size k a x = free_private es end size k a x
free_private (passed (node_row r) p n ∷ es) end size k a (inl (t, lo, hi)) =
    let w = both (eqb r.contained 0) (eqb r.reference 1) t in
    let z : r.contained ≡ 0 = eqb→eq r.contained 0 w.0 in
    let o : r.reference ≡ 1 = eqb→eq r.reference 1 w.1 in
    let e = a.0.4 t in let y : n ≡ r.extent = a.0.3 ∙ inline_is r z o in
    inr (0, omega arith, z, o, omega arith, omega arith)
free_private (passed (node_row r) p n ∷ es) end size k a (inr x) = elim (free_private es end size k a.1 x) [
  | inl (i, l, t, lo, hi) ↦ inl (i, l, t, lo, hi)
  | inr (i, l, z, o, lo, hi) ↦ inr (suc i, omega arith, z, o, lo, hi)
]
free_private (passed (item_row r) p n ∷ es) end size k a (inl (t, lo, hi)) = let x = a.0.0 in let y = a.0.1 in inl (0, omega arith, t, omega arith, omega arith)
free_private (passed (item_row r) p n ∷ es) end size k a (inr x) = elim (free_private es end size k a.1 x) [
  | inl (i, l, t, lo, hi) ↦ inl (suc i, omega arith, t, lo, hi)
  | inr (i, l, z, o, lo, hi) ↦ inr (i, l, z, o, lo, hi)
]
free_private (passed (plain x) p n ∷ es) end size k a (inl y) = absurd y.0
free_private (passed (plain x) p n ∷ es) end size k a (inr y) = free_private es end size k a.1 y

-- ---- so the files differ at private places alone

module _ (lim : Limits) (f g : List ℕ) (h : Header) {m : Made} (inside : h.extent.last < length f)
    (reads : run (tree_of lim (length f) h) f h.extent.start ≡ ok m (h.extent.last + 1)) where
  abbrev log : Events
  log = trace (tree_of lim (length f) h) f h.extent.start

  none-detached : (k : ℕ) → InDetached (nodes_of log) k → ⊥
  none-detached k (i, l, d, lo, hi) = let z = tree-attached (context lim h (length f)) (h.extent.last + 1) f h.extent.start (omega arith) reads i l in omega arith

  pub differ_private : length f ≡ length g → AgreeUpTo f g 0 h.extent.end → Kept private_data f g log → DifferInPrivate h (nodes_of log) (items_of log) f g
  differ_private long head keeps = record {
    same_length = long;
    elsewhere = λ k l o. elim (dec_lt k h.extent.end) [
      | yes i ↦ head k (omega arith) i
      | no i ↦ elim (dec_lt k h.extent.start) [
        | yes j ↦ absurd (o (inr (inr (apart k i (inl j)))))
        | no j ↦ elim (dec_lt h.extent.last k) [ yes n ↦ absurd (o (inr (inr (apart k i (inr n))))) | no n ↦ in_tree_lem k o (omega arith) (omega arith) ]
      ]
    ];
  }
    where
      apart : (k : ℕ) → (k < h.extent.end → ⊥) → (k < h.extent.start) ⊎ (h.extent.last < k) → InParts h (nodes_of log) k → ⊥
      apart k i j (inl x) = i x
      apart k i (inl j) (inr (inl x)) = omega arith
      apart k i (inr j) (inr (inl x)) = omega arith
      apart k i j (inr (inr x)) = none-detached k x

      in_tree_lem : (k : ℕ) → (Private h (nodes_of log) (items_of log) k → ⊥) → h.extent.start ≤ k → k ≤ h.extent.last → get_or f k 0 ≡ get_or g k 0
      in_tree_lem k o lo hi =
          let z = ends (tree_of lim (length f) h) f h.extent.start reads in
          elim (held_at _ log h.extent.start k (chain (tree_of lim (length f) h) f h.extent.start) keeps lo (omega arith)) [
            | inl x ↦ absurd (elim (free_private log (length f) (length f) k
                (tree-inside (context lim h (length f)) f h.extent.start (h.extent.last + 1) (omega arith)) x)
                [ inl y ↦ o (inl y) | inr y ↦ o (inr (inl y)) ])
            | inr x ↦ x
          ]
