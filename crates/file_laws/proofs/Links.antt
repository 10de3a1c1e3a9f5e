-- Each reference 3 of an accepted file leads to a row.
-- Assumes nothing.
use mathlib.Core.Path.{◌≡◌, refl, sym, ap, ◌∙◌, subst}
use mathlib.Core.Bool.{Bool, true, false, not, ◌&&◌, ◌||◌}
use mathlib.Core.Logic.{inl, inr}
use mathlib.Core.List.{List, [], ◌∷◌, ◌++◌}
use Prim.Native.Nat.{ℕ, ◌+◌, ◌≤◌, ◌<◌}
use native.Mathlib.Omega.{arith}
use native.Mathlib.Decide.{dec_lt}
use borrow.Author.Tests.{eq-eqb, not-false}
use lib.Dec.{eqb}
use lib.ListN.{length, get_or-append}
use Rattle.machine.specs.Machine.{trace}
use Rattle.cursor.specs.Rows.{Events}
use Rattle.cursor.specs.declared.Node.{Node}
use Rattle.cursor.specs.declared.Item.{Item}
use Rattle.machine.proofs.Laws.{rows_on}
use Rattle.header.specs.Header.{Header}
use Rattle.metadata.specs.declared.Limits.{Limits}
use Rattle.rows.specs.Rows.{node_of, nodes_of, no_node, node_at}
use Rattle.file.specs.Reading.{good, detached_at, context, rows, read_file}
use Rattle.targets.specs.Targets.{starts_at, is_missing}
use Rattle.tree.proofs.Starts.{detached-row}
use Rattle.file.proofs.Shown.{part-is, header_of_lem}
use Rattle.file.proofs.Follow.{target, Reached, known, added, followed, ReadAs, read_back}
use Rattle.file_laws.proofs.Limited.{Fits, tree-fits, more-fits, no_less}

module _ (lim : Limits) (f : List ℕ) (h : Header) where
  -- ---- each reference 3 of the rows before row i leads to a row

  abbrev Led : ℕ → Events → Type 0
  Led i log = (j : ℕ) → j < i → j < length (nodes_of log) → (node_at (nodes_of log) j).reference ≡ 3 → starts_at (nodes_of log) (node_at (nodes_of log) j).target ≡ true

  starts_on : (ns ms : List Node) (p : ℕ) → starts_at ns p ≡ true → starts_at (ns ++ ms) p ≡ true
  unfolding starts_at
  starts_on [] ms p e = let y : ◌≡◌ {A = ℕ} 0 1 = cc in absurd (omega arith)
  starts_on (r ∷ ns) ms p e = by (eqb r.start p) e (starts_on ns ms p)
    where
      by : (b : Bool) → (b || starts_at ns p) ≡ true → (starts_at ns p ≡ true → starts_at (ns ++ ms) p ≡ true) → (b || starts_at (ns ++ ms) p) ≡ true
      by true z rest = refl
      by false z rest = rest z

  starts_own : (ns : List Node) (r : Node) (ms : List Node) (p : ℕ) → r.start ≡ p → starts_at (ns ++ (r ∷ ms)) p ≡ true
  unfolding starts_at
  starts_own [] r ms p e = rw (eq-eqb _ _ e) refl
  starts_own (q ∷ ns) r ms p e = rw (starts_own ns r ms p e) (by (eqb q.start p))
    where
      by : (b : Bool) → (b || true) ≡ true
      by true = refl
      by false = refl

  one-led : (i : ℕ) (log log' : Events) → h.extent.start ≤ length f → i < length (nodes_of log) → Led i log → Reached lim f h log (node_at (nodes_of log) i) log' → Led (i + 1) log'
  unfolding detached_at is_missing
  one-led i log log' z l s (known x y) = rw y (λ j m n q. elim (dec_lt j i) [
    | yes k ↦ s j k n q
    | no k ↦ let e : j ≡ i = omega arith in rw e
        (found (node_at (nodes_of log) i).reference (starts_at (nodes_of log) (node_at (nodes_of log) i).target) x
        (subst (λ v. (node_at (nodes_of log) v).reference ≡ 3) e q))
  ])
    where
      found : (a : ℕ) (b : Bool) → (eqb a 3 && not b) ≡ false → a ≡ 3 → b ≡ true
      found a b e q = not-false b (sym (ap (λ v. v && not b) (eq-eqb a 3 q)) ∙ e)
  one-led i log log' z l s (added t y) =
      let r = node_at (nodes_of log) i in let es = trace (target lim f h log r) f r.target in
      let n = rows_on node_of log es in
      let w = detached-row f (context lim h (length f)) _ _ _ _ r.target (part-is h (length f) r.target z).0 t.runs in
      let old : (j : ℕ) → j < length (nodes_of log) → node_at (nodes_of log ++ nodes_of es) j ≡ node_at (nodes_of log) j = λ j m. get_or-append
      (nodes_of log) (nodes_of es) no_node j m in
      rw (y, n) (λ j m k q. elim (dec_lt j i) [
        | yes v ↦ subst (λ (g : Node). starts_at (nodes_of log ++ nodes_of es) g.target ≡ true) (sym (old j (omega arith)))
            (starts_on (nodes_of log) (nodes_of es) _ (s j v (omega arith) (ap (λ (g : Node). g.reference) (sym (old j (omega arith))) ∙ q)))
        | no v ↦ let e : i ≡ j = omega arith in subst (λ (g : Node). starts_at (nodes_of log ++ nodes_of es) g.target ≡ true)
            (ap (node_at (nodes_of log)) e ∙ sym (old j (omega arith)))
            (subst (λ v. starts_at (nodes_of log ++ v) r.target ≡ true) (sym w.rows_are)
            (starts_own (nodes_of log) w.row w.others r.target w.start))
      ])

  log-led : {ns : List Node} {is : List Item} (a : ReadAs lim f h ns is) → (j : ℕ) → j < length (nodes_of a.log) → (node_at (nodes_of a.log)
      j).reference ≡ 3 → starts_at (nodes_of a.log) (node_at (nodes_of a.log) j).target ≡ true
  log-led a j m q =
      let b = header_of_lem a in let t = tree-fits (no_less lim) f h a.tree_is in
      let w = followed lim f h (λ i log. Led i log × Fits lim log)
      (λ i log log' s l r. (one-led i log log' (omega arith) l s.0 r, more-fits (no_less lim) f h log log' _ s.1 r)) lim.nodes 0 _
      (λ log e. ((λ j k. absurd (omega arith)), subst (Fits lim) (same e) t)) a.follows in
      let u = w.1.1 in
      w.1.0 j (elim w.2 [ inl k ↦ omega arith | inr k ↦ omega arith ]) m q
    where
      same : {x y : Events} → good x ≡ good y → x ≡ y
      same e = cc

-- each reference 3 of an accepted file leads to a row
pub led : (lim : Limits) (f : List ℕ) {h : Header} {ns : List Node} {is : List Item} → read_file lim f ≡ rows h ns is → (j : ℕ) → j < length
    ns → (node_at ns j).reference ≡ 3 → starts_at ns (node_at ns j).target ≡ true
led lim f {h} {ns} e = let a = read_back lim f e in subst
    (λ v. (j : ℕ) → j < length v → (node_at v j).reference ≡ 3 → starts_at v (node_at v j).target ≡ true) a.nodes-are (log-led lim f h a)
