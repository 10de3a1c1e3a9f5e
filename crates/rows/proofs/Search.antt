-- The search for a row by its start.
-- Assumes nothing.
use mathlib.Core.Path.{◌≡◌, sym, ap, ◌∙◌, subst}
use mathlib.Core.List.{List, [], ◌∷◌}
use Prim.Native.Nat.{ℕ, zero, suc, ◌+◌, ◌*◌, ◌≤◌, ◌<◌}
use native.Mathlib.Omega.{arith}
use native.Mathlib.Decide.{dec_lt}
use lib.ListN.{length}
use borrow.Author.Tests.{eq-eqb, ne_eqb}
use Rattle.cursor.specs.declared.Node.{Node}
use Rattle.rows.specs.Rows.{node_width, node_from, nodes_in, node_at, row_starting, Rising}
use Rattle.rows.proofs.Rows.{node_at_lem, nodes-in_length}

-- the number of a row that starts at p, where none before it does; or how many rows there are, where none does
starting_is : (ns : List Node) (p k : ℕ) → k ≤ length ns → (k < length ns → (node_at ns k).start ≡ p) → ((i : ℕ) → i < k → (node_at ns i).start ≡ p → ⊥) → k ≡ row_starting ns p
unfolding row_starting
starting_is [] p k l e n = omega arith
starting_is (r ∷ rs) p zero l e n = let q : r.start ≡ p = e (omega arith) in simp (eq-eqb _ _ q)
starting_is (r ∷ rs) p (suc k) l e n =
    let q : r.start ≡ p → ⊥ = n 0 (omega arith) in
    simp (ne_eqb _ _ q) (ap suc (starting_is rs p k (omega arith) (λ j. e (omega arith)) (λ i j. n (suc i) (omega arith))))

-- rows before `low` start before the place, rows from `high` on start after it
pub record Between (ws : List ℕ) (count place low high : ℕ) : Type 0 where
  pub before : (i : ℕ) → i < low → (node_from ws (i * node_width)).start < place
  pub after : (i : ℕ) → high ≤ i → i < count → place < (node_from ws (i * node_width)).start

pub search_begins : (ws : List ℕ) (count place : ℕ) → Between ws count place 0 count
search_begins ws count place = record { before = λ i l. absurd (omega arith); after = λ i l m. absurd (omega arith) }

-- no row before row i starts there
abbrev pub NoneBefore : List ℕ → ℕ → ℕ → Type 0
NoneBefore ws place i = (j : ℕ) → j < i → (node_from ws (j * node_width)).start ≡ place → ⊥

module _ (ws : List ℕ) (tree count place : ℕ) (few : tree ≤ count) where
  start-at : (i : ℕ) → i < count → (node_at (nodes_in count ws) i).start ≡ (node_from ws (i * node_width)).start
  start-at i l = ap (λ (r : Node). r.start) (node_at_lem ws count i l)

  module _ (h : Rising (nodes_in tree ws)) where
    later-start : (i j : ℕ) → i < j → j < tree → (node_from ws (i * node_width)).start < (node_from ws (j * node_width)).start
    later-start i j l m =
        let c = nodes-in_length ws tree in let g = h i j l (omega arith) in
        omega (arith, ap (λ (r : Node). r.start) (node_at_lem ws tree i (omega arith)), ap (λ (r : Node). r.start) (node_at_lem ws tree j m))

    module _ (k : ℕ) (l : k < tree) {r : Node} (is : r ≡ node_from ws (k * node_width)) where
      module _ {low high : ℕ} (b : Between ws tree place low high) where
        pub search_later : r.start < place → Between ws tree place (k + 1) high
        search_later g₀ =
            let g : (node_from ws (k * node_width)).start < place = rw is at g₀ in
            record {
              before = λ i m. elim (dec_lt i k) [
                | yes n ↦ omega (arith, later-start i k n l)
                | no n ↦ let e : i ≡ k = omega arith in rw e g
              ];
              after = b.after;
            }

        pub search_sooner : place < r.start → Between ws tree place low k
        search_sooner g₀ =
            let g : place < (node_from ws (k * node_width)).start = rw is at g₀ in
            record {
              before = b.before;
              after = λ i m n. elim (dec_lt k i) [
                | yes o ↦ omega (arith, later-start k i o n)
                | no o ↦ let e : i ≡ k = omega arith in rw e g
              ];
            }

      pub search_found : r.start ≡ place → k ≡ row_starting (nodes_in count ws) place
      search_found e₀ =
          let c = nodes-in_length ws count in
          let e : (node_from ws (k * node_width)).start ≡ place = rw is at e₀ in
          starting_is (nodes_in count ws) place k (omega arith) (λ m. start-at k (omega arith) ∙ e) (λ i m q. omega (arith, start-at i (omega arith), later-start i k m l))

  pub search_none : {low high : ℕ} → Between ws tree place low high → high ≤ low → NoneBefore ws place tree
  search_none {low} b l j m q = elim (dec_lt j low) [
    | yes n ↦ omega (arith, b.before j n)
    | no n ↦ omega (arith, b.after j (omega arith) m)
  ]

  module _ {i : ℕ} (b : NoneBefore ws place i) {r : Node} (is : r ≡ node_from ws (i * node_width)) where
    pub linear_on : ((r.start ≡ place) → ⊥) → NoneBefore ws place (i + 1)
    linear_on n j m q = elim (dec_lt j i) [
      | yes l ↦ b j l q
      | no l ↦ let e : j ≡ i = omega arith in n (ap (λ (x : Node). x.start) is ∙ subst (λ v. (node_from ws (v * node_width)).start ≡ place) e q)
    ]

    pub linear_found : i < count → r.start ≡ place → i ≡ row_starting (nodes_in count ws) place
    linear_found l e =
        let c = nodes-in_length ws count in
        starting_is (nodes_in count ws) place i (omega arith) (λ m. start-at i l ∙ sym (ap (λ (x : Node). x.start) is) ∙ e) (λ j m q. b j m (sym (start-at j (omega arith)) ∙ q))

  pub linear_ends : {i : ℕ} → NoneBefore ws place i → i ≡ count → count ≡ row_starting (nodes_in count ws) place
  linear_ends {i} b e = let c = nodes-in_length ws count in starting_is (nodes_in count ws) place count (omega arith)
      (λ m. absurd (omega arith)) (λ j m q. b j (omega arith) (sym (start-at j (omega arith)) ∙ q))
