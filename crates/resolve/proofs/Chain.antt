-- The chain of references, case by case, on rows and on the words they are read from.
-- Assumes nothing.
use mathlib.Core.Path.{◌≡◌, refl, sym, ap, subst, ◌∙◌}
use mathlib.Core.List.{List}
use Prim.Native.Nat.{ℕ, zero, suc, ◌+◌, ◌*◌, ◌-◌, ◌≤◌, ◌<◌}
use native.Mathlib.Omega.{arith}
use lib.ListN.{length}
use borrow.Author.Tests.{eq-eqb, ne_eqb, lt-ltb, le-ltb}
use Rattle.cursor.specs.declared.Node.{Node}
use Rattle.rows.specs.Rows.{node_width, node_from, nodes_in, node_at}
use Rattle.file.specs.Asking.{Result, good, bad}
use Rattle.rows.proofs.Rows.{node_at_lem, nodes-in_length}
use Rattle.resolve.specs.Resolve.{Resource, row_starting, resource_of, reached, chain, resolve_row}
use Rattle.resolve.specs.Told.{Linked}

-- ---- the answer at a node

module _ (r : Node) (k hops : ℕ) (two three : Result Resource) where
  pub reached-folder : (r.contained ≡ 0 → ⊥) → reached r k hops two three ≡ bad 19 0
  unfolding reached
  reached-folder n = simp (ne_eqb _ _ n)

  module _ (file : r.contained ≡ 0) where
    pub reached-one : r.reference ≡ 1 → reached r k hops two three ≡ resource_of r k hops
    unfolding reached
    reached-one e = simp (eq-eqb _ _ file, eq-eqb _ _ e)

    pub reached-two : r.reference ≡ 2 → reached r k hops two three ≡ two
    unfolding reached
    reached-two e = let n : r.reference ≡ 1 → ⊥ = λ z. omega arith in simp (eq-eqb _ _ file, ne_eqb _ _ n, eq-eqb _ _ e)

    pub reached-three : r.reference ≡ 3 → reached r k hops two three ≡ three
    unfolding reached
    reached-three e =
        let n : r.reference ≡ 1 → ⊥ = λ z. omega arith in let m : r.reference ≡ 2 → ⊥ = λ z. omega arith in
        simp (eq-eqb _ _ file, ne_eqb _ _ n, ne_eqb _ _ m, eq-eqb _ _ e)

    pub reached-uri : (r.reference ≡ 1 → ⊥) → (r.reference ≡ 2 → ⊥) → (r.reference ≡ 3 → ⊥) → reached r k hops two three ≡ bad 20 0
    unfolding reached
    reached-uri n m o = simp (eq-eqb _ _ file, ne_eqb _ _ n, ne_eqb _ _ m, ne_eqb _ _ o)

-- ---- the chain from row k of the words

-- the two answers if a reference is followed
abbrev after_two : ℕ → List Node → ℕ → ℕ → Result Resource
after_two zero ns k hops = bad 21 0
after_two (suc left) ns k hops = resource_of (node_at ns k) k (hops + 1)

abbrev after_three : ℕ → List Node → ℕ → ℕ → Result Resource
after_three zero ns k hops = bad 21 0
after_three (suc left) ns k hops = chain left ns (row_starting ns (node_at ns k).target) (hops + 1)

chain-is : (left : ℕ) (ns : List Node) (k hops : ℕ) → chain left ns k hops ≡ reached (node_at ns k) k hops (after_two left ns k hops) (after_three left ns k hops)
unfolding chain
chain-is zero ns k hops = refl
chain-is (suc left) ns k hops = refl

module _ (ws : List ℕ) (count left k hops : ℕ) (l : k < count) {r : Node} (is : r ≡ node_from ws (k * node_width)) where
  row_is : node_at (nodes_in count ws) k ≡ r
  row_is = node_at_lem ws count k l ∙ sym is

  on-words : chain left (nodes_in count ws) k hops ≡ reached r k hops (after_two left (nodes_in count ws) k hops) (after_three left (nodes_in count ws) k hops)
  on-words = chain-is left (nodes_in count ws) k hops ∙ ap (λ r. reached r k hops (after_two left (nodes_in count ws) k hops) (after_three left (nodes_in count ws) k hops)) row_is

  pub at_folder : (r.contained ≡ 0 → ⊥) → bad 19 0 ≡ chain left (nodes_in count ws) k hops
  at_folder n = sym (on-words ∙ reached-folder _ k hops _ _ n)

  module _ (file : r.contained ≡ 0) where
    pub at_one : r.reference ≡ 1 → good (record { place = r.target; size = r.extent; row = k; hops = hops }) ≡ chain left (nodes_in count ws) k hops
    unfolding resource_of
    at_one e = sym (on-words ∙ reached-one _ k hops _ _ file e)

    pub at_uri : (r.reference ≡ 1 → ⊥) → (r.reference ≡ 2 → ⊥) → (r.reference ≡ 3 → ⊥) → bad 20 0 ≡ chain left (nodes_in count ws) k hops
    at_uri n m o = sym (on-words ∙ reached-uri _ k hops _ _ file n m o)

    pub two-many : r.reference ≡ 2 → left ≡ 0 → bad 21 0 ≡ chain left (nodes_in count ws) k hops
    two-many e z = sym (on-words ∙ reached-two _ k hops _ _ file e ∙ ap (λ n. after_two n (nodes_in count ws) k hops) z)

    pub three_many : r.reference ≡ 3 → left ≡ 0 → bad 21 0 ≡ chain left (nodes_in count ws) k hops
    three_many e z = sym (on-words ∙ reached-three _ k hops _ _ file e ∙ ap (λ n. after_three n (nodes_in count ws) k hops) z)

    module _ (more : left ≡ 0 → ⊥) where
      less : left ≡ suc (left - 1)
      less = omega arith

      pub two-on : r.reference ≡ 2
          → good (record { place = r.target; size = r.extent; row = k; hops = hops + 1 }) ≡ chain left (nodes_in count ws) k hops
      unfolding resource_of
      two-on e =
          sym
          (on-words ∙ reached-two _ k hops _ _ file e ∙ ap (λ n. after_two n (nodes_in count ws) k hops) less
          ∙ ap (λ r. resource_of r k (hops + 1)) row_is)

      pub three_on : r.reference ≡ 3 → {next : ℕ} → next ≡ row_starting (nodes_in count ws) r.target → {a : Result Resource}
          → a ≡ chain (left - 1) (nodes_in count ws) next (hops + 1) → a ≡ chain left (nodes_in count ws) k hops
      three_on e {next} s {a} t =
          t ∙ ap (λ n. chain (left - 1) (nodes_in count ws) n (hops + 1)) (s ∙ ap (row_starting (nodes_in count ws)) (ap (λ (r : Node). r.target) (sym row_is)))
          ∙ sym (on-words ∙ reached-three _ k hops _ _ file e ∙ ap (λ n. after_three n (nodes_in count ws) k hops) less)

-- the row that a reference 3 leads to is there
pub next-there : (ws : List ℕ) (count k : ℕ) → k < count → Linked (nodes_in count ws) → {r : Node} → r ≡ node_from ws (k * node_width) →
    r.reference ≡ 3 → {next : ℕ} → next ≡ row_starting (nodes_in count ws) r.target
    → next < count
next-there ws count k l h {r} is e {next} s =
    let c = nodes-in_length ws count in
    let w : (node_at (nodes_in count ws) k).reference ≡ 3 → row_starting (nodes_in count ws) (node_at (nodes_in count ws) k).target < length (nodes_in count ws) = h k (omega arith) in
    let v : row_starting (nodes_in count ws) r.target < length (nodes_in count ws) = subst
    (λ (x : Node). x.reference ≡ 3 → row_starting (nodes_in count ws) x.target < length (nodes_in count ws))
    (node_at_lem ws count k l ∙ sym is) w e in
    omega arith

-- ---- a row

module _ (ws : List ℕ) (count row : ℕ) where
  pub row_none : count ≤ row → bad 18 0 ≡ resolve_row row (nodes_in count ws)
  unfolding resolve_row
  row_none l = let c = nodes-in_length ws count in let m : length (nodes_in count ws) ≤ row = omega arith in simp (le-ltb _ _ m)

  pub row_there : row < count → {a : Result Resource} → a ≡ chain 4 (nodes_in count ws) row 0 → a ≡ resolve_row row (nodes_in count ws)
  unfolding resolve_row
  row_there l {a} e = let c = nodes-in_length ws count in let m : row < length (nodes_in count ws) = omega arith in e ∙ simp (lt-ltb _ _ m)
