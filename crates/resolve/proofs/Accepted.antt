-- The rows of an accepted file: each reference 3 leads to a row, and what a question resolves to lies in the file.
-- Assumes nothing.
use mathlib.Core.Path.{◌≡◌, refl, sym, subst}
use mathlib.Core.Bool.{Bool, true, false, cond, ◌||◌, true≢false}
use mathlib.Core.Logic.{◌⊎◌, inl, inr}
use mathlib.Core.List.{List, [], ◌∷◌}
use Prim.Native.Nat.{ℕ, zero, suc, ◌+◌, ◌≤◌, ◌<◌}
use native.Mathlib.Decide.{ℕ_discrete, dec_lt}
use native.Mathlib.Omega.{arith}
use lib.Dec.{eqb}
use lib.ListN.{length}
use borrow.Author.Tests.{lt-ltb, le-ltb}
use Rattle.cursor.specs.declared.Node.{Node}
use Rattle.cursor.specs.declared.Item.{Item}
use Rattle.header.specs.Header.{Header}
use Rattle.metadata.specs.declared.Limits.{Limits}
use Rattle.file.specs.Reading.{Reading, rows, refusal, read_file}
use Rattle.targets.specs.Targets.{starts_at}
use Rattle.rows.specs.Rows.{node_at, NodeIn}
use Rattle.file.specs.Asking.{Result, good, bad, ask}
use Rattle.file.proofs.Rows.{accepted}
use Rattle.file_laws.proofs.Links.{led}
use Rattle.resolve.specs.Resolve.{Resource, row_starting, resource_of, reached, chain, resolve_row, resolve}
use Rattle.resolve.specs.Told.{Linked}
use Rattle.resolve.proofs.Chain.{reached-folder, reached-one, reached-two, reached-three, reached-uri}

-- ---- each reference 3 leads to a row

below_by : (b c : Bool) (n m : ℕ) → (c ≡ true → n < m) → (b || c) ≡ true → (cond b 0 (suc n)) < suc m
below_by true c n m h e = omega arith
below_by false c n m h e = let x = h e in omega arith

row_below : (ns : List Node) (p : ℕ) → starts_at ns p ≡ true → row_starting ns p < length ns
unfolding starts_at row_starting
row_below [] p e = absurd (true≢false (sym e))
row_below (r ∷ rs) p e = below_by (eqb r.start p) (starts_at rs p) (row_starting rs p) (length rs) (row_below rs p) e

pub linked : (lim : Limits) (f : List ℕ) {h : Header} {ns : List Node} {is : List Item} → read_file lim f ≡ rows h ns is → Linked ns
linked lim f e i l t = row_below _ _ (led lim f e i l t)

-- ---- what is resolved lies in the file

abbrev pub InPart : ℕ → Result Resource → Type 0
InPart size (good r) = r.place + r.size ≤ size
InPart size (bad n p) = Unit {0}

in_resource : (size : ℕ) (r : Node) (k hops : ℕ) → NodeIn size r → (r.reference ≡ 3 → ⊥) → InPart size (resource_of r k hops)
unfolding resource_of
in_resource size r k hops w n = by w.2
  where
    by : (r.reference ≡ 3) ⊎ (r.target + r.extent ≤ size) → r.target + r.extent ≤ size
    by (inl e) = absurd (n e)
    by (inr l) = l

in_reached : (size : ℕ) (r : Node) (k hops : ℕ) (two three : Result Resource) → NodeIn size r → (r.reference ≡ 2 → InPart size two) → (r.reference ≡ 3 → InPart size three)
    → InPart size (reached r k hops two three)
in_reached size r k hops two three w a b =
    elim (ℕ_discrete r.contained 0) [
      | no n ↦ rw (reached-folder r k hops two three n) tt
      | yes z ↦ elim (ℕ_discrete r.reference 1) [
        | yes e ↦ rw (reached-one r k hops two three z e) (in_resource size r k hops w (λ t. omega arith))
        | no n ↦ elim (ℕ_discrete r.reference 2) [
          | yes e ↦ rw (reached-two r k hops two three z e) (a e)
          | no m ↦ elim (ℕ_discrete r.reference 3) [
            | yes e ↦ rw (reached-three r k hops two three z e) (b e)
            | no o ↦ rw (reached-uri r k hops two three z n m o) tt
          ]
        ]
      ]
    ]

module _ (size : ℕ) (ns : List Node) (h : Linked ns) (inside : (i : ℕ) → i < length ns → NodeIn size (node_at ns i)) where
  in_chain : (left k hops : ℕ) → k < length ns → InPart size (chain left ns k hops)
  unfolding chain
  in_chain zero k hops l = in_reached size (node_at ns k) k hops (bad 21 0) (bad 21 0) (inside k l) (λ e. tt) (λ e. tt)
  in_chain (suc left) k hops l =
      in_reached size (node_at ns k) k hops (resource_of (node_at ns k) k (hops + 1)) (chain left ns (row_starting ns (node_at ns k).target) (hops + 1)) (inside k l)
      (λ e. in_resource size (node_at ns k) k (hops + 1) (inside k l) (λ t. omega arith)) (λ e. in_chain left (row_starting ns (node_at ns k).target) (hops + 1) (h k l e))

  in_row : (row : ℕ) → InPart size (resolve_row row ns)
  unfolding resolve_row
  in_row row = elim (dec_lt row (length ns)) [
    | yes l ↦ rw (lt-ltb _ _ l) (in_chain 4 row 0 l)
    | no n ↦ rw (le-ltb row (length ns) (omega arith)) tt
  ]

in_ask : (lim : Limits) (f : List ℕ) (row : ℕ) (o : Reading) → read_file lim f ≡ o → InPart (length f) (ask o (resolve row f))
unfolding ask resolve
in_ask lim f row (rows h ns is) e = in_row (length f) ns (linked lim f e) (accepted lim f e).nodes-inside row
in_ask lim f row (refusal n p) e = tt

pub resolved_in : (lim : Limits) (f : List ℕ) (row : ℕ) {r : Resource} → good r ≡ ask (read_file lim f) (resolve row f) → r.place + r.size ≤ length f
resolved_in lim f row {r} e = subst (InPart (length f)) (sym e) (in_ask lim f row (read_file lim f) refl)
