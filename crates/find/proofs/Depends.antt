-- What is found depends on no bytes of the file but the custom names'.
-- Assumes nothing.
use mathlib.Core.Path.{◌≡◌, refl, ap, ap₂}
use mathlib.Core.Bool.{Bool, true, false, cond, ◌&&◌}
use mathlib.Core.List.{List, [], ◌∷◌}
use Prim.Native.Nat.{ℕ, suc, ◌+◌, ◌<◌}
use native.Mathlib.Omega.{arith}
use lib.Dec.{ltb, eqb}
use lib.ListN.{length}
use borrow.Author.Tests.{eqb-true}
use Rattle.cursor.specs.declared.Node.{Node}
use Rattle.cursor.specs.declared.Item.{Item}
use Rattle.machine.proofs.Agree.{Agree}
use Rattle.header.specs.Header.{Header}
use Rattle.rows.specs.Rows.{item_at}
use Rattle.file.specs.Asking.{Result, good, bad}
use Rattle.file.specs.Own.{Numbered, numbered, those, is_own, own}
use Rattle.find.specs.Find.{Wanted, standard, custom, same_bytes, matches, among, look, path, or_else, first_answer, nearest, find, find_own}

module _ (f g : List ℕ) where
  -- the two files agree at the name of a row
  abbrev pub SameName : Item → Type 0
  SameName r = r.kind ≡ 1 → Agree f g r.field r.name_length

  -- they agree at the names of all rows
  abbrev pub SameNames : List Item → Type 0
  SameNames is = (i : ℕ) → i < length is → SameName (item_at is i)

  bytes_same : (at : ℕ) (name : List ℕ) → Agree f g at (length name) → same_bytes f at name ≡ same_bytes g at name
  unfolding same_bytes
  bytes_same at [] a = refl
  bytes_same at (b ∷ name) a =
      ap₂ (λ (x : ℕ) (y : Bool). eqb x b && y) (a at (omega arith) (omega arith)) (bytes_same (at + 1) name (λ k l m. a k (omega arith) (omega arith)))

  -- a test that is looked at only if the two before it hold
  guarded : (a b : Bool) {x y : Bool} → (a ≡ true → b ≡ true → x ≡ y) → (a && (b && x)) ≡ (a && (b && y))
  guarded false b h = refl
  guarded true false h = refl
  guarded true true h = h refl refl

  matches-same : (w : Wanted) (r : Item) → SameName r → matches f w r ≡ matches g w r
  unfolding matches
  matches-same (standard n) r a = refl
  matches-same (custom name) r a =
      ap (λ (x : Bool). ltb 0 (length name) && x) (guarded (eqb r.kind 1) (eqb r.name_length (length name)) (λ p q.
      let k : r.kind ≡ 1 = eqb-true r.kind 1 p in
      let n : r.name_length ≡ length name = eqb-true r.name_length (length name) q in
      bytes_same r.field name (λ i l m. a k i l (omega arith))))

  module _ (w : Wanted) where
    -- of rows from row i on
    own_same : (k i : ℕ) (is : List Item) → SameNames is → among f w (those (is_own k) (numbered i is)) ≡ among g w (those (is_own k) (numbered i is))
    unfolding those numbered among
    own_same k i [] a = refl
    own_same k i (r ∷ is) a = by (eqb r.node k) (own_same k (i + 1) is (λ j l. a (suc j) (omega arith)))
      where
        by : (b : Bool) → among f w (those (is_own k) (numbered (i + 1) is)) ≡ among g w (those (is_own k) (numbered (i + 1) is))
            → among f w (cond b (record { row = i; item = r } ∷ those (is_own k) (numbered (i + 1) is)) (those (is_own k) (numbered (i + 1) is)))
            ≡ among g w (cond b (record { row = i; item = r } ∷ those (is_own k) (numbered (i + 1) is)) (those (is_own k) (numbered (i + 1) is)))
        by true e = ap₂ (λ (b : Bool) (o : Result Numbered). cond b (good (record { row = i; item = r })) o) (matches-same w r (a 0 (omega arith))) e
        by false e = e

    module _ (is : List Item) (a : SameNames is) where
      look-same : (k : ℕ) → look f w is k ≡ look g w is k
      unfolding look own
      look-same k = own_same k 0 is a

      first-same : (ks : List ℕ) → first_answer (look f w is) ks ≡ first_answer (look g w is) ks
      unfolding first_answer
      first-same [] = refl
      first-same (k ∷ ks) = ap₂ or_else (look-same k) (first-same ks)

      pub find-same : (row : ℕ) (h : Header) (ns : List Node) → find w row f h ns is ≡ find w row g h ns is
      unfolding find nearest
      find-same row h ns = ap (λ (o : Result Numbered). cond (ltb row (length ns)) o (bad 18 0)) (first-same (path ns row))

      pub find-own_same : (row : ℕ) (h : Header) (ns : List Node) → find_own w row f h ns is ≡ find_own w row g h ns is
      unfolding find_own
      find-own_same row h ns = ap (λ (o : Result Numbered). cond (ltb row (length ns)) o (bad 18 0)) (look-same row)
