-- The refusals of find are its own.
-- Assumes nothing.
use mathlib.Core.List.{List, [], ◌∷◌}
use Prim.Native.Nat.{ℕ}
use lib.Dec.{ltb}
use lib.ListN.{length}
use Rattle.cursor.specs.declared.Node.{Node}
use Rattle.cursor.specs.declared.Item.{Item}
use Rattle.header.specs.Header.{Header}
use Rattle.room.specs.Room.{Result, good, bad}
use Rattle.cursor.specs.Refusals.{Among}
use Rattle.cursor.proofs.Listed.{among-if}
use Rattle.file.specs.Own.{Numbered}
use Rattle.find.specs.Find.{Wanted, matches, among, look, or_else, first_answer, path, nearest, find, find_own, refusals}

module _ (f : List ℕ) (w : Wanted) where
  or_listed : (x y : Result Numbered) → Among refusals x → Among refusals y → Among refusals (or_else x y)
  unfolding or_else
  or_listed (good a) y h k = tt
  or_listed (bad n p) y h k = k

  among-listed : (rs : List Numbered) → Among refusals (among f w rs)
  unfolding among
  among-listed [] = tt
  among-listed (r ∷ rs) = among-if refusals (matches f w r.item) _ _ tt (among-listed rs)

  look-listed : (is : List Item) (k : ℕ) → Among refusals (look f w is k)
  unfolding look
  look-listed is k = among-listed _

  first-listed : (is : List Item) (ks : List ℕ) → Among refusals (first_answer (look f w is) ks)
  unfolding first_answer
  first-listed is [] = tt
  first-listed is (k ∷ ks) = or_listed _ _ (look-listed is k) (first-listed is ks)

pub find-listed : (w : Wanted) (row : ℕ) (f : List ℕ) (h : Header) (ns : List Node) (is : List Item) → Among refusals (find w row f h ns is)
unfolding find nearest
find-listed w row f h ns is = among-if refusals (ltb row (length ns)) _ _ (first-listed f w is (path ns row)) tt

pub find-own_listed : (w : Wanted) (row : ℕ) (f : List ℕ) (h : Header) (ns : List Node) (is : List Item) → Among refusals (find_own w row f h ns is)
unfolding find_own
find-own_listed w row f h ns is = among-if refusals (ltb row (length ns)) _ _ (look-listed f w is row) tt
