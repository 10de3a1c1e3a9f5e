-- The refusals of resolve are its own.
-- Assumes nothing.
use mathlib.Core.Bool.{not}
use mathlib.Core.List.{List, [], ◌∷◌}
use Prim.Native.Nat.{ℕ, zero, suc, ◌+◌}
use lib.Dec.{eqb, ltb, leb}
use lib.ListN.{length}
use Rattle.cursor.specs.Refusals.{Among}
use Rattle.room.specs.Room.{no_room, Result, good, bad}
use Rattle.cursor.specs.declared.Node.{Node}
use Rattle.cursor.specs.declared.Item.{Item}
use Rattle.header.specs.Header.{Header}
use Rattle.cursor.proofs.Listed.{allowed-front, among-if}
use Rattle.resolve.specs.Resolve.{Resource, resource_of, reached, chain, resolve_row, resolve, fitting, copy_into, refusals, copy_refusals}

reached-listed : (r : Node) (k hops : ℕ) (two three : Result Resource) → Among refusals two → Among refusals three → Among refusals (reached r k hops two three)
unfolding reached resource_of
reached-listed r k hops two three a b =
    among-if refusals (not (eqb r.contained 0)) _ _ tt (among-if refusals (eqb r.reference 1) _ _ tt (among-if refusals (eqb r.reference 2) _ _ a (among-if refusals (eqb r.reference 3) _ _ b tt)))

chain-listed : (left : ℕ) (ns : List Node) (k hops : ℕ) → Among refusals (chain left ns k hops)
unfolding chain resource_of
chain-listed zero ns k hops = reached-listed _ k hops _ _ tt tt
chain-listed (suc left) ns k hops = reached-listed _ k hops _ _ tt (chain-listed left ns _ (hops + 1))

pub resolve-listed : (row : ℕ) (f : List ℕ) (h : Header) (ns : List Node) (is : List Item) → Among refusals (resolve row f h ns is)
unfolding resolve resolve_row
resolve-listed row f h ns is = among-if refusals (ltb row (length ns)) _ _ (chain-listed 4 ns row 0) tt

-- and those of the copy, which has one more
fitting-listed : (room : ℕ) (r : Result Resource) → Among refusals r → Among copy_refusals (fitting room r)
unfolding fitting
fitting-listed room (good r) k = among-if copy_refusals (leb r.size room) _ _ tt tt
fitting-listed room (bad n p) k = allowed-front refusals (no_room ∷ []) n p k

pub copy-listed : (row room : ℕ) (f : List ℕ) (h : Header) (ns : List Node) (is : List Item) → Among copy_refusals (copy_into row room f h ns is)
unfolding copy_into
copy-listed row room f h ns is = fitting-listed room (resolve row f h ns is) (resolve-listed row f h ns is)
