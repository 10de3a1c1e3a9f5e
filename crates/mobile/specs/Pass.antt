-- What one pass over the children keeps for checks 5 to 7, in the terms of the code's contracts: whether each may stand here, the tunes and the instruments.
-- That the verdict by it is the verdict is proved in proofs/Counts.antt. Assumes nothing.
use Rattle.std.specs.Prelude.{Bool, true, false, List, [], ◌∷◌, ℕ, ◌+◌, ltb, drop}
use Rattle.cursor.specs.declared.Node.{Node}
use Rattle.cursor.specs.declared.Item.{Item}
use Rattle.header.specs.Header.{Header}
use Rattle.file.specs.Own.{items_of, those, own}
use Rattle.description.specs.Row.{is_field}
use Rattle.mobile.specs.Mobile.{role_of, right_edition, files_only, plain_references, no_unpackers, are_needs, small_fields, check}
use Rattle.mobile.specs.declared.Role.{Role}
use Rattle.mobile.specs.declared.Role.TheVariants as role
use Rattle.mobile.specs.declared.Few.{Few}
use Rattle.mobile.specs.declared.Few.TheVariants as few
use Rattle.mobile.specs.declared.Children.{Children}

-- of one kind there are none, one, in a row, or more; row k besides them
unfoldable pub besides : ℕ → Few → Few
besides k few.None = few.One k
besides k (few.One j) = few.More
besides k few.More = few.More

-- the child in row k, which is that, besides the others
unfoldable pub child : Role → ℕ → Children → Children
child role.Tune k c = record { typed = c.typed; tunes = besides k c.tunes; instruments = c.instruments }
child role.Instruments k c = record { typed = c.typed; tunes = c.tunes; instruments = besides k c.instruments }
child role.Other k c = record { typed = false; tunes = c.tunes; instruments = c.instruments }

abbrev pub no_children : Children
no_children = record { typed = true; tunes = few.None; instruments = few.None }

-- of these nodes, the first of which is row k
unfoldable pub children_from : List ℕ → List Item → (k : ℕ) → List Node → Children
children_from f is k [] = no_children
children_from f is k (r ∷ ns) = child (role_of f (items_of (own is k))) k (children_from f is (k + 1) ns)

-- all nodes but the root
unfoldable pub children : List ℕ → List Node → List Item → Children
children f ns is = children_from f is 1 (drop 1 ns)

-- check 6
unfoldable pub one_tune_of : (tunes instruments : Few) → Bool
one_tune_of (few.One t) few.None = true
one_tune_of (few.One t) (few.One k) = ltb k t
one_tune_of (few.One t) few.More = false
one_tune_of few.None k = false
one_tune_of few.More k = false

-- check 7
unfoldable pub tune_needs_of : List ℕ → (tunes : Few) → List Item → Bool
tune_needs_of f (few.One t) is = are_needs f t (those (is_field 13) is)
tune_needs_of f few.None is = false
tune_needs_of f few.More is = false

-- checks 5 to 8, by them
unfoldable pub later_by : List ℕ → Children → List Node → List Item → ℕ
later_by f c ns is =
    check 5 c.typed
    (check 6 (one_tune_of c.tunes c.instruments)
    (check 7 (tune_needs_of f c.tunes is)
    (check 8 (small_fields ns is) 0)))

abbrev pub later : List ℕ → List Node → List Item → ℕ
later f ns is = later_by f (children f ns is) ns is

-- the verdict by them
unfoldable pub verdict_by : List ℕ → Children → Header → List Node → List Item → ℕ
verdict_by f c h ns is =
    check 1 (right_edition h)
    (check 2 (files_only ns)
    (check 3 (plain_references ns)
    (check 4 (no_unpackers ns)
    (later_by f c ns is))))
