-- The Mobile verdict (01, Questions): eight checks in order, the number of the first that fails, 0 if none.
-- A node's own item rows are those of file/specs/Own.antt, a readable field 13 is that of description/specs/Count.antt. Assumes nothing.
use Rattle.std.specs.Prelude.{Bool, true, false, cond, not, ◌&&◌, ◌||◌, List, [], ◌∷◌, ℕ, ◌+◌, ltb, leb, eqb, length, get_or, drop}
use Rattle.machine.specs.Machine.{Out, ok, refused, run}
use Rattle.cursor.specs.Rows.{meta_frame}
use Rattle.cursor.specs.Refusals.{cut_short}
use Rattle.cursor.specs.Leaves.{number}
use Rattle.cursor.specs.declared.Node.{Node}
use Rattle.cursor.specs.declared.Item.{Item}
use Rattle.header.specs.Header.{Header}
use Rattle.rows.specs.Rows.{node_at}
use Rattle.file.specs.Asking.{Result, good}
use Rattle.file.specs.Own.{items_of, those, own}
use Rattle.description.specs.Row.{is_field, is_binary}
use Rattle.description.specs.Count.{is_readable}
use Rattle.mobile.specs.declared.Role.{Role}
use Rattle.mobile.specs.declared.Role.TheVariants as role

-- every one is as p says
unfoldable pub all : {A : Type 0} → (A → Bool) → List A → Bool
all p [] = true
all p (x ∷ xs) = p x && all p xs

unfoldable pub is_empty : {A : Type 0} → List A → Bool
is_empty [] = true
is_empty (x ∷ xs) = false

-- ---- what a child is, by its type: a tune (0 or 1), instruments (5), or something else, which may not stand here

-- by the type's number
unfoldable pub role_of_type : ℕ → Role
role_of_type v = cond (eqb v 0 || eqb v 1) role.Tune (cond (eqb v 5) role.Instruments role.Other)

-- by a number that has to end at `end`
unfoldable pub role_of_number : ℕ → Out ℕ → Role
role_of_number end (ok v q) = cond (eqb q end) (role_of_type v) role.Other
role_of_number end (refused n p) = role.Other

-- by a row of field 3: universal, format 6 or 7, data 00 and then one number that fills the rest
unfoldable pub role_of_row : List ℕ → Item → Role
role_of_row f r =
    cond (is_binary r && (ltb 0 r.size && eqb (get_or f r.place 0) 0)) (role_of_number (r.place + r.size) (run (number meta_frame cut_short (r.place + r.size)) f (r.place + 1))) role.Other

-- by the rows of field 3: there has to be one
unfoldable pub role_of_rows : List ℕ → List Item → Role
role_of_rows f [] = role.Other
role_of_rows f (r ∷ []) = role_of_row f r
role_of_rows f (r ∷ s ∷ rs) = role.Other

-- by a child's own item rows
unfoldable pub role_of : List ℕ → List Item → Role
role_of f rs = role_of_rows f (those (is_field 3) rs)

-- ---- the children: all nodes but the root

abbrev pub is_tune : Role → Bool
is_tune role.Tune = true
is_tune role.Instruments = false
is_tune role.Other = false

abbrev pub is_instruments : Role → Bool
is_instruments role.Tune = false
is_instruments role.Instruments = true
is_instruments role.Other = false

abbrev pub is_other : Role → Bool
is_other role.Tune = false
is_other role.Instruments = false
is_other role.Other = true

-- the rows of those that are as p says, among these nodes, the first of which is row k
unfoldable pub rows_from : (Role → Bool) → List ℕ → List Item → (k : ℕ) → List Node → List ℕ
rows_from p f is k [] = []
rows_from p f is k (r ∷ ns) = cond (p (role_of f (items_of (own is k)))) (k ∷ rows_from p f is (k + 1) ns) (rows_from p f is (k + 1) ns)

unfoldable pub children_that : (Role → Bool) → List ℕ → List Node → List Item → List ℕ
children_that p f ns is = rows_from p f is 1 (drop 1 ns)

-- ---- the checks

-- 1: version 2.00, type 2, revision 1
unfoldable pub right_edition : Header → Bool
right_edition h = eqb h.version 200 && (eqb h.edition.type 2 && eqb h.edition.revision 1)

-- 2: the root is a folder, all others are file nodes
unfoldable pub is_file : Node → Bool
is_file r = eqb r.contained 0

unfoldable pub files_only : List Node → Bool
files_only ns = not (is_file (node_at ns 0)) && all is_file (drop 1 ns)

-- 3: references 1 and 2 only, at every node
unfoldable pub is_plain : Node → Bool
is_plain r = eqb r.reference 1 || eqb r.reference 2

unfoldable pub plain_references : List Node → Bool
plain_references ns = all is_plain ns

-- 4: no unpackers at any node
unfoldable pub is_unpacked : Node → Bool
is_unpacked r = eqb r.unpacker_count 0

unfoldable pub no_unpackers : List Node → Bool
no_unpackers ns = all is_unpacked ns

-- 5: each child has one own field 3, with type 0, 1 or 5
unfoldable pub each_typed : (others : List ℕ) → Bool
each_typed others = is_empty others

-- 6: one tune, at most one of instruments, and that one earlier
unfoldable pub one_tune : (tunes instruments : List ℕ) → Bool
one_tune tunes instruments = eqb (length tunes) 1 && (leb (length instruments) 1 && all (λ k. all (ltb k) tunes) instruments)

-- 7: field 13 on that tune only, at least one, universal, format 6 or 7, and each of them readable (02, E4)
unfoldable pub is_need : List ℕ → (tune : ℕ) → Item → Bool
is_need f tune r = eqb r.node tune && (is_binary r && is_readable f r)

unfoldable pub are_needs : List ℕ → (tune : ℕ) → List Item → Bool
are_needs f tune rs = not (is_empty rs) && all (is_need f tune) rs

unfoldable pub tune_needs : List ℕ → (tunes : List ℕ) → List Item → Bool
tune_needs f tunes is = all (λ t. are_needs f t (those (is_field 13) is)) tunes

-- 8: header lengths up to 65,535 (metadata and universal lengths are parts of a header), field number and name length up to 256
unfoldable pub is_short : Node → Bool
is_short r = leb r.header 65535

unfoldable pub field_size : Item → ℕ
field_size r = cond (eqb r.kind 0) r.field r.name_length

unfoldable pub is_small : Item → Bool
is_small r = leb (field_size r) 256

unfoldable pub small_fields : List Node → List Item → Bool
small_fields ns is = all is_short ns && all is_small is

-- ---- the verdict

-- a check: its number if it fails, else what the later ones say
unfoldable pub check : ℕ → Bool → ℕ → ℕ
check n true later = later
check n false later = n

unfoldable pub verdict : List ℕ → Header → List Node → List Item → ℕ
verdict f h ns is =
    check 1 (right_edition h)
    (check 2 (files_only ns)
    (check 3 (plain_references ns)
    (check 4 (no_unpackers ns)
    (check 5 (each_typed (children_that is_other f ns is))
    (check 6 (one_tune (children_that is_tune f ns is) (children_that is_instruments f ns is))
    (check 7 (tune_needs f (children_that is_tune f ns is) is)
    (check 8 (small_fields ns is) 0)))))))

-- the question, which refuses nothing of its own
unfoldable pub mobile : List ℕ → Header → List Node → List Item → Result ℕ
mobile f h ns is = good (verdict f h ns is)
