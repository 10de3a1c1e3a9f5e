-- The two kinds of find (01, Questions; 02, E1): an item row of a field on a node itself, or the nearest one on its path to the root.
-- Assumes nothing.
use Rattle.std.specs.Prelude.{Bool, true, cond, ◌&&◌, List, [], ◌∷◌, ℕ, zero, suc, ◌+◌, ltb, eqb, length, get_or}
use Rattle.cursor.specs.Refusals.{no_such_row, no_such_item}
use Rattle.cursor.specs.declared.Node.{Node}
use Rattle.cursor.specs.declared.Item.{Item}
use Rattle.rows.specs.Rows.{node_at}
use Rattle.file.specs.Asking.{Asks, Result, good, bad}
use Rattle.file.specs.Own.{Numbered, own}

-- the field that is looked for: a standard number, or a custom name's bytes
pub data Wanted : Type 0 where
  standard : ℕ → Wanted
  custom : List ℕ → Wanted

-- ---- rows of that field

-- whether the file's bytes from `at` on are these
unfoldable pub same_bytes : List ℕ → ℕ → List ℕ → Bool
same_bytes f at [] = true
same_bytes f at (b ∷ bs) = eqb (get_or f at 0) b && same_bytes f (at + 1) bs

-- names are equal byte for byte; an empty name is never found
unfoldable pub matches : List ℕ → Wanted → Item → Bool
matches f (standard n) r = eqb r.kind 0 && eqb r.field n
matches f (custom name) r = ltb 0 (length name) && (eqb r.kind 1 && (eqb r.name_length (length name) && same_bytes f r.field name))

-- the first of these rows, in file order, of that field
unfoldable pub among : List ℕ → Wanted → List Numbered → Result Numbered
among f w [] = bad no_such_item 0
among f w (r ∷ rs) = cond (matches f w r.item) (good r) (among f w rs)

-- ---- the look at one node: the first of its own rows of that field

unfoldable pub look : List ℕ → Wanted → List Item → ℕ → Result Numbered
look f w is k = among f w (own is k)

-- ---- the path to the root

-- Node k, then its parent, and so on to the root, whose parent is itself; at most `most` rows. A detached node's parent is itself too: its path is itself alone.
unfoldable pub rows_up : List Node → (most k : ℕ) → List ℕ
rows_up ns zero k = []
rows_up ns (suc most) k = k ∷ cond (ltb (node_at ns k).parent k) (rows_up ns most (node_at ns k).parent) []

-- each parent's row is smaller, so k + 1 rows are enough
unfoldable pub path : List Node → ℕ → List ℕ
path ns k = rows_up ns (k + 1) k

-- ---- the nearest item: the first answer of the look along the path

-- what is found, or else the other
unfoldable pub or_else : Result Numbered → Result Numbered → Result Numbered
or_else (good a) o = good a
or_else (bad n p) o = o

unfoldable pub first_answer : (ℕ → Result Numbered) → List ℕ → Result Numbered
first_answer looks [] = bad no_such_item 0
first_answer looks (k ∷ ks) = or_else (looks k) (first_answer looks ks)

unfoldable pub nearest : List ℕ → Wanted → List Node → List Item → ℕ → Result Numbered
nearest f w ns is k = first_answer (look f w is) (path ns k)

-- ---- the two questions

-- 01's: the nearest item from a row
unfoldable pub find : Wanted → (row : ℕ) → Asks Numbered
find w row f h ns is = cond (ltb row (length ns)) (nearest f w ns is row) (bad no_such_row 0)

-- the row's own item
unfoldable pub find_own : Wanted → (row : ℕ) → Asks Numbered
find_own w row f h ns is = cond (ltb row (length ns)) (look f w is row) (bad no_such_row 0)

-- the refusals of both, after the reader's
abbrev pub refusals : List ℕ
refusals = no_such_row ∷ no_such_item ∷ []
