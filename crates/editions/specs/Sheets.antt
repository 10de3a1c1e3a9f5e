-- The two editions of a sheet (02, E8): which sheets are well formed, and the mover between them.
-- Assumes nothing.
use Rattle.std.specs.Prelude.{◌≡◌, Bool, true, false, cond, not, ◌&&◌, ◌||◌, List, [], ◌∷◌, ◌++◌, ℕ, ◌+◌, ◌*◌, ◌-◌, ◌%◌, ltb, leb, eqb, length, get_or, drop}
use Rattle.cursor.specs.Refusals.{bad_sheet}
use Rattle.room.specs.Room.{no_room, Result, good, bad}
use Rattle.room.specs.Decimal.{decimal}
use Rattle.text.specs.Text.{plain, escaped, version_text}
use Rattle.editions.specs.declared.State.{State}

-- ---- lines and fields

abbrev pub Lines : Type 0
Lines = List (List ℕ)

abbrev pub on_first : ℕ → Lines → Lines
on_first b [] = (b ∷ []) ∷ []
on_first b (t ∷ ts) = (b ∷ t) ∷ ts

-- what stands between bytes c; what stands behind the last one is the last piece
unfoldable pub parted : ℕ → List ℕ → Lines
parted c [] = [] ∷ []
parted c (b ∷ s) = cond (eqb b c) ([] ∷ parted c s) (on_first b (parted c s))

abbrev pub lines : List ℕ → Lines
lines s = parted 0x0A s

unfoldable pub fields : List ℕ → Lines
fields l = parted 0x09 l

-- lines, each with its 0Ah
unfoldable pub written : Lines → List ℕ
written [] = []
written (l ∷ ls) = l ++ 0x0A ∷ written ls

-- ---- what a field may be

unfoldable pub same : List ℕ → List ℕ → Bool
same [] [] = true
same [] (y ∷ ys) = false
same (x ∷ xs) [] = false
same (x ∷ xs) (y ∷ ys) = eqb x y && same xs ys

-- the number that digits say, after those that say v
unfoldable pub value : ℕ → List ℕ → ℕ
value v [] = v
value v (d ∷ t) = value (v * 10 + (d - 0x30)) t

-- the decimal digits of what they say, up to 268,435,455
unfoldable pub is_number : List ℕ → Bool
is_number t = same t (decimal (value 0 t)) && leb (value 0 t) 0xFFFFFFF

unfoldable pub is_even : List ℕ → Bool
is_even t = is_number t && eqb (value 0 t % 2) 0

-- what a hex digit says
unfoldable pub nibble : ℕ → ℕ
nibble x = cond (ltb x 0x61) (x - 0x30) (x - 0x57)

-- backslash, x, y are how 01 writes a byte
unfoldable pub is_escape : ℕ → ℕ → Bool
is_escape x y = let v = nibble x * 16 + nibble y in ltb v 0x100 && same (0x5C ∷ x ∷ y ∷ []) (escaped v)

-- a byte that stands as itself: in a text of format 2 also one from 80h up
unfoldable pub itself : (two : Bool) → ℕ → Bool
itself two b = plain b || two && leb 0x80 b

unfoldable pub is_text : (two : Bool) → List ℕ → Bool
is_text two [] = true
is_text two (b ∷ []) = itself two b
is_text two (b ∷ x ∷ []) = itself two b && itself two x
is_text two (b ∷ x ∷ y ∷ t) = cond (eqb b 0x5C) (is_escape x y && is_text two t) (itself two b && is_text two (x ∷ y ∷ t))

unfoldable pub is_name : List ℕ → Bool
is_name t = not (same t []) && is_text false t

unfoldable pub is_version : List ℕ → Bool
is_version t = same t (version_text 100) || same t (version_text 101) || same t (version_text 200)

-- ---- what a line may be; of two editions the second is `true`

-- as many fields as tests, and each passes its own
unfoldable pub fits : List (List ℕ → Bool) → Lines → Bool
fits [] [] = true
fits [] (t ∷ ts) = false
fits (p ∷ ps) [] = false
fits (p ∷ ps) (t ∷ ts) = p t && fits ps ts

unfoldable pub field : ℕ → List ℕ → List ℕ
field i l = get_or (fields l) i []

-- `XMF` or `XMF2`
abbrev pub word : (second : Bool) → List ℕ
word false = 0x58 ∷ 0x4D ∷ 0x46 ∷ []
word true = 0x58 ∷ 0x4D ∷ 0x46 ∷ 0x32 ∷ []

-- word, version, the file's length, node count, item row count
unfoldable pub is_first : (second : Bool) → List ℕ → Bool
is_first second l = fits (same (word second) ∷ is_version ∷ is_number ∷ is_number ∷ is_number ∷ []) (fields l)

-- `N`, row, parent, depth, reference, target, extent
unfoldable pub is_node : List ℕ → Bool
is_node l = fits (same (0x4E ∷ []) ∷ is_number ∷ is_number ∷ is_number ∷ is_number ∷ is_number ∷ is_number ∷ []) (fields l)

-- `M`, node row, `S` and a number or `C` and a name, version, format, text
unfoldable pub is_item : List ℕ → Bool
is_item l =
    let rest = is_number ∷ is_even ∷ is_text (same (field 5 l) (0x32 ∷ [])) ∷ [] in
    fits (same (0x4D ∷ []) ∷ is_number ∷ same (0x53 ∷ []) ∷ is_number ∷ rest) (fields l)
    || fits (same (0x4D ∷ []) ∷ is_number ∷ same (0x43 ∷ []) ∷ is_name ∷ rest) (fields l)

-- a node's line with its row, an item's line with its node's row
pub data Kind : Type 0 where
  node : ℕ → Kind
  item : ℕ → Kind
  other : Kind

unfoldable pub kind : List ℕ → Kind
kind l = let k = value 0 (field 1 l) in cond (is_node l) (node k) (cond (is_item l) (item k) other)

-- ---- which line may stand after those before it

-- nodes and items so far; no item may be of an earlier node than the least
abbrev pub start : State
start = record { nodes = 0; items = 0; least = 0 }

-- node lines count up, in the first edition before all items; items are of nodes that are there and do not go back, in the second edition not behind the last node line
abbrev pub stands : (second : Bool) → State → Kind → Bool
stands second s (node k) = eqb k s.nodes && (second || eqb s.items 0)
stands second s (item k) = leb s.least k && ltb k s.nodes
stands second s other = false

abbrev pub after : (second : Bool) → State → Kind → State
after second s (node k) = record { nodes = s.nodes + 1; items = s.items; least = cond second k s.least }
after second s (item k) = record { nodes = s.nodes; items = s.items + 1; least = k }
after second s other = s

-- ---- a well-formed sheet

-- lines from number n on; nothing stands behind the last 0Ah
unfoldable pub judge : (second : Bool) → State → (n : ℕ) → Lines → Result State
judge second s n [] = bad bad_sheet n
judge second s n (l ∷ []) = cond (same l []) (good s) (bad bad_sheet n)
judge second s n (l ∷ m ∷ ls) = cond (stands second s (kind l)) (judge second (after second s (kind l)) (n + 1) (m ∷ ls)) (bad bad_sheet n)

-- the counts of the first line, judged last: as many nodes, no more items
unfoldable pub agreeing : List ℕ → Result State → Result State
agreeing f (good s) = cond (eqb s.nodes (value 0 (field 3 f)) && leb s.items (value 0 (field 4 f))) (good s) (bad bad_sheet 1)
agreeing f (bad n p) = bad n p

-- the state after all lines of a sheet of that edition; or 31 at the first line that cannot stand
unfoldable pub judged : (second : Bool) → Lines → Result State
judged second [] = bad bad_sheet 1
judged second (f ∷ []) = bad bad_sheet 1
judged second (f ∷ l ∷ ls) = cond (is_first second f) (agreeing f (judge second start 2 (l ∷ ls))) (bad bad_sheet 1)

abbrev pub WellFormed : (second : Bool) → List ℕ → Type 0
WellFormed second s = (t : State) × (judged second (lines s) ≡ good t)

-- ---- lines by their kind

-- those whose kind passes a test, in their order
unfoldable pub picked : (Kind → Bool) → Lines → Lines
picked p [] = []
picked p (l ∷ ls) = cond (p (kind l)) (l ∷ picked p ls) (picked p ls)

-- an item's line, or else a node's
abbrev pub is_kind : (items : Bool) → Kind → Bool
is_kind items (node k) = not items
is_kind items (item k) = items
is_kind items other = false

-- an item's line of that node
abbrev pub is_of : ℕ → Kind → Bool
is_of n (node k) = false
is_of n (item k) = eqb k n
is_of n other = false

abbrev pub nodes_of : Lines → Lines
nodes_of ls = picked (is_kind false) ls

abbrev pub items_of : Lines → Lines
items_of ls = picked (is_kind true) ls

abbrev pub items_at : ℕ → Lines → Lines
items_at n ls = picked (is_of n) ls

-- ---- the mover

abbrev pub named : Kind → ℕ
named (node k) = k
named (item k) = k
named other = 0

-- each node line, and behind it its items among `all`
unfoldable pub spread : Lines → (all : Lines) → Lines
spread [] all = []
spread (l ∷ ls) all = l ∷ items_at (named (kind l)) all ++ spread ls all

-- the lines behind the first, in the order of the other edition
unfoldable pub reordered : (second : Bool) → Lines → Lines
reordered false ls = spread (nodes_of ls) ls
reordered true ls = nodes_of ls ++ items_of ls

-- the first line with the other edition's word
unfoldable pub renamed : (second : Bool) → List ℕ → List ℕ
renamed second f = word (not second) ++ drop (length (word second)) f

unfoldable pub lead : Lines → List ℕ
lead [] = []
lead (f ∷ ls) = f

unfoldable pub behind : Lines → Lines
behind [] = []
behind (f ∷ ls) = ls

unfoldable pub moved_lines : (second : Bool) → Lines → Lines
moved_lines second ls = renamed second (lead ls) ∷ reordered second (behind ls)

unfoldable pub is_second : List ℕ → Bool
is_second s = is_first true (lead (lines s))

abbrev pub answered : {A B : Type 0} → (A → B) → Result A → Result B
answered f (good a) = good (f a)
answered f (bad n p) = bad n p

-- the other edition of a sheet; or 31 at the first line that cannot stand
unfoldable pub move : List ℕ → Result (List ℕ)
move s = let ls = lines s in answered (λ t. written (moved_lines (is_second s) ls)) (judged (is_second s) ls)

abbrev pub refusals : List ℕ
refusals = bad_sheet ∷ no_room ∷ []

-- ---- what moving is to keep

-- t is the other edition of s, which is of the edition that is named: the first line with the other word, the same node lines and the same item lines, each in their order
pub record OtherEdition (second : Bool) (s t : List ℕ) : Type 0 where
  pub was : WellFormed second s
  pub is : WellFormed (not second) t
  pub first : lead (lines t) ≡ renamed second (lead (lines s))
  pub nodes : nodes_of (behind (lines t)) ≡ nodes_of (behind (lines s))
  pub items : items_of (behind (lines t)) ≡ items_of (behind (lines s))
