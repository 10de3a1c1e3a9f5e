-- A file whose FileLength or TreeEnd is wrong: the same with the two set right, in the bytes that they have; and the question.
-- Assumes nothing.
use Rattle.std.specs.Prelude.{◌≡◌, Bool, true, false, cond, ◌&&◌, List, [], ◌∷◌, ◌++◌, ℕ, ◌+◌, ◌-◌, leb, eqb, length}
use Rattle.std.proofs.lemmas.List.Edits.{sets}
use Rattle.machine.specs.Machine.{Out, ok, refused, run}
use Rattle.cursor.specs.Rows.{node_frame}
use Rattle.cursor.specs.Refusals.{cut_short}
use Rattle.room.specs.Room.{no_room}
use Rattle.cursor.specs.Leaves.{number}
use Rattle.vlq.specs.Vlq.{in_bytes}
use Rattle.room.specs.Decimal.{decimal}
use Rattle.metadata.specs.declared.Limits.{Limits}
use Rattle.file.specs.Reading.{Reading, rows, refusal, read_file}
use Rattle.file.specs.Asking.{Result, good, bad, ask}
use Rattle.mend.specs.Fields.{Field, width, Fields, fields, Hold}

-- ---- the mended file

-- a field set to n, in the bytes that it has
unfoldable pub with_field : List ℕ → Field → ℕ → List ℕ
with_field f x n = sets f x.place (in_bytes (width x) n)

-- FileLength set to a, and TreeEnd to b
unfoldable pub set_to : List ℕ → Fields → (a b : ℕ) → List ℕ
set_to f w a b = with_field (with_field f w.length a) w.last b

-- the number at p; 0 where there is none
abbrev pub value_of : Out ℕ → ℕ
value_of (ok n p) = n
value_of (refused n p) = 0

unfoldable pub number_at : List ℕ → ℕ → ℕ
number_at f p = value_of (run (number node_frame cut_short (length f)) f p)

-- TreeEnd as it should be: the root, which begins with its length, fills the tree
unfoldable pub last_of : List ℕ → Fields → ℕ
last_of f w = w.start + number_at f w.start - 1

-- both set right; the file itself where the two cannot be read
unfoldable pub set_right : List ℕ → Out Fields → List ℕ
set_right f (ok w p) = set_to f w (length f) (last_of f w)
set_right f (refused n p) = f

unfoldable pub mended : List ℕ → List ℕ
mended f = set_right f (run (fields (length f)) f 0)

-- ---- the lines

-- a tab and a decimal number
unfoldable pub tabbed : ℕ → List ℕ
tabbed n = 0x09 ∷ decimal n

-- of a field that changes: its name, its place, its old and its new value
unfoldable pub line : List ℕ → Field → ℕ → List ℕ
line name x n = cond (eqb x.value n) [] (name ++ tabbed x.place ++ tabbed x.value ++ tabbed n ++ 0x0A ∷ [])

-- FileLength, TreeEnd
abbrev pub name_of_length : List ℕ
name_of_length = 0x46 ∷ 0x69 ∷ 0x6C ∷ 0x65 ∷ 0x4C ∷ 0x65 ∷ 0x6E ∷ 0x67 ∷ 0x74 ∷ 0x68 ∷ []

abbrev pub name_of_last : List ℕ
name_of_last = 0x54 ∷ 0x72 ∷ 0x65 ∷ 0x65 ∷ 0x45 ∷ 0x6E ∷ 0x64 ∷ []

-- of both, set to n and m
unfoldable pub both_lines : (x y : Field) → (n m : ℕ) → List ℕ
both_lines x y n m = line name_of_length x n ++ line name_of_last y m

unfoldable pub lines_of : List ℕ → Out Fields → List ℕ
lines_of f (ok w p) = both_lines w.length w.last (length f) (last_of f w)
lines_of f (refused n p) = []

unfoldable pub changes : List ℕ → List ℕ
changes f = lines_of f (run (fields (length f)) f 0)

-- ---- the question

pub record Mended : Type 0 where
  pub copy : List ℕ
  pub lines : List ℕ

abbrev pub repair : List ℕ → Mended
repair f = record { copy = mended f; lines = changes f }

-- if the two buffers hold them
unfoldable pub fitting : (room space : ℕ) → Mended → Result Mended
fitting room space m = cond (leb (length m.copy) room && leb (length m.lines) space) (good m) (bad no_room 0)

abbrev pub accepted : Reading → Bool
accepted (rows h ns is) = true
accepted (refusal n p) = false

-- the mended file, if it is accepted; else the unchanged file's refusal
unfoldable pub mend : Limits → (room space : ℕ) → List ℕ → Result Mended
mend lim room space f =
    cond (accepted (read_file lim (mended f))) (fitting room space (repair f))
    (ask (read_file lim f) (λ h ns is. fitting room space (repair f)))

-- its own refusals, after the reader's
abbrev pub refusals : List ℕ
refusals = no_room ∷ []

-- ---- what is promised of it

-- both fields can be read, and some values of them, in the bytes that they have, make a file that is accepted
pub record Mendable (lim : Limits) (f : List ℕ) : Type 0 where
  pub w : Fields
  pub next : ℕ
  pub reads : run (fields (length f)) f 0 ≡ ok w next
  pub a : ℕ
  pub b : ℕ
  pub hold : Hold w a b
  pub accepts : accepted (read_file lim (set_to f w a b)) ≡ true
