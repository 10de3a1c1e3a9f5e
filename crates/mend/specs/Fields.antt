-- The file header's fields, read as the header reads them and not judged: FileLength and TreeEnd may say anything.
-- Assumes nothing.
use Rattle.std.specs.Prelude.{List, ◌⊎◌, ℕ, ◌-◌, ◌^◌, ◌≤◌, ◌<◌}
use Rattle.machine.specs.Machine.{ret, ◌>>=◌, place}
use Rattle.cursor.specs.Rows.{P, file_frame}
use Rattle.cursor.specs.Refusals.{cut_short}
use Rattle.cursor.specs.Leaves.{number}
use Rattle.header.specs.Types.{Declared}
use Rattle.header.specs.Header.{opening, Edition, edition, types_table}

-- a number of the header: its place, what it says, the place after it
pub record Field : Type 0 where
  pub place : ℕ
  pub value : ℕ
  pub end : ℕ

-- the bytes that it has
abbrev pub width : Field → ℕ
width x = x.end - x.place

unfoldable pub number_field : ℕ → P Field
number_field size = do
  p ← place
  n ← number file_frame cut_short size
  q ← place
  ret (record { place = p; value = n; end = q })

-- FileLength is `length`, TreeStart `start`, TreeEnd `last`
pub record Fields : Type 0 where
  pub version : ℕ
  pub edition : Edition
  pub length : Field
  pub types : List Declared
  pub start : ℕ
  pub last : Field

unfoldable pub fields : ℕ → P Fields
fields size = do
  v ← opening size
  e ← edition size v
  a ← number_field size
  ds ← types_table size
  s ← number_field size
  l ← number_field size
  ret (record { version = v; edition = e; length = a; types = ds; start = s.value; last = l })

-- a value of FileLength and one of TreeEnd, each of which the field's bytes hold
abbrev pub Hold : Fields → (a b : ℕ) → Type 0
Hold w a b = (a < 128 ^ width w.length) × (b < 128 ^ width w.last)

-- a place outside of both
abbrev pub Elsewhere : Fields → ℕ → Type 0
Elsewhere w k = (k < w.length.place) ⊎ ((w.length.end ≤ k) × (k < w.last.place)) ⊎ (w.last.end ≤ k)
