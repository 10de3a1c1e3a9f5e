-- The file header (01, Numbers and file header), with the types table as document 000 has it: a length, a count, that many entries.
-- `size` is the number of bytes lent; they are the part that holds the header's fields.
-- Assumes nothing.
use Rattle.std.specs.Prelude.{List, [], ◌∷◌, ◌++◌, ℕ, ◌+◌, ◌*◌, ◌^◌, ltb, leb, eqb, length}
use Rattle.machine.specs.Machine.{ret, refuse, ◌>>=◌, ◌>>◌, when◌then◌else◌, place, skip, check, times}
use Rattle.cursor.specs.Rows.{P, file_frame, plain, language}
use Rattle.cursor.specs.Refusals.{not_xmf, bad_version, cut_short, wrong_length, bad_type, bad_tree, bytes_left, too_large}
use Rattle.cursor.specs.Leaves.{next, number, block}
use Rattle.header.specs.Types.{Declared, format_of, is_unknown, most_types}

-- four bytes as one number, high byte first
unfoldable pub four : (past end : ℕ) → P ℕ
four past end = do
  p ← place
  a ← next file_frame past end p
  b ← next file_frame past end p
  c ← next file_frame past end p
  d ← next file_frame past end p
  ret (((a * 256 + b) * 256 + c) * 256 + d)

-- `XMF_`, and the version: `1.00`, `1.01` or `2.00`
unfoldable pub opening : ℕ → P ℕ
opening size = do
  check (ltb size (2 ^ 28)) too_large 0
  check (leb 8 size) not_xmf 0
  magic ← four not_xmf size
  check (eqb magic 0x584D465F) not_xmf 0
  version ← four bad_version size
  when eqb version 0x312E3030 then ret 100 else when eqb version 0x312E3031 then ret 101 else when eqb version 0x322E3030 then ret 200 else refuse bad_version 4

-- the file's type and its revision, which 2.00 has
pub record Edition : Type 0 where
  pub type : ℕ
  pub revision : ℕ

unfoldable pub edition : (size version : ℕ) → P Edition
edition size version =
    when eqb version 200
    then (do
      t ← four cut_short size
      r ← four cut_short size
      ret (record { type = t; revision = r }))
    else ret (record { type = 0; revision = 0 })

-- FileLength is the number of bytes lent
unfoldable pub file_length : ℕ → P (Unit {0})
file_length size = do
  p ← place
  n ← number file_frame cut_short size
  check (eqb n size) wrong_length p

-- an entry of the types table, which ends at `end`: a type, its string format, an XString naming the language
unfoldable pub entry : ℕ → List Declared → P (List Declared)
entry end ds = do
  p ← place
  t ← number file_frame cut_short end
  check (ltb (length ds) most_types) bad_type p
  check (is_unknown (format_of ds t)) bad_type p
  f ← number file_frame cut_short end
  n ← block file_frame cut_short end
  skip (plain language) n
  ret (ds ++ (record { type = t; format = f } ∷ []))

-- MetaDataTypesTable
unfoldable pub types_table : ℕ → P (List Declared)
types_table size = do
  n ← block file_frame cut_short size
  q ← place
  count ← number file_frame cut_short (q + n)
  ds ← times count (entry (q + n)) []
  e ← place
  check (leb (q + n) e) bytes_left e
  ret ds

-- TreeStart, TreeEnd (the tree's last byte), and the header's end
pub record Extent : Type 0 where
  pub start : ℕ
  pub last : ℕ
  pub end : ℕ

unfoldable pub extent : ℕ → P Extent
extent size = do
  p ← place
  start ← number file_frame cut_short size
  q ← place
  last ← number file_frame cut_short size
  r ← place
  check (leb r start) bad_tree p
  check (leb start last) bad_tree q
  check (ltb last size) bad_tree q
  ret (record { start = start; last = last; end = r })

-- what a file header says
pub record Header : Type 0 where
  pub version : ℕ
  pub edition : Edition
  pub types : List Declared
  pub extent : Extent

unfoldable pub header : ℕ → P Header
header size = do
  v ← opening size
  e ← edition size v
  file_length size
  ds ← types_table size
  x ← extent size
  ret (record { version = v; edition = e; types = ds; extent = x })
