-- Where the bytes of a file go: a line a kind, or one line a file; and sums over files.
-- Assumes nothing.
use Rattle.std.specs.Prelude.{cond, List, [], ◌∷◌, ◌++◌, ℕ, leb, ltb, length}
use Rattle.std.specs.Prelude as std
use Rattle.refusals.specs.declared.Refusal.{Refusal}
use Rattle.cursor.specs.Refusals.{too_many_files}
use Rattle.metadata.specs.Tables.{full_nodes, full_items, limits}
use Rattle.room.specs.Room.{Result, good, bad}
use Rattle.refusals.specs.Told.{told}
use Rattle.file.specs.Asking.{ask}
use Rattle.text.specs.Text.{number}
use Rattle.account.specs.Account.{kinds_of}
use Rattle.account.specs.ByRows.{plus}
use Rattle.account.specs.Totals.{most_files, zeros, refused_one, one_more}
use Rattle.account.specs.declared.Kinds.{Kinds}
use Rattle.account.specs.declared.Totals.{Totals}
use Rattle.lines.specs.Answer.{Answer, plainly, ended, printed, reads}

-- ---- the bytes of a kind: its name, and how many

unfoldable pub kind_line : (name : List ℕ) → (bytes : ℕ) → List ℕ
kind_line name bytes = name ++ number bytes ++ 0x0A ∷ []

-- `file header`
abbrev pub header_name : List ℕ
header_name = 0x66 ∷ 0x69 ∷ 0x6C ∷ 0x65 ∷ 0x20 ∷ 0x68 ∷ 0x65 ∷ 0x61 ∷ 0x64 ∷ 0x65 ∷ 0x72 ∷ []

-- `node frames`
abbrev pub nodes_name : List ℕ
nodes_name = 0x6E ∷ 0x6F ∷ 0x64 ∷ 0x65 ∷ 0x20 ∷ 0x66 ∷ 0x72 ∷ 0x61 ∷ 0x6D ∷ 0x65 ∷ 0x73 ∷ []

-- `metadata frames`
abbrev pub metadata_name : List ℕ
metadata_name = 0x6D ∷ 0x65 ∷ 0x74 ∷ 0x61 ∷ 0x64 ∷ 0x61 ∷ 0x74 ∷ 0x61 ∷ 0x20 ∷ 0x66 ∷ 0x72 ∷ 0x61 ∷ 0x6D ∷ 0x65 ∷ 0x73 ∷ []

-- `visible data`
abbrev pub visible_name : List ℕ
visible_name = 0x76 ∷ 0x69 ∷ 0x73 ∷ 0x69 ∷ 0x62 ∷ 0x6C ∷ 0x65 ∷ 0x20 ∷ 0x64 ∷ 0x61 ∷ 0x74 ∷ 0x61 ∷ []

-- `hidden data`
abbrev pub hidden_name : List ℕ
hidden_name = 0x68 ∷ 0x69 ∷ 0x64 ∷ 0x64 ∷ 0x65 ∷ 0x6E ∷ 0x20 ∷ 0x64 ∷ 0x61 ∷ 0x74 ∷ 0x61 ∷ []

-- `unpackers`
abbrev pub unpackers_name : List ℕ
unpackers_name = 0x75 ∷ 0x6E ∷ 0x70 ∷ 0x61 ∷ 0x63 ∷ 0x6B ∷ 0x65 ∷ 0x72 ∷ 0x73 ∷ []

-- `references`
abbrev pub references_name : List ℕ
references_name = 0x72 ∷ 0x65 ∷ 0x66 ∷ 0x65 ∷ 0x72 ∷ 0x65 ∷ 0x6E ∷ 0x63 ∷ 0x65 ∷ 0x73 ∷ []

-- `inline resources`
abbrev pub inline_name : List ℕ
inline_name = 0x69 ∷ 0x6E ∷ 0x6C ∷ 0x69 ∷ 0x6E ∷ 0x65 ∷ 0x20 ∷ 0x72 ∷ 0x65 ∷ 0x73 ∷ 0x6F ∷ 0x75 ∷ 0x72 ∷ 0x63 ∷ 0x65 ∷ 0x73 ∷ []

-- `all else`
abbrev pub rest_name : List ℕ
rest_name = 0x61 ∷ 0x6C ∷ 0x6C ∷ 0x20 ∷ 0x65 ∷ 0x6C ∷ 0x73 ∷ 0x65 ∷ []

-- `total`
abbrev pub total_name : List ℕ
total_name = 0x74 ∷ 0x6F ∷ 0x74 ∷ 0x61 ∷ 0x6C ∷ []

-- all bytes; a sum stays at the greatest number, to which the kinds of a file, or of a thousand, do not come (`file-total`, `sums-total`)
unfoldable pub total : Kinds → ℕ
total k = plus k.header (plus k.nodes (plus k.metadata (plus k.visible (plus k.hidden (plus k.unpackers (plus k.references (plus k.inline k.rest)))))))

-- the nine kinds, and `total`
unfoldable pub kind_lines : Kinds → List ℕ
kind_lines k =
    kind_line header_name k.header
    ++ kind_line nodes_name k.nodes
    ++ kind_line metadata_name k.metadata
    ++ kind_line visible_name k.visible
    ++ kind_line hidden_name k.hidden
    ++ kind_line unpackers_name k.unpackers
    ++ kind_line references_name k.references
    ++ kind_line inline_name k.inline
    ++ kind_line rest_name k.rest
    ++ kind_line total_name (total k)

-- `B`, the nine kinds, and all bytes
unfoldable pub bytes_line : (tail : List ℕ) → Kinds → List ℕ
bytes_line tail k =
    0x42 ∷ number k.header ++ number k.nodes ++ number k.metadata ++ number k.visible ++ number k.hidden ++ number k.unpackers ++ number k.references
    ++ number k.inline ++ number k.rest ++ number (total k) ++ ended tail

-- ---- of a file

unfoldable pub kinds_in : List ℕ → Result Kinds
kinds_in f = ask (reads f) (kinds_of (limits full_nodes full_items) f)

abbrev pub lined : Kinds → Answer
lined k = plainly (kind_lines k)

unfoldable pub bytes_answer : (room : ℕ) → (tail f : List ℕ) → Answer
bytes_answer room tail f = printed room tail lined (kinds_in f)

abbrev pub in_line : (tail : List ℕ) → Kinds → Answer
in_line tail k = plainly (bytes_line tail k)

unfoldable pub bytes_line_answer : (room : ℕ) → (tail f : List ℕ) → Answer
bytes_line_answer room tail f = printed room tail (in_line tail) (kinds_in f)

-- ---- sums over files

-- one more file; a file of more than 65,536 bytes counts as refused
unfoldable pub plus_file : Totals → List ℕ → Totals
plus_file t f = cond (ltb 65536 (length f)) (refused_one t) (one_more t (kinds_in f))

-- at a 1,001st file there are no sums
unfoldable pub with_file : Result Totals → List ℕ → Result Totals
with_file (good t) f = cond (leb most_files t.files) (bad too_many_files 0) (good (plus_file t f))
with_file (bad n p) f = bad n p

-- file after file
unfoldable pub with_files : Result Totals → List (List ℕ) → Result Totals
with_files s [] = s
with_files s (f ∷ fs) = with_files (with_file s f) fs

-- `files`
abbrev pub files_name : List ℕ
files_name = 0x66 ∷ 0x69 ∷ 0x6C ∷ 0x65 ∷ 0x73 ∷ []

-- `refused`
abbrev pub refused_name : List ℕ
refused_name = 0x72 ∷ 0x65 ∷ 0x66 ∷ 0x75 ∷ 0x73 ∷ 0x65 ∷ 0x64 ∷ []

unfoldable pub sum_lines : Totals → List ℕ
sum_lines t = kind_line files_name t.files ++ kind_line refused_name t.refused ++ kind_lines t.kinds

abbrev pub summed : Totals → Answer
summed t = plainly (sum_lines t)

-- what is printed of the sums so far
unfoldable pub sums_of : (room : ℕ) → Result Totals → Answer
sums_of room s = printed room [] summed s

-- the answer for a run over files
unfoldable pub sums_answer : (room : ℕ) → List (List ℕ) → Answer
sums_answer room fs = sums_of room (with_files (good zeros) fs)

-- the bytes that a file adds: all of an accepted one, of another none
unfoldable pub bytes_if : (n : ℕ) → Result Kinds → ℕ
bytes_if n (good k) = n
bytes_if n (bad m p) = 0

unfoldable pub bytes_added : List ℕ → ℕ
bytes_added f = cond (ltb 65536 (length f)) 0 (bytes_if (length f) (kinds_in f))

-- what the code's sums say
abbrev pub sums_told : std.Result Totals Refusal → Result Totals
sums_told = told
