-- The runs of a file: the longest spans of places of one kind, in file order, a line each.
-- Assumes nothing.
use Rattle.std.specs.Prelude.{◌≡◌, cond, List, [], ◌∷◌, ◌++◌, ℕ, ◌+◌, ◌-◌, ◌≤◌, ◌<◌, eqb, length, get_or, drop}
use Rattle.metadata.specs.Tables.{full_nodes, full_items, limits}
use Rattle.file.specs.Asking.{ask}
use Rattle.text.specs.Text.{tabbed, number}
use Rattle.account.specs.Marks.{marks_of}
use Rattle.lines.specs.Answer.{Answer, plainly, printed, reads}
use Rattle.usage.specs.Bytes.{header_name, nodes_name, metadata_name, visible_name, hidden_name, unpackers_name, references_name, inline_name, rest_name}

pub record Run : Type 0 where
  pub place : ℕ
  pub size : ℕ
  pub kind : ℕ

-- one that begins at a place
abbrev pub begun : (place kind : ℕ) → Run
begun p κ = record { place = p; size = 1; kind = κ }

-- with one place more
abbrev pub longer : Run → Run
longer r = record { place = r.place; size = r.size + 1; kind = r.kind }

-- of the kinds of the places behind a run, which goes on as long as the kind is its own
unfoldable pub runs_on : Run → List ℕ → List Run
runs_on r [] = r ∷ []
runs_on r (κ ∷ κs) = cond (eqb κ r.kind) (runs_on (longer r) κs) (r ∷ runs_on (begun (r.place + r.size) κ) κs)

-- of the kinds of the places from `place` on
unfoldable pub runs_from : (place : ℕ) → List ℕ → List Run
runs_from p [] = []
runs_from p (κ ∷ κs) = runs_on (begun p κ) κs

-- of the kinds of all places
abbrev pub runs_of : List ℕ → List Run
runs_of κs = runs_from 0 κs

-- ---- lines

abbrev pub names : List (List ℕ)
names = header_name ∷ nodes_name ∷ metadata_name ∷ visible_name ∷ hidden_name ∷ unpackers_name ∷ references_name ∷ inline_name ∷ rest_name ∷ []

-- the name of a kind
unfoldable pub name_of : (kind : ℕ) → List ℕ
name_of κ = get_or names κ []

-- `K`, place, length, kind
unfoldable pub run_line : Run → List ℕ
run_line r = 0x4B ∷ number r.place ++ number r.size ++ tabbed (name_of r.kind) ++ 0x0A ∷ []

unfoldable pub run_lines : List Run → List ℕ
run_lines [] = []
run_lines (r ∷ rs) = run_line r ++ run_lines rs

-- ---- the code's way: run after run

-- those from a place on
abbrev pub runs_at : List ℕ → (place : ℕ) → List Run
runs_at κs p = runs_from p (drop p κs)

-- a run from one place up to another, and those behind it
pub record Ends (κs : List ℕ) (place end : ℕ) : Type 0 where
  pub behind : place < end
  pub within : end ≤ length κs
  pub runs : runs_at κs place ≡ record { place = place; size = end - place; kind = get_or κs place 0 } ∷ runs_at κs end

-- ---- the answer; 22 for a file of more than 65,537 bytes

abbrev pub runs_shown : List ℕ → Answer
runs_shown κs = plainly (run_lines (runs_of κs))

unfoldable pub runs_answer : (room : ℕ) → List ℕ → Answer
runs_answer room f = printed room [] runs_shown (ask (reads f) (marks_of (limits full_nodes full_items) 65537 f))
