-- The question: the file with other data in one universal, visible content, or a refusal.
-- Assumes nothing.
use Rattle.std.specs.Prelude.{Bool, false, cond, not, ◌||◌, List, [], ◌∷◌, ◌≡◌, ℕ, ◌^◌, ◌≤◌, ◌<◌, ltb, leb, eqb, length, get_or}
use Rattle.cursor.specs.Refusals.{no_such_row, refers_elsewhere, not_a_title, result_too_large}
use Rattle.room.specs.Room.{no_room}
use Rattle.cursor.specs.declared.Node.{Node}
use Rattle.cursor.specs.declared.Item.{Item}
use Rattle.header.specs.Header.{Header}
use Rattle.metadata.specs.declared.Limits.{Limits}
use Rattle.rows.specs.Rows.{node_at, item_at}
use Rattle.file.specs.Reading.{rows, read_file}
use Rattle.file.specs.Asking.{Result, good, bad}
use Rattle.file.specs.Hidden.{is_hidden}
use Rattle.title_text.specs.Description.{Description, described, retitled}
use Rattle.title_text.specs.Text.{file_text}

-- ---- what is promised of the result

-- each element of a list is a byte
abbrev pub Bytes : List ℕ → Type 0
Bytes f = (k : ℕ) → get_or f k 0 < 256

-- a file is accepted with tables of these limits, and says d
pub record Says (lim : Limits) (g : List ℕ) (d : Description) : Type 0 where
  pub header : Header
  pub nodes : List Node
  pub items : List Item
  pub reads : read_file lim g ≡ rows header nodes items
  pub says : described g header nodes items ≡ d

-- Two files say the same, and the first is nowhere longer than the second: not as a whole (FileLength), nor where its tree starts (TreeStart) and ends (TreeEnd), nor is any node
-- (NodeLength) or node's header (NodeHeaderLength).
pub record NowhereLonger {lim lim' : Limits} {g g' : List ℕ} {d : Description} (s : Says lim g d) (t : Says lim' g' d) : Type 0 where
  pub whole : length g ≤ length g'
  pub start : s.header.extent.start ≤ t.header.extent.start
  pub last : s.header.extent.last ≤ t.header.extent.last
  pub nodes : (i : ℕ) → i < length s.nodes → ((node_at s.nodes i).size ≤ (node_at t.nodes i).size) × ((node_at s.nodes i).header ≤ (node_at t.nodes i).header)

-- ---- the question

-- some node has reference 2 or 3, and so names a place of the file; only a reference 3 leads to a detached node
unfoldable pub elsewhere : List Node → Bool
elsewhere [] = false
elsewhere (r ∷ rs) = eqb r.reference 2 || eqb r.reference 3 || elsewhere rs

-- hidden, or a version: its data is not replaced
unfoldable pub is_no_title : Item → Bool
is_no_title r = is_hidden r || not (eqb r.version 0)

-- the file with that title
unfoldable pub titled_file : (i : ℕ) → (text : List ℕ) → List ℕ → Header → List Node → List Item → List ℕ
titled_file i text f h ns is = file_text (retitled i text (described f h ns is))

-- a file that can be read again and that `room` bytes hold
unfoldable pub fitting : (room : ℕ) → List ℕ → Result (List ℕ)
fitting room g = cond (leb (2 ^ 28) (length g)) (bad result_too_large 0) (cond (ltb room (length g)) (bad no_room 0) (good g))

unfoldable pub correct_title : (i : ℕ) → (text : List ℕ) → (room : ℕ) → List ℕ → Header → List Node → List Item → Result (List ℕ)
correct_title i text room f h ns is =
    cond (leb (length is) i) (bad no_such_row 0)
    (cond (elsewhere ns) (bad refers_elsewhere 0)
    (cond (is_no_title (item_at is i)) (bad not_a_title 0)
    (fitting room (titled_file i text f h ns is))))

-- its own refusals, after the reader's
abbrev pub refusals : List ℕ
refusals = no_such_row ∷ refers_elsewhere ∷ not_a_title ∷ result_too_large ∷ no_room ∷ []
