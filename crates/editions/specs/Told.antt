-- What the code's answers say.
-- Assumes nothing.
use Rattle.std.specs.Prelude.{◌≡◌, Option, Some, None, Ok, Err, Bool, true, false, List, ◌∷◌, ℕ, ◌+◌, ◌<◌, length, drop}
use Rattle.std.specs.Prelude as std
use Rattle.std.proofs.Math.Seq.{slice}
use Rattle.room.specs.Room.{Result, good, bad}
use Rattle.editions.specs.Sheets.{parted, value, field, same, word, is_first, is_number, is_name, Kind, node, item, other, is_second, judged}
use Rattle.editions.specs.Reads.{FieldIs, NoField, NumberIs, NameIs}
use Rattle.editions.specs.declared.Line.{Line}
use Rattle.editions.specs.declared.Line.TheVariants as line
use Rattle.editions.specs.declared.State.{State}

abbrev pub NumberAt : List ℕ → ℕ → Option (ℕ × ℕ) → Type 0
NumberAt l at (Some (v, q)) = NumberIs l at v q
NumberAt l at None = NoField is_number l at

abbrev pub NameAt : List ℕ → ℕ → Option ℕ → Type 0
NameAt l at (Some q) = NameIs l at q
NameAt l at None = NoField is_name l at

abbrev pub line_told : Line → Kind
line_told (line.Node k) = node k
line_told (line.Item k) = item k
line_told (line.Other) = other

-- the first line's word, and where the field behind it begins
abbrev pub WordAt : List ℕ → Option (Bool × ℕ) → Type 0
WordAt l (Some (e, q)) = FieldIs l 0 (word e) q
WordAt l None = (e : Bool) → NoField (same (word e)) l 0

-- the first line: its edition, and its counts of nodes and items
pub record LeadIs (l : List ℕ) (e : Bool) (nodes items : ℕ) : Type 0 where
  pub right : is_first e l ≡ true
  pub says : is_first true l ≡ e
  pub nodes-are : nodes ≡ value 0 (field 3 l)
  pub items-are : items ≡ value 0 (field 4 l)

abbrev pub LeadAt : List ℕ → Option (Bool × ℕ × ℕ) → Type 0
LeadAt l (Some (e, nodes, items)) = LeadIs l e nodes items
LeadAt l None = (e : Bool) → is_first e l ≡ false

-- the state after a line that stands; 31 where it does not, whatever the line's number
abbrev pub step_told : Option State → Result State
step_told (Some t) = good t
step_told None = bad 0 0

abbrev pub body_told : std.Result State ℕ → Result State
body_told (Ok t) = good t
body_told (Err n) = bad 31 n

-- a judged sheet: its edition and where its first line ends; or the line that cannot stand
pub record Well (s : List ℕ) (e : Bool) (stop : ℕ) : Type 0 where
  pub says : is_second s ≡ e
  pub end : State
  pub judges : judged e (parted 0x0A s) ≡ good end
  pub inside : stop < length s
  pub lines : parted 0x0A s ≡ slice 0 stop s ∷ parted 0x0A (drop (stop + 1) s)
  pub leads : is_first e (slice 0 stop s) ≡ true

abbrev pub JudgedAs : List ℕ → std.Result (Bool × ℕ) ℕ → Type 0
JudgedAs s (Ok (e, stop)) = Well s e stop
JudgedAs s (Err n) = judged (is_second s) (parted 0x0A s) ≡ bad 31 n
