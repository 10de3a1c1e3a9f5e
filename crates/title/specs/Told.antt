-- What the call answers, and what it leaves in the tables and the buffer.
-- Assumes nothing.
use Rattle.std.specs.Prelude.{◌≡◌, Ok, Err, List, ℕ, ◌≤◌, length, take}
use Rattle.std.specs.Prelude as std
use Rattle.refusals.specs.Reasons.{number_of}
use Rattle.refusals.specs.declared.Refusal.{Refusal}
use Rattle.header.specs.Header.{Header}
use Rattle.metadata.specs.declared.Limits.{Limits}
use Rattle.room.specs.Room.{Result, good, bad}
use Rattle.rows.specs.Rows.{nodes_in, items_in}
use Rattle.file.specs.Reading.{rows, read_file}
use Rattle.file.specs.Asking.{answered, nodes_written, items_written}
use Rattle.title_text.specs.Title.{correct_title}
use Rattle.title_nodes.specs.Passes.{Task}

-- by the answer: the file stands at the buffer's front; or there is none, and nothing is said of the buffer
abbrev pub WroteAs : (out : List ℕ) → std.Result ℕ Refusal → Result (List ℕ) → Type 0
WroteAs out (Ok n) o = (g : List ℕ) × (o ≡ good g) × (n ≡ length g) × (n ≤ length out) × (take n out ≡ g)
WroteAs out (Err r) o = o ≡ bad (number_of r.0) r.1

pub record Wrote (out : List ℕ) (r : std.Result ℕ Refusal) (o : Result (List ℕ)) : Type 0 where
  pub is : WroteAs out r o

-- of a file that reads as the task's rows the answer is as the question's
abbrev pub WroteTitled : Task → (out out' : List ℕ) → std.Result ℕ Refusal → Type 0
WroteTitled x out out' r =
    (lim : Limits) (h : Header) → read_file lim x.file ≡ rows h (nodes_in x.count x.nodes) (items_in x.total x.items)
    → Wrote out' r (correct_title x.row x.title (length out) x.file h (nodes_in x.count x.nodes) (items_in x.total x.items))

-- the question's answer, and what it leaves in the tables
abbrev pub corrected : (nodes items file : List ℕ) → (row : ℕ) → (title out : List ℕ) → Result (List ℕ)
corrected nodes items file row title out = answered nodes items file (correct_title row title (length out))

abbrev pub nodes_corrected : (nodes items file : List ℕ) → (row : ℕ) → (title out : List ℕ) → List ℕ
nodes_corrected nodes items file row title out = nodes_written nodes items (corrected nodes items file row title out)

abbrev pub items_corrected : (nodes items file : List ℕ) → (row : ℕ) → (title out : List ℕ) → List ℕ
items_corrected nodes items file row title out = items_written nodes items (corrected nodes items file row title out)
