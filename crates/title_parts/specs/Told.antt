-- What the code's answers say.
-- Assumes nothing.
use Rattle.std.specs.Prelude.{◌≡◌, Result, Ok, Err, true, List, [], ℕ, ◌+◌, ◌≤◌, length}
use Rattle.machine.specs.Machine.{Out, ok, refused, ◌>>=◌, ret}
use Rattle.cursor.specs.Rows.{Frame, P}
use Rattle.cursor.specs.Refusals.{cut_short}
use Rattle.cursor.specs.Leaves.{number}
use Rattle.room.specs.Parts.{part}
use Rattle.vlq.specs.Vlq.{vlq}
use Rattle.refusals.specs.Reasons.{number_of}
use Rattle.refusals.specs.declared.Refusal.{Refusal}
use Rattle.cursor.specs.declared.Cursor.{Cursor}
use Rattle.cursor.specs.declared.Node.{Node}
use Rattle.title_text.specs.Description.{shape}
use Rattle.room.specs.Counts.{Counts}
use Rattle.title_parts.specs.declared.Packed.{Packed}

-- a number that is read, in its shortest form
unfoldable pub number_text : Frame → List ℕ → P (List ℕ)
number_text κ f = do
  v ← number κ cut_short (length f)
  ret (vlq v)

-- by the answer: what a program answers is put, and the cursor is after what it read; or its refusal is passed on, and nothing is said of the buffer
abbrev pub CopiedAs : (out out' : List ℕ) → (to : ℕ) → Result (ℕ × Cursor) Refusal → Out (List ℕ) → Type 0
CopiedAs out out' to (Ok (n, c)) o = (s : List ℕ) × (o ≡ ok s c.at.0) × Counts out out' to s n
CopiedAs out out' to (Err r) o = o ≡ refused (number_of r.0) r.1

pub record Copies (out out' : List ℕ) (to : ℕ) (r : Result (ℕ × Cursor) Refusal) (o : Out (List ℕ)) : Type 0 where
  pub is : CopiedAs out out' to r o

-- unpackers were measured; where they are said to be the same, the file has them from their place on
pub record PackedAs (f : List ℕ) (row : Node) (p : Packed) : Type 0 where
  pub size : Counts [] [] 0 (shape f row).unpackers p.size
  pub same : p.same ≡ true → (row.unpackers + p.size ≤ length f) × (part f row.unpackers p.size ≡ (shape f row).unpackers)
