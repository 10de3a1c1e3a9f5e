-- What a reading call is given, and what the code's answers say. Contracts read `told answer ≡ run program`.
-- Assumes nothing.
use Rattle.std.specs.Prelude.{◌≡◌, Result, Ok, Err, List, ℕ, ◌+◌, ◌^◌, ◌≤◌, ◌<◌, length, get_or}
use Rattle.machine.specs.Machine.{Out, ok, refused}
use Rattle.cursor.specs.declared.Byte.{Byte}
use Rattle.refusals.specs.Reasons.{number_of}
use Rattle.refusals.specs.declared.Refusal.{Refusal}
use Rattle.cursor.specs.declared.Cursor.{Cursor}

-- a part that ends at `end` lies in the file, and the file is no longer than an accepted one may be
abbrev pub Readable : (end : ℕ) → (file : List ℕ) → Type 0
Readable end file = (end ≤ length file) × (length file < 2 ^ 28)

-- the byte at `at`
pub record ByteTold (b : Byte) (f : List ℕ) (at : ℕ) : Type 0 where
  pub is : b.value ≡ get_or f at 0
  pub on : b.next.at.0 ≡ at + 1

-- a value and the cursor after it; or a refusal, as its reason's number and its place
abbrev pub read_told : {A : Type 0} → Result (A × Cursor) Refusal → Out A
read_told (Ok (a, c)) = ok a c.at.0
read_told (Err r) = refused (number_of r.0) r.1

abbrev pub number_told : Result (ℕ × Cursor) Refusal → Out ℕ
number_told = read_told

-- the same of a field whose value is not kept
abbrev pub pass_told : Result Cursor Refusal → Out (Unit {0})
pass_told (Ok c) = ok tt c.at.0
pass_told (Err r) = refused (number_of r.0) r.1
