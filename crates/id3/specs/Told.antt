-- What the code's answers say.
-- Assumes nothing.
use Rattle.std.specs.Prelude.{List, ℕ, Ok, Err, length, get_or}
use Rattle.std.specs.Prelude as std
use Rattle.machine.specs.Machine.{Out, ok, refused}
use Rattle.refusals.specs.Reasons.{number_of}
use Rattle.refusals.specs.declared.Refusal.{Refusal}
use Rattle.cursor.specs.declared.FilePlace.{FilePlace}
use Rattle.cursor.specs.declared.Cursor.{Cursor}
use Rattle.room.specs.Room.{Result, good, bad}
use Rattle.refusals.specs.Told.{told}
use Rattle.id3.specs.Tag.{Head}
use Rattle.id3.specs.Frames.{no_frame}
use Rattle.id3.specs.declared.TagFrame.{TagFrame}

-- ---- the public answers

abbrev pub count_told : std.Result ℕ Refusal → Result ℕ
count_told = told

abbrev pub frame_told : std.Result TagFrame Refusal → Result TagFrame
frame_told = told

-- ---- inside

abbrev pub head_told : std.Result (ℕ × FilePlace × Cursor) Refusal → Out Head
head_told (Ok (flags, end, c)) = ok (record { flags = flags; end = end.0 }) c.at.0
head_told (Err r) = refused (number_of r.0) r.1

-- the count of the frames, and the one of a number, if there is one
pub record Walk : Type 0 where
  pub count : ℕ
  pub kept : TagFrame

abbrev pub walk_told : std.Result (ℕ × TagFrame) Refusal → Result Walk
walk_told (Ok (n, x)) = good (record { count = n; kept = x })
walk_told (Err r) = bad (number_of r.0) r.1

abbrev pub walk_of : ℕ → Out (List TagFrame) → Result Walk
walk_of want (ok xs q) = good (record { count = length xs; kept = get_or xs want no_frame })
walk_of want (refused n p) = bad n p
