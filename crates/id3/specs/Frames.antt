-- The two questions over a lent tag (02, E10): how many frames it has, and the frame of a number, from 0 in file order.
-- Assumes nothing.
use Rattle.std.specs.Prelude.{cond, List, [], ◌∷◌, ◌++◌, ℕ, ltb, length, get_or}
use Rattle.machine.specs.Machine.{Out, ok, refused, run}
use Rattle.cursor.specs.Refusals.{no_such_row, not_a_tag, bad_tag, unsynchronised}
use Rattle.room.specs.Room.{Result, good, bad}
use Rattle.id3.specs.declared.TagFrame.{TagFrame}
use Rattle.id3.specs.Tag.{tag}

-- the whole tag is walked before either is answered
unfoldable pub frames_of : List ℕ → Out (List TagFrame)
frames_of s = run (tag (length s)) s 0

abbrev pub no_frame : TagFrame
no_frame = record { name = 0; place = 0; size = 0 }

unfoldable pub count_in : Out (List TagFrame) → Result ℕ
count_in (ok xs q) = good (length xs)
count_in (refused n p) = bad n p

unfoldable pub frame_in : ℕ → Out (List TagFrame) → Result TagFrame
frame_in i (ok xs q) = cond (ltb i (length xs)) (good (get_or xs i no_frame)) (bad no_such_row 0)
frame_in i (refused n p) = bad n p

unfoldable pub frame_count : List ℕ → Result ℕ
frame_count s = count_in (frames_of s)

unfoldable pub frame_at : ℕ → List ℕ → Result TagFrame
frame_at i s = frame_in i (frames_of s)

-- the refusals of either, which has no file
abbrev pub count_refusals : List ℕ
count_refusals = not_a_tag ∷ bad_tag ∷ unsynchronised ∷ []

abbrev pub frame_refusals : List ℕ
frame_refusals = count_refusals ++ no_such_row ∷ []
