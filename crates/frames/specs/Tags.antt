-- The frames of an ID3 tag: a line each. The tag is lent by itself, or is the data of an item row; that of a hidden row is told only where `hidden` asks for it.
-- Assumes nothing.
use Rattle.std.specs.Prelude.{Bool, false, cond, List, [], ◌∷◌, ◌++◌, ℕ, ◌+◌, ◌/◌, ◌%◌}
use Rattle.machine.specs.Machine.{Out, ok, refused}
use Rattle.room.specs.Parts.{part}
use Rattle.cursor.specs.declared.Item.{Item}
use Rattle.room.specs.Room.{Result, good, bad}
use Rattle.file.specs.Hidden.{is_hidden}
use Rattle.file.specs.Asking.{ask}
use Rattle.text.specs.Text.{number}
use Rattle.id3.specs.Frames.{frames_of, frame_at}
use Rattle.id3.specs.declared.TagFrame.{TagFrame}
use Rattle.lines.specs.Answer.{Answer, plainly, nothing, name_field, printed, reads}
use Rattle.needs.specs.Needed.{answers, of_row}
use Rattle.frames.specs.declared.Frames.{Frames}
use Rattle.frames.specs.declared.Frames.TheVariants as frames

-- the four bytes of a name that is given as a number
unfoldable pub name_bytes : ℕ → List ℕ
name_bytes n = n / 0x1000000 % 256 ∷ n / 0x10000 % 256 ∷ n / 0x100 % 256 ∷ n % 256 ∷ []

-- `F`, the frame's number, its name, and the place and length of its contents
unfoldable pub frame_line : (i : ℕ) → TagFrame → List ℕ
frame_line i x = 0x46 ∷ number i ++ name_field (name_bytes x.name) ++ number x.place ++ number x.size ++ 0x0A ∷ []

-- the frames from frame i on
unfoldable pub frame_lines : (i : ℕ) → List TagFrame → List ℕ
frame_lines i [] = []
frame_lines i (x ∷ xs) = frame_line i x ++ frame_lines (i + 1) xs

-- of a walk over the whole tag
unfoldable pub all_lines : Out (List TagFrame) → Result (List ℕ)
all_lines (ok xs q) = good (frame_lines 0 xs)
all_lines (refused n p) = bad n p

unfoldable pub one_line : (i : ℕ) → Result TagFrame → Result (List ℕ)
one_line i (good x) = good (frame_line i x)
one_line i (bad n p) = bad n p

-- all frames, or the frame of a number
unfoldable pub tag_lines : Frames → List ℕ → Result (List ℕ)
tag_lines frames.All s = all_lines (frames_of s)
tag_lines (frames.One i) s = one_line i (frame_at i s)

unfoldable pub tag_answer : (room : ℕ) → Frames → List ℕ → Answer
tag_answer room which s = printed room [] plainly (tag_lines which s)

-- ---- of an item row: no answer where it is hidden and that was not asked for

unfoldable pub withheld : (hidden : Bool) → Item → Bool
withheld hidden r = cond hidden false (is_hidden r)

unfoldable pub shown_tag : (hidden : Bool) → Frames → List ℕ → (row : ℕ) → Item → Result Answer
shown_tag hidden which f row r = cond (withheld hidden r) (good nothing) (answers plainly (tag_lines which (part f r.place r.size)))

unfoldable pub row_tag_answer : (room row : ℕ) → (hidden : Bool) → Frames → List ℕ → Answer
row_tag_answer room row hidden which f = printed room [] (λ a. a) (ask (reads f) (of_row row (shown_tag hidden which) f))
