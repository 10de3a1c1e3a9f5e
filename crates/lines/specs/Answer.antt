-- An answer of the command: a status and a text, of what a call answers; and what is left in the lent buffer.
-- Assumes nothing.
use Rattle.std.specs.Prelude.{◌≡◌, cond, List, [], ◌∷◌, ◌++◌, ℕ, leb, length}
use Rattle.std.specs.Prelude as std
use Rattle.refusals.specs.declared.Refusal.{Refusal}
use Rattle.room.specs.Room.{no_room, Result, good, bad, padded, counted, kept}
use Rattle.refusals.specs.Told.{told}
use Rattle.metadata.specs.Tables.{full_nodes, full_items, limits}
use Rattle.file.specs.Reading.{Reading, read_file}
use Rattle.text.specs.Text.{tabbed, number, escaped_part}
use Rattle.lines.specs.declared.Made.{Made}

-- 0 answered, 2 refused, 3 answered and not Mobile XMF; 1 no answer
pub record Answer : Type 0 where
  pub status : ℕ
  pub text : List ℕ

abbrev pub answer : ℕ → List ℕ → Answer
answer s t = record { status = s; text = t }

-- a text that is the answer
abbrev pub plainly : List ℕ → Answer
plainly t = answer 0 t

-- no answer
abbrev pub nothing : Answer
nothing = answer 1 []

-- ---- lines

-- the field that a line ends in, where files have to be told apart: a file's name
unfoldable pub name_field : List ℕ → List ℕ
name_field name = tabbed (escaped_part name 0 (length name))

unfoldable pub ended : (tail : List ℕ) → List ℕ
ended tail = tail ++ 0x0A ∷ []

-- `F`
unfoldable pub head_line : (tail : List ℕ) → List ℕ
head_line tail = 0x46 ∷ ended tail

-- `R`, number, place
unfoldable pub refusal_line : (tail : List ℕ) → (n p : ℕ) → List ℕ
refusal_line tail n p = 0x52 ∷ number n ++ number p ++ ended tail

-- `too long`
unfoldable pub too_long_line : (tail : List ℕ) → List ℕ
too_long_line tail = 0x74 ∷ 0x6F ∷ 0x6F ∷ 0x20 ∷ 0x6C ∷ 0x6F ∷ 0x6E ∷ 0x67 ∷ ended tail

-- ---- the answer in a buffer of `room` bytes

-- an answer that has room, or none
unfoldable pub closed : (room : ℕ) → Answer → Answer
closed room a = cond (leb (length a.text) room) a nothing

-- a refusal's line
unfoldable pub refused_by : (room : ℕ) → (tail : List ℕ) → (n p : ℕ) → Answer
refused_by room tail n p = closed room (answer 2 (refusal_line tail n p))

-- an answer, or the refusal for want of room
unfoldable pub fitted : (room : ℕ) → (tail : List ℕ) → Answer → Answer
fitted room tail a = cond (leb (length a.text) room) a (refused_by room tail no_room 0)

-- what is printed of a call's outcome, where `shows` says it of what the call found
unfoldable pub printed : {A : Type 0} → (room : ℕ) → (tail : List ℕ) → (shows : A → Answer) → Result A → Answer
printed room tail shows (good a) = fitted room tail (shows a)
printed room tail shows (bad n p) = refused_by room tail n p

-- what a file reads as, with full tables
unfoldable pub reads : List ℕ → Reading
reads f = read_file (limits full_nodes full_items) f

-- ---- what is answered, and left in the buffer: the text, and 0 to its end

pub record Gives (room : ℕ) (r : Made) (text : List ℕ) (a : Answer) : Type 0 where
  pub status-is : r.status ≡ a.status
  pub size_is : r.size ≡ length a.text
  pub text-is : text ≡ padded room a.text

-- of a call that filled the buffer, whatever its outcome x: `before` is what it left there, `after` what is left with a refusal's line in its place
abbrev pub Settles : std.Result ℕ Refusal → (tail before after : List ℕ) → Made → Type 0
Settles written tail before after r =
    (room : ℕ) (x : Result (List ℕ)) → length before ≡ room → told written ≡ counted x → before ≡ kept room x → Gives room r after (printed room tail plainly x)
