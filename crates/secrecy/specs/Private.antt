-- Demand 3 of what the command prints. The demand is that of the questions (promises, Promises.antt, Demand3), with the same private places.
-- Assumes nothing.
use Rattle.std.specs.Prelude.{◌≡◌, Bool, true, false, not, List, [], ℕ, T}
use Rattle.cursor.specs.declared.Node.{Node}
use Rattle.cursor.specs.declared.Item.{Item}
use Rattle.header.specs.Header.{Header}
use Rattle.room.specs.Room.{good}
use Rattle.file.specs.Reading.{rows}
use Rattle.file.specs.Hidden.{is_hidden}
use Rattle.file_laws.specs.Private.{DifferInPrivate}
use Rattle.account.specs.declared.Totals.{Totals}
use Rattle.lines.specs.Answer.{nothing, reads}
use Rattle.tables.specs.Rows.{item_row, found_lines}
use Rattle.titles.specs.Titles.{title_line, title_format}
use Rattle.notes.specs.Changes.{row_text}
use Rattle.needs.specs.Needed.{row_needs, shown_needs, shown_count}
use Rattle.usage.specs.Bytes.{plus_file}
use Rattle.frames.specs.Tags.{shown_tag}
use Rattle.answers.specs.Questions.{answer_of}
use Rattle.answers.specs.declared.asked.Asked.{Asked}
use Rattle.answers.specs.declared.asked.Asked.TheVariants as asked
use Rattle.frames.specs.declared.Frames.{Frames}

-- The questions whose answer hands out bytes: a resource, and the file with another content; those where there is no file at all, but a sheet, a tag or a text that is
-- converted; and the tag of a hidden row, where it is asked for as such. Whoever asks them wants the bytes.
unfoldable pub hands_out : Asked → Bool
hands_out asked.Sheet = false
hands_out asked.Sheet2 = false
hands_out asked.Moved = true
hands_out asked.Check = false
hands_out asked.Rows = false
hands_out asked.Verdict = false
hands_out (asked.Near row field) = false
hands_out (asked.Own row field) = false
hands_out (asked.Place row) = false
hands_out (asked.Resource row) = true
hands_out (asked.Origin row) = false
hands_out asked.Needs = false
hands_out (asked.RowNeeds row) = false
hands_out (asked.Count row channel resource) = false
hands_out asked.Titles = false
hands_out asked.Bytes = false
hands_out asked.BytesLine = false
hands_out (asked.RowTag row hidden which) = hidden
hands_out (asked.Tag which) = true
hands_out (asked.Corrected row) = true
hands_out (asked.Retitled row) = true
hands_out asked.Utf8 = true
hands_out asked.Utf16 = true
hands_out asked.Runs = false
hands_out asked.Mended = true
hands_out asked.MendLines = false

-- Two files of equal length, the first accepted, alike but for its private places
abbrev pub OfAlike : ((f g : List ℕ) → Type 0) → Type 0
OfAlike P = (f g : List ℕ) (h : Header) (ns : List Node) (is : List Item) → reads f ≡ rows h ns is → DifferInPrivate h ns is f g → P f g

-- have the same answer to every other question, status and text, whatever word is asked for, whatever ends the line and whatever room there is.
abbrev pub SameAnswers : Type 0
SameAnswers = OfAlike (λ f g. (word tail : List ℕ) (room : ℕ) (a : Asked) → T (not (hands_out a)) → answer_of word tail room g a ≡ answer_of word tail room f a)

-- So has what is said beside the file with another title: the old title, and the format by which a title is taken.
abbrev pub SameTitles : Type 0
SameTitles = OfAlike (λ f g. (row : ℕ) → (row_text row g (reads g) ≡ row_text row f (reads f)) × (title_format row (reads g) ≡ title_format row (reads f)))

-- The sums over files are the same with the one file as with the other.
abbrev pub SameSums : Type 0
SameSums = OfAlike (λ f g. (t : Totals) → plus_file t g ≡ plus_file t f)

-- And the data of a hidden row, of whatever field, is not shown: the row stands there with its words alone where it is found, it is no title, and neither what it needs nor its tag is told.
abbrev pub Unseen : Type 0
Unseen = (f : List ℕ) (k : ℕ) (r : Item) → T (is_hidden r)
    → (found_lines f (record { row = k; item = r }) ≡ item_row 0x49 k r)
    × (title_line f k r ≡ [])
    × (row_needs f k r ≡ good [])
    × (shown_needs f k r ≡ good nothing)
    × ((channel resource : ℕ) → shown_count f k channel resource r ≡ good nothing)
    × ((which : Frames) → shown_tag false which f k r ≡ good nothing)
