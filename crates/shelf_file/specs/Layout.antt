-- The file of a shelf: 16 cards of four 8-byte numbers, high byte first, then the text, 16 parts of 65,536 bytes. What a call on it answers, and what it leaves.
-- Assumes nothing.
use Rattle.std.specs.Prelude.{◌≡◌, cond, List, [], ◌∷◌, ◌++◌, ℕ, zero, suc, ◌+◌, ◌*◌, ◌/◌, ◌%◌, ◌^◌, ◌<◌, eqb, length, get_or, drop}
use Rattle.cursor.specs.Refusals.{damaged_shelf}
use Rattle.room.specs.Room.{Result, bad}
use Rattle.room.specs.Decimal.{decimal}
use Rattle.shelf.specs.Shelf.{Shelf}
use Rattle.shelf.specs.Words.{words_of, shelf_of}
use Rattle.shelf.specs.Runs.{Call, answer, next}

-- ---- numbers in bytes

-- a number in eight bytes, high byte first
abbrev pub eight : ℕ → List ℕ
eight n =
    n / 0x100000000000000 % 256 ∷ n / 0x1000000000000 % 256 ∷ n / 0x10000000000 % 256 ∷ n / 0x100000000 % 256
    ∷ n / 0x1000000 % 256 ∷ n / 0x10000 % 256 ∷ n / 0x100 % 256 ∷ n % 256 ∷ []

unfoldable pub eights : List ℕ → List ℕ
eights [] = []
eights (n ∷ ns) = eight n ++ eights ns

-- the number that the eight bytes from p on say
abbrev pub word_at : List ℕ → (p : ℕ) → ℕ
word_at f p =
    get_or f p 0 * 0x100000000000000 + get_or f (p + 1) 0 * 0x1000000000000 + get_or f (p + 2) 0 * 0x10000000000 + get_or f (p + 3) 0 * 0x100000000
    + get_or f (p + 4) 0 * 0x1000000 + get_or f (p + 5) 0 * 0x10000 + get_or f (p + 6) 0 * 0x100 + get_or f (p + 7) 0

-- n numbers, from p on
unfoldable pub words_from : (n : ℕ) → List ℕ → (p : ℕ) → List ℕ
words_from zero f p = []
words_from (suc n) f p = word_at f p ∷ words_from n f (p + 8)

-- ---- the file

-- the bytes of the cards, of the text and of the file

abbrev pub cards_bytes : ℕ
cards_bytes = 512

abbrev pub text_bytes : ℕ
text_bytes = 1048576

abbrev pub file_bytes : ℕ
file_bytes = 1049088

-- the file that holds a shelf
unfoldable pub file_of : Shelf → List ℕ
file_of s = eights (words_of s.cards) ++ s.text

-- the shelf that a file holds
unfoldable pub shelf_in : List ℕ → Shelf
shelf_in f = shelf_of (words_from 64 f 0) (drop cards_bytes f)

-- bytes, and the shelves that files hold: sixteen cards of numbers that fit in eight bytes
abbrev pub Bytes : List ℕ → Type 0
Bytes f = (k : ℕ) → get_or f k 0 < 256

pub record Held (s : Shelf) : Type 0 where
  pub sixteen : length s.cards ≡ 16
  pub small : (k : ℕ) → get_or (words_of s.cards) k 0 < 2 ^ 64

-- ---- the calls; a file of any other size is a damaged shelf, and stays as it is

unfoldable pub answer_in : Call → List ℕ → Result (List ℕ)
answer_in c f = cond (eqb (length f) file_bytes) (answer c (shelf_in f)) (bad damaged_shelf 0)

unfoldable pub file_after : Call → List ℕ → List ℕ
file_after c f = cond (eqb (length f) file_bytes) (file_of (next c (shelf_in f))) f

-- ---- what is said of a refusal: `R`, number, place, parted by tabs

unfoldable pub refusal_line : (n p : ℕ) → List ℕ
refusal_line n p = 0x52 ∷ 0x09 ∷ decimal n ++ 0x09 ∷ decimal p ++ 0x0A ∷ []
