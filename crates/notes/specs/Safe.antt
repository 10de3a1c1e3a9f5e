-- A text for people, on a terminal: its safe characters as themselves, every other byte as a backslash and two hex digits, and `..` where the rest is left out.
-- Assumes nothing.
use Rattle.std.specs.Prelude.{Bool, cond, not, ◌&&◌, ◌||◌, List, [], ◌∷◌, ◌++◌, ℕ, zero, suc, ◌-◌, leb, take}
use Rattle.utf16.specs.Unicode.{Char, char, none, first8}
use Rattle.text.specs.Text.{hexed}

-- ---- which characters are safe, by their scalar values

-- U+0000 to U+001F, U+007F to U+009F
abbrev pub is_control : ℕ → Bool
is_control c = leb c 0x1F || (leb 0x7F c && leb c 0x9F)

-- those that part a line or turn its direction: U+2028 to U+202E, U+2066 to U+2069
abbrev pub is_mark : ℕ → Bool
is_mark c = (leb 0x2028 c && leb c 0x202E) || (leb 0x2066 c && leb c 0x2069)

unfoldable pub is_safe : ℕ → Bool
is_safe c = not (is_control c || is_mark c)

-- how many bytes of UTF-8 at the front are a safe character; 0 if none
unfoldable pub size_if : Char → ℕ
size_if (char c n) = cond (is_safe c) n 0
size_if none = 0

unfoldable pub safe_size : List ℕ → ℕ
safe_size s = size_if (first8 s)

-- ---- a text in pieces: a safe character, or one byte

-- what is written of a piece, and how many bytes of the text it is
pub record Piece : Type 0 where
  pub shown : List ℕ
  pub size : ℕ

-- the piece that begins with the byte b, before s, of which n bytes are a safe character
unfoldable pub piece : (n b : ℕ) → (s : List ℕ) → Piece
piece zero b s = record { shown = hexed b; size = 1 }
piece (suc n) b s = record { shown = b ∷ take n s; size = suc n }

-- the pieces of a text, of which `skip` bytes belong to the piece before
unfoldable pub pieces : (skip : ℕ) → List ℕ → List Piece
pieces skip [] = []
pieces zero (b ∷ s) = piece (safe_size (b ∷ s)) b s ∷ pieces (safe_size (b ∷ s) - 1) s
pieces (suc skip) (b ∷ s) = pieces skip s

-- ---- what is written: the pieces that stand in the first `most` bytes; `..` says that there are more

unfoldable pub cut_at : (most : ℕ) → List Piece → List ℕ
cut_at most [] = []
cut_at most (p ∷ ps) = cond (leb p.size most) (p.shown ++ cut_at (most - p.size) ps) (0x2E ∷ 0x2E ∷ [])

unfoldable pub safe_text : (most : ℕ) → List ℕ → List ℕ
safe_text most s = cut_at most (pieces 0 s)
