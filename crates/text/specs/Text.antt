-- Bytes as text (01, Support sheet; 02, E6): numbers, bytes that stand for themselves, bytes in hex, and UTF-16 as it is shown.
-- Assumes nothing.
use Rattle.std.specs.Prelude.{Bool, cond, not, ◌&&◌, List, [], ◌∷◌, ◌++◌, ℕ, ◌/◌, ◌%◌, ltb, leb, eqb, get_or}
use Rattle.room.specs.Parts.{part}
use Rattle.room.specs.Room.{Result, good, bad}
use Rattle.room.specs.Decimal.{decimal}
use Rattle.utf16.specs.Unicode.{bytes_all, to_utf8}

-- ---- numbers: a field after the first has a tab before it

unfoldable pub tabbed : List ℕ → List ℕ
tabbed t = 0x09 ∷ t

unfoldable pub number : ℕ → List ℕ
number n = tabbed (decimal n)

-- `1.00`, `1.01` or `2.00`
unfoldable pub version_text : ℕ → List ℕ
version_text v = decimal (v / 100) ++ 0x2E ∷ decimal (v / 10 % 10) ++ decimal (v % 10)

-- ---- bytes

-- the lower-case hex digits
unfoldable pub hex_digits : List ℕ
hex_digits = 0x30 ∷ 0x31 ∷ 0x32 ∷ 0x33 ∷ 0x34 ∷ 0x35 ∷ 0x36 ∷ 0x37 ∷ 0x38 ∷ 0x39 ∷ 0x61 ∷ 0x62 ∷ 0x63 ∷ 0x64 ∷ 0x65 ∷ 0x66 ∷ []

unfoldable pub hex_digit : ℕ → ℕ
hex_digit d = get_or hex_digits d 0

-- bytes 20h to 7Eh but the backslash
unfoldable pub plain : ℕ → Bool
plain b = leb 0x20 b && leb b 0x7E && not (eqb b 0x5C)

-- a backslash and two hex digits
unfoldable pub hexed : ℕ → List ℕ
hexed b = 0x5C ∷ hex_digit (b / 16) ∷ hex_digit (b % 16) ∷ []

-- a plain byte as itself, another in hex
unfoldable pub escaped : ℕ → List ℕ
escaped b = cond (plain b) (b ∷ []) (hexed b)

-- n bytes from `at` on, escaped
unfoldable pub escaped_part : List ℕ → ℕ → ℕ → List ℕ
escaped_part f at n = bytes_all escaped (part f at n)

-- ---- a text in UTF-16

-- a byte of a converted text: from 80h up as itself, else escaped
unfoldable pub shown_byte : ℕ → List ℕ
shown_byte b = cond (ltb b 0x80) (escaped b) (b ∷ [])

unfoldable pub shown : List ℕ → List ℕ
shown t = bytes_all shown_byte t

-- the converted text, or `old` where there is none
unfoldable pub shown_or : Result (List ℕ) → List ℕ → List ℕ
shown_or (good t) old = shown t
shown_or (bad n p) old = old

-- n bytes from `at` on: converted into UTF-8, or escaped where they do not convert
unfoldable pub unicode_text : List ℕ → ℕ → ℕ → List ℕ
unicode_text f at n = shown_or (to_utf8 (part f at n)) (escaped_part f at n)
