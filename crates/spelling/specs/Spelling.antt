-- What the words of a command line spell, and what is asked of a title's bytes and of a file's name.
-- Assumes nothing.
use Rattle.std.specs.Prelude.{◌≡◌, Bool, true, false, cond, Option, Some, None, ◌&&◌, ◌||◌, List, [], ◌∷◌, ◌++◌, ℕ, ◌+◌, ◌-◌, ◌*◌, ◌/◌, ◌%◌, ◌≤◌, ◌<◌, min, ltb, leb, ℤ, pos, negsuc, length, get_or}

-- ---- a number

-- a number in a word: one that is too large stands for the largest
abbrev pub held : ℕ → ℕ
held v = min v 18446744073709551615

-- the number that decimal digits spell after those that spell v; none where a byte is no digit
abbrev pub number_from : ℕ → List ℕ → Option ℕ
number_from v [] = Some (held v)
number_from v (b ∷ bs) = cond (leb 0x30 b && leb b 0x39) (number_from (v * 10 + (b - 0x30)) bs) None

-- the number that a word spells; none where it is empty
abbrev pub number_of : List ℕ → Option ℕ
number_of [] = None
number_of (b ∷ bs) = number_from 0 (b ∷ bs)

-- ---- bytes in hex

-- the value of a hex digit, and 16 for any other byte
abbrev pub hex_value : ℕ → ℕ
hex_value b =
    cond (ltb b 0x30) 16 (cond (leb b 0x39) (b - 0x30) (cond (ltb b 0x41) 16 (cond (leb b 0x46) (b - 0x41 + 10) (cond (ltb b 0x61) 16 (cond (leb b 0x66) (b - 0x61 + 10) 16)))))

-- byte k of those that digits spell, two digits to a byte
abbrev pub byte_at : List ℕ → ℕ → ℕ
byte_at digits k = hex_value (get_or digits (2 * k) 0) * 16 + hex_value (get_or digits (2 * k + 1) 0)

-- an even number of hex digits, with room for a byte of each two
pub record Hex (digits : List ℕ) (room : ℕ) : Type 0 where
  pub even : length digits % 2 ≡ 0
  pub fits : length digits / 2 ≤ room
  pub each : (k : ℕ) → k < length digits → hex_value (get_or digits k 0) ≤ 15

-- right says whether digits spell bytes that have room in old; then these stand at the start of bytes, and behind them what stood there
pub record Spelt (digits old bytes : List ℕ) (right : Bool) : Type 0 where
  pub meant : right ≡ true → Hex digits (length old)
  pub taken : Hex digits (length old) → right ≡ true
  pub stored : right ≡ true → (k : ℕ) → k < length digits / 2 → get_or bytes k 0 ≡ byte_at digits k
  pub rest : right ≡ true → (k : ℕ) → length digits / 2 ≤ k → get_or bytes k 0 ≡ get_or old k 0

-- ---- the descriptor for the status

-- the descriptor that a digit names, and -1 where it names none
abbrev pub descriptor_of : ℕ → ℤ
descriptor_of d = cond (leb 0x31 d && leb d 0x39) (pos (d - 0x30)) (negsuc 0)

-- `--status=` and a digit
abbrev pub status_word : ℕ → List ℕ
status_word d = (0x2D ∷ 0x2D ∷ 0x73 ∷ 0x74 ∷ 0x61 ∷ 0x74 ∷ 0x75 ∷ 0x73 ∷ 0x3D ∷ []) ++ (d ∷ [])

-- r is the descriptor that a word names, and -1 where it names none
pub record Names (word : List ℕ) (r : ℤ) : Type 0 where
  pub named : (d : ℕ) → word ≡ status_word d → r ≡ descriptor_of d
  pub other : ((d : ℕ) → word ≡ status_word d → ⊥) → r ≡ negsuc 0

-- ---- a title's bytes, a name, a buffer

-- whether some byte is 80h or more
abbrev pub has_high : List ℕ → Bool
has_high [] = false
has_high (b ∷ bs) = leb 0x80 b || has_high bs

-- r bytes of a name end in its last slash, and there is none where r is 0
pub record LastSlash (name : List ℕ) (r : ℕ) : Type 0 where
  pub found : 0 < r → get_or name (r - 1) 0 ≡ 0x2F
  pub after : (k : ℕ) → r ≤ k → k < length name → get_or name k 0 ≡ 0x2F → ⊥

-- n where there is room for them, and else 0
abbrev pub if_within : ℕ → ℕ → ℕ
if_within n room = cond (leb n room) n 0
