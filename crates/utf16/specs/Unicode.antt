-- UTF-16, high byte first, and UTF-8 (02, E6; the Unicode standard, chapter 3.9): bytes, code units, scalar values.
-- Assumes nothing.
use Rattle.std.specs.Prelude.{Bool, true, false, cond, ◌&&◌, ◌||◌, List, [], ◌∷◌, ◌++◌, ℕ, zero, suc, ◌+◌, ◌-◌, ◌*◌, ◌/◌, ◌%◌, ltb, leb, eqb}
use Rattle.cursor.specs.Refusals.{bad_text}
use Rattle.room.specs.Room.{no_room, Result, good, bad}

-- ---- units and bytes

-- a unit is two bytes, the high one first; a last byte alone is none
unfoldable pub units : List ℕ → List ℕ
units [] = []
units (h ∷ []) = []
units (h ∷ l ∷ s) = (h * 256 + l) ∷ units s

unfoldable pub bytes_of : List ℕ → List ℕ
bytes_of [] = []
bytes_of (u ∷ us) = (u / 256) ∷ (u % 256) ∷ bytes_of us

-- ---- scalar values: all up to 10FFFFh but the surrogates

abbrev pub is_scalar : ℕ → Bool
is_scalar c = ltb c 0xD800 || (leb 0xE000 c && ltb c 0x110000)

-- ---- the units of a scalar value: itself, or a high and a low surrogate

unfoldable pub utf16 : ℕ → List ℕ
utf16 c = cond (ltb c 0x10000) (c ∷ []) ((0xD800 + (c - 0x10000) / 1024) ∷ (0xDC00 + (c - 0x10000) % 1024) ∷ [])

-- ---- the bytes of a scalar value

unfoldable pub bytes16 : ℕ → List ℕ
bytes16 c = bytes_of (utf16 c)

-- a byte of six bits
abbrev pub tail : ℕ → ℕ
tail x = 0x80 + x % 64

unfoldable pub utf8 : ℕ → List ℕ
utf8 c =
    cond (ltb c 0x80) (c ∷ [])
    (cond (ltb c 0x800) ((0xC0 + c / 64) ∷ tail c ∷ [])
    (cond (ltb c 0x10000) ((0xE0 + c / 4096) ∷ tail (c / 64) ∷ tail c ∷ [])
    ((0xF0 + c / 262144) ∷ tail (c / 4096) ∷ tail (c / 64) ∷ tail c ∷ [])))

-- ---- the first character: its scalar value and how many bytes it takes; or it is bad

pub data Char : Type 0 where
  char : (c n : ℕ) → Char
  none : Char

-- the low surrogate that belongs to the high surrogate u
unfoldable pub paired : ℕ → List ℕ → Char
paired u [] = none
paired u (v ∷ us) = cond (leb 0xDC00 v && ltb v 0xE000) (char (0x10000 + (u - 0xD800) * 1024 + (v - 0xDC00)) 4) none

unfoldable pub of_units : List ℕ → Char
of_units [] = none
of_units (u ∷ us) = cond (ltb u 0xD800 || leb 0xE000 u) (char u 2) (cond (ltb u 0xDC00) (paired u us) none)

unfoldable pub first16 : List ℕ → Char
first16 s = of_units (units s)

-- k bytes of six bits, after v; n bytes and at least `low` in all
unfoldable pub tails : (k v n low : ℕ) → List ℕ → Char
tails zero v n low s = cond (leb low v && is_scalar v) (char v n) none
tails (suc k) v n low [] = none
tails (suc k) v n low (b ∷ s) = cond (leb 0x80 b && ltb b 0xC0) (tails k (v * 64 + (b - 0x80)) n low s) none

-- a form is refused where a shorter one has the value
unfoldable pub first8 : List ℕ → Char
first8 [] = none
first8 (b ∷ s) =
    cond (ltb b 0x80) (char b 1)
    (cond (ltb b 0xC0) none
    (cond (ltb b 0xE0) (tails 1 (b - 0xC0) 2 0x80 s)
    (cond (ltb b 0xF0) (tails 2 (b - 0xE0) 3 0x800 s)
    (cond (ltb b 0xF8) (tails 3 (b - 0xF0) 4 0x10000 s) none))))

-- ---- all characters

-- one more in front
unfoldable pub before : ℕ → Result (List ℕ) → Result (List ℕ)
before c (good cs) = good (c ∷ cs)
before c (bad n p) = bad n p

-- the character at a place, and what the rest gives after its bytes
unfoldable pub next : ℕ → Char → (ℕ → Result (List ℕ)) → Result (List ℕ)
next at none rest = bad bad_text at
next at (char c n) rest = before c (rest n)

-- the characters of bytes from `at` on, of which `skip` belong to the character before; the earliest bad one is refused, placed at its first byte
unfoldable pub chars : (List ℕ → Char) → (skip at : ℕ) → List ℕ → Result (List ℕ)
chars first skip at [] = good []
chars first zero at (b ∷ s) = next at (first (b ∷ s)) (λ n. chars first (n - 1) (at + 1) s)
chars first (suc skip) at (b ∷ s) = chars first skip (at + 1) s

-- the bytes of characters
unfoldable pub bytes_all : (ℕ → List ℕ) → List ℕ → List ℕ
bytes_all put [] = []
bytes_all put (c ∷ cs) = put c ++ bytes_all put cs

-- one leading mark FEFFh is dropped
unfoldable pub unmark : List ℕ → List ℕ
unmark [] = []
unmark (c ∷ cs) = cond (eqb c 0xFEFF) cs (c ∷ cs)

-- the bytes of the characters in another form, after a change
unfoldable pub written : (ℕ → List ℕ) → (List ℕ → List ℕ) → Result (List ℕ) → Result (List ℕ)
written put change (good cs) = good (bytes_all put (change cs))
written put change (bad n p) = bad n p

-- ---- the two conversions

unfoldable pub to_utf8 : List ℕ → Result (List ℕ)
to_utf8 d = written utf8 unmark (chars first16 0 0 d)

unfoldable pub to_utf16 : List ℕ → Result (List ℕ)
to_utf16 t = written bytes16 (λ cs. cs) (chars first8 0 0 t)

-- ---- parts of them that the code's functions have in their contracts

-- the bytes from a place on, converted with no change
unfoldable pub converted : (List ℕ → Char) → (ℕ → List ℕ) → ℕ → List ℕ → Result (List ℕ)
converted first put at s = written put (λ cs. cs) (chars first 0 at s)

-- whether data converts
unfoldable pub is_good : Result (List ℕ) → Bool
is_good (good t) = true
is_good (bad n p) = false

-- the refusals of a conversion, which has no file
abbrev pub refusals : List ℕ
refusals = bad_text ∷ no_room ∷ []
