-- A converted text as it is shown, character by character.
-- Assumes nothing.
use mathlib.Core.Path.{◌≡◌, refl, sym, ap, ◌∙◌}
use mathlib.Core.Bool.{Bool, true, false}
use mathlib.Core.List.{List, [], ◌∷◌, ◌++◌, append-nil}
use Prim.Native.Nat.{ℕ, ◌+◌, ◌/◌, ◌≤◌, ◌<◌}
use native.Mathlib.Decide.{dec_lt}
use native.Mathlib.Omega.{arith}
use lib.ListN.{length, drop}
use borrow.Author.Tests.{lt-ltb, le-ltb}
use Rattle.room.specs.Parts.{part}
use Rattle.room.specs.Room.{Result, good, bad}
use Rattle.room.specs.Counts.{Counts}
use Rattle.room.proofs.Counting.{counts-as}
use Rattle.utf16.specs.Unicode.{tail, chars, bytes_all, written, converted, utf8, first16, to_utf8, is_good}
use Rattle.utf16.proofs.Eight.{one8, two8, three8, four8}
use Rattle.utf16.proofs.Converting.{Converting, conv_end}
use Rattle.text.proofs.Escapes.{all_append}
use Rattle.text.specs.Text.{escaped, escaped_part, shown_byte, shown, shown_or, unicode_text}

-- ---- a character

low-shown : (b : ℕ) → b < 0x80 → shown_byte b ≡ escaped b
unfolding shown_byte
low-shown b l = simp (lt-ltb b 0x80 l)

high-shown : (b : ℕ) → 0x80 ≤ b → shown_byte b ≡ b ∷ []
unfolding shown_byte
high-shown b l = simp (le-ltb b 0x80 l)

pub shown-low : (c : ℕ) → c < 0x80 → escaped c ≡ shown (utf8 c)
unfolding shown bytes_all
shown-low c l = rw (one8 c l, low-shown c l) (sym (append-nil _))

pub shown-high : (c : ℕ) → 0x80 ≤ c → utf8 c ≡ shown (utf8 c)
unfolding shown bytes_all
shown-high c l = elim (dec_lt c 0x800) [
  | yes h ↦ rw (two8 c l h, high-shown (0xC0 + c / 64) (omega arith), high-shown (tail c) (omega arith))
  | no h ↦ elim (dec_lt c 0x10000) [
    | yes k ↦ rw (three8 c (omega arith) k, high-shown (0xE0 + c / 4096) (omega arith), high-shown (tail (c / 64)) (omega arith), high-shown (tail c) (omega arith))
    | no k ↦ rw (
      four8 c (omega arith),
      high-shown (0xF0 + c / 262144) (omega arith),
      high-shown (tail (c / 4096)) (omega arith),
      high-shown
          (tail (c / 64)) (omega arith),
      high-shown (tail c) (omega arith),
    )
  ]
]

-- ---- all characters

-- how a character is shown
abbrev pub shown8 : ℕ → List ℕ
shown8 c = shown (utf8 c)

shown-all : (cs : List ℕ) → shown (bytes_all utf8 cs) ≡ bytes_all shown8 cs
unfolding bytes_all shown
shown-all [] = refl
shown-all (c ∷ cs) = all_append shown_byte (utf8 c) (bytes_all utf8 cs) ∙ ap (λ (t : List ℕ). shown (utf8 c) ++ t) (shown-all cs)

-- the text as it is shown, where there is one
unfoldable pub as_shown : Result (List ℕ) → Result (List ℕ)
as_shown (good t) = good (shown t)
as_shown (bad n p) = bad n p

shown-written : (r : Result (List ℕ)) → as_shown (written utf8 (λ cs. cs) r) ≡ written shown8 (λ cs. cs) r
unfolding as_shown written
shown-written (good cs) = ap good (shown-all cs)
shown-written (bad n p) = refl

pub shown-start : (d : List ℕ) (at : ℕ) → to_utf8 d ≡ converted first16 utf8 at (drop at d) → as_shown (to_utf8 d) ≡ converted first16 shown8 at (drop at d)
unfolding converted
shown-start d at e = ap as_shown e ∙ shown-written (chars first16 0 at (drop at d))

is-shown : (r : Result (List ℕ)) {t : List ℕ} → as_shown r ≡ good t → t ≡ shown_or r []
unfolding as_shown shown_or
is-shown (good t) e = cc
is-shown (bad n p) e = absurd (let z : ◌≡◌ {A = ℕ} 0 1 = cc in omega arith)

pub shown-end : {d o o' : List ℕ} {base at to : ℕ} (r : Result (List ℕ)) → length d ≤ at → Converting first16 shown8 d o o' base at to
    (as_shown r) → Counts o o' base (shown_or r []) to
shown-end r l k = counts-as (is-shown r (conv_end k l)) k.puts

pub shown-never : (r : Result (List ℕ)) {n p : ℕ} → is_good r ≡ true → as_shown r ≡ bad n p → {P : Type 0} → P
unfolding as_shown is_good
shown-never (good t) g e = absurd (let z : ◌≡◌ {A = ℕ} 0 1 = cc in omega arith)
shown-never (bad n p) g e = absurd (let z : ◌≡◌ {A = ℕ} 0 1 = cc in omega arith)

-- ---- a part of the file

good-shown : (r : Result (List ℕ)) (old : List ℕ) → is_good r ≡ true → shown_or r [] ≡ shown_or r old
unfolding shown_or is_good
good-shown (good t) old g = refl
good-shown (bad n p) old g = absurd (let z : ◌≡◌ {A = ℕ} 0 1 = cc in omega arith)

bad-shown : (r : Result (List ℕ)) (old : List ℕ) → is_good r ≡ false → old ≡ shown_or r old
unfolding shown_or is_good
bad-shown (good t) old g = absurd (let z : ◌≡◌ {A = ℕ} 0 1 = cc in omega arith)
bad-shown (bad n p) old g = refl

module _ (f : List ℕ) (at n : ℕ) {d : List ℕ} (e : d ≡ part f at n) {b : Bool} (g : b ≡ is_good (to_utf8 d)) where
  pub unicode-good : b ≡ true → shown_or (to_utf8 d) [] ≡ unicode_text f at n
  unfolding unicode_text
  unicode-good t = good-shown (to_utf8 d) (escaped_part f at n) (sym g ∙ t) ∙ ap (λ (x : List ℕ). shown_or (to_utf8 x) (escaped_part f at n)) e

  pub unicode-bad : b ≡ false → escaped_part f at n ≡ unicode_text f at n
  unfolding unicode_text
  unicode-bad t = bad-shown (to_utf8 d) (escaped_part f at n) (sym g ∙ t) ∙ ap (λ (x : List ℕ). shown_or (to_utf8 x) (escaped_part f at n)) e
