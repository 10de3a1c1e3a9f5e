-- How many bytes a text has at least, by the bytes that it shows.
-- Assumes nothing.
use mathlib.Core.Path.{◌≡◌, refl, ap}
use mathlib.Core.Bool.{Bool, true, false, cond}
use mathlib.Core.List.{List, [], ◌∷◌}
use Prim.Native.Nat.{ℕ, ◌+◌, ◌*◌, ◌/◌, ◌≤◌, ◌<◌}
use native.Mathlib.Decide.{dec_lt}
use native.Mathlib.Omega.{arith}
use lib.Dec.{ltb, eqb}
use lib.ListN.{length, drop, length-append, length-take, get_or-eq_default}
use lib.Seq.{get_or-take, get_or-drop}
use borrow.Author.Tests.{eqb-true}
use Rattle.room.specs.Parts.{part}
use Rattle.room.specs.Room.{Result, good, bad}
use Rattle.room.proofs.Counting.{part_length}
use Rattle.utf16.specs.Unicode.{bytes_of, bytes16, utf8, first16, chars, bytes_all, unmark, to_utf8}
use Rattle.utf16.proofs.Walk.{Bytes, write-all}
use Rattle.utf16.proofs.Sixteen.{short16, long16, form16}
use Rattle.utf16.proofs.Eight.{four8, some8}
use Rattle.utf16.proofs.Back.{written-good}
use Rattle.text.specs.Text.{plain, hexed, escaped, escaped_part, shown_byte, shown, shown_or, unicode_text}

-- ---- a byte of text for each byte

all-least : (put : ℕ → List ℕ) → ((b : ℕ) → 0 < length (put b)) → (s : List ℕ) → length s ≤ length (bytes_all put s)
unfolding bytes_all
all-least put h [] = omega arith
all-least put h (b ∷ s) =
    let x = h b in let y = all-least put h s in let z = length-append (put b) (bytes_all put s) in
    omega arith

escaped-by : (b : ℕ) (p : Bool) → 0 < length (cond p (b ∷ []) (hexed b))
unfolding hexed
escaped-by b true = omega arith
escaped-by b false = omega arith

escaped-some : (b : ℕ) → 0 < length (escaped b)
unfolding escaped
escaped-some b = escaped-by b (plain b)

shown_by : (b : ℕ) (p : Bool) → 0 < length (cond p (escaped b) (b ∷ []))
shown_by b true = escaped-some b
shown_by b false = omega arith

shown-least : (t : List ℕ) → length t ≤ length (shown t)
unfolding shown shown_byte
shown-least t = all-least shown_byte (λ b. shown_by b (ltb b 0x80)) t

pub escaped-least : (f : List ℕ) (at n : ℕ) → at + n ≤ length f → n ≤ length (escaped_part f at n)
unfolding escaped_part
escaped-least f at n l = let e = part_length f at n l in let x = all-least escaped escaped-some (part f at n) in omega arith

-- ---- of UTF-16 a byte for each two, but for a mark

unit-bytes : (c : ℕ) → length (bytes16 c) ≤ 2 * length (utf8 c)
unfolding bytes16 bytes_of
unit-bytes c = let s = some8 c in elim (dec_lt c 0x10000) [
  | yes l ↦ rw (short16 c l) (omega arith)
  | no l ↦ rw (long16 c (omega arith), four8 c (omega arith)) (omega arith)
]

units-bytes : (cs : List ℕ) → length (bytes_all bytes16 cs) ≤ 2 * length (bytes_all utf8 cs)
unfolding bytes_all
units-bytes [] = omega arith
units-bytes (c ∷ cs) =
    let x = unit-bytes c in let y = units-bytes cs in
    let z = length-append (bytes16 c) (bytes_all bytes16 cs) in
    let w = length-append (utf8 c) (bytes_all utf8 cs) in
    omega arith

mark-bytes : (c : ℕ) → c ≡ 0xFEFF → length (bytes16 c) ≡ 2
unfolding bytes16 bytes_of
mark-bytes c e = rw (short16 c (omega arith))

unmarked_by : (c : ℕ) (cs : List ℕ) (p : Bool) → eqb c 0xFEFF ≡ p → length (bytes_all bytes16 (c ∷ cs)) ≤ 2 + 2 * length (bytes_all utf8 (cond p cs (c ∷ cs)))
unfolding bytes_all
unmarked_by c cs true e =
    let x = mark-bytes c (eqb-true c 0xFEFF e) in let y = units-bytes cs in
    let z = length-append (bytes16 c) (bytes_all bytes16 cs) in
    omega arith
unmarked_by c cs false e = let x = units-bytes (c ∷ cs) in omega arith

unmarked : (cs : List ℕ) → length (bytes_all bytes16 cs) ≤ 2 + 2 * length (bytes_all utf8 (unmark cs))
unfolding unmark bytes_all
unmarked [] = omega arith
unmarked (c ∷ cs) = unmarked_by c cs (eqb c 0xFEFF) refl

converted-least : (d : List ℕ) → Bytes d → {t : List ℕ} → to_utf8 d ≡ good t → length d ≤ 2 + 2 * length t
unfolding to_utf8
converted-least d h e =
    let w = written-good utf8 unmark (chars first16 0 0 d) e in
    let v = write-all form16 0 0 d h w.1 in
    let a : length d ≡ length (bytes_all bytes16 w.0) = ap length v.1 in
    let b = ap length w.2 in let m = unmarked w.0 in
    omega arith

-- ---- a part of bytes has bytes

pub part_bytes : (f : List ℕ) (at n : ℕ) → Bytes f → Bytes (part f at n)
part_bytes f at n h i = elim (dec_lt i n) [
  | yes l ↦ rw (get_or-take n (drop at f) i 0 l, get_or-drop at f i 0) (h (at + i))
  | no l ↦ let e = length-take n (drop at f) in rw (get_or-eq_default (part f at n) 0 {n = i} (omega arith)) (omega arith)
]

module _ (f : List ℕ) (h : Bytes f) where
  shown-or : (d old : List ℕ) (n : ℕ) → Bytes d → length d ≡ n → n ≤ length old → (r : Result (List ℕ)) → to_utf8 d ≡ r
      → n / 2 ≤ 1 + length (shown_or r old)
  unfolding shown_or
  shown-or d old n k e l (good t) w = let x = converted-least d k w in let y = shown-least t in omega arith
  shown-or d old n k e l (bad m p) w = omega arith

  pub unicode-least : (at n : ℕ) → at + n ≤ length f → n / 2 ≤ 1 + length (unicode_text f at n)
  unfolding unicode_text
  unicode-least at n l = shown-or (part f at n) (escaped_part f at n) n (part_bytes f at n h) (part_length f at n l) (escaped-least f at n l) (to_utf8 (part f at n)) refl
