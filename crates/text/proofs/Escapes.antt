-- Bytes of a file as text: bytes that stand for themselves, and bytes in hex.
-- Assumes nothing.
use mathlib.Core.Path.{◌≡◌, refl, sym, ap, ap₂, ◌∙◌}
use mathlib.Core.Bool.{true, false}
use mathlib.Core.List.{List, [], ◌∷◌, ◌++◌, append_assoc, append-nil}
use Prim.Native.Nat.{ℕ, suc, ◌+◌, ◌-◌, ◌/◌, ◌%◌, ◌≤◌, ◌<◌}
use native.Mathlib.Omega.{arith}
use lib.ListN.{length, get_or, drop, set}
use lib.Seq.{sets, drop-cons, drop-drop, take-add}
use borrow.Author.Tests.{le-leb, lt-leb}
use Rattle.room.specs.Parts.{part}
use Rattle.utf16.specs.Unicode.{bytes_all}
use Rattle.text.specs.Text.{hex_digits, hex_digit, plain, hexed, escaped, escaped_part}
use Rattle.text.specs.Inside.{PlainUpTo}

-- ---- a byte

module _ (b : ℕ) where
  pub plain-low : b < 0x20 → false ≡ plain b
  unfolding plain
  plain-low l = simp (lt-leb 0x20 b l)

  pub plain-high : 0x20 ≤ b → 0x7E < b → false ≡ plain b
  unfolding plain
  plain-high l h = simp (le-leb 0x20 b l, lt-leb b 0x7E h)

  pub escaped-plain : plain b ≡ true → b ∷ [] ≡ escaped b
  unfolding escaped
  escaped-plain e = simp e

  pub escaped-hex : plain b ≡ false → hexed b ≡ escaped b
  unfolding escaped
  escaped-hex e = simp e

  pub hexed-is : {t : List ℕ} → t ≡ hex_digits → 0x5C ∷ get_or t (b / 16) 0 ∷ get_or t (b % 16) 0 ∷ [] ≡ hexed b
  unfolding hexed hex_digit
  hexed-is e = rw e

-- three bytes stored
pub stored-three : (o : List ℕ) (to x y z : ℕ) → set (set (set o to x) (to + 1) y) (to + 2) z ≡ sets o to (x ∷ y ∷ z ∷ [])
stored-three o to x y z = let d : to + 1 ≡ suc to = omega arith in let e : to + 2 ≡ suc (suc to) = omega arith in rw (d, e)

-- ---- a part, cut in two

pub all_append : (put : ℕ → List ℕ) (a b : List ℕ) → bytes_all put (a ++ b) ≡ bytes_all put a ++ bytes_all put b
unfolding bytes_all
all_append put [] b = refl
all_append put (x ∷ a) b = ap (λ (t : List ℕ). put x ++ t) (all_append put a b) ∙ sym (append_assoc (put x) (bytes_all put a) (bytes_all put b))

module _ (f : List ℕ) where
  part_cut : (at m end : ℕ) → at ≤ m → m ≤ end → part f at (end - at) ≡ part f at (m - at) ++ part f m (end - m)
  part_cut at m end a b =
      let e : end - at ≡ (m - at) + (end - m) = omega arith in let d : at + (m - at) ≡ m = omega arith in
      rw (e, take-add (m - at) (end - m) (drop at f), drop-drop (m - at) at f, d)

  pub escaped-cut : (at m end : ℕ) → at ≤ m → m ≤ end → escaped_part f at (end - at) ≡ escaped_part f at (m - at) ++ escaped_part f m (end - m)
  unfolding escaped_part
  escaped-cut at m end a b = ap (bytes_all escaped) (part_cut at m end a b) ∙ all_append escaped (part f at (m - at)) (part f m (end - m))

  part-one : (at : ℕ) → at < length f → part f at (at + 1 - at) ≡ get_or f at 0 ∷ []
  part-one at l = let e : at + 1 - at ≡ 1 = omega arith in rw (e, drop-cons f at 0 l)

  escaped-one : (at : ℕ) → at < length f → escaped_part f at (at + 1 - at) ≡ escaped (get_or f at 0)
  unfolding escaped_part bytes_all
  escaped-one at l = ap (bytes_all escaped) (part-one at l) ∙ append-nil (escaped (get_or f at 0))

  -- ---- bytes that stand for themselves

  pub plain-none : (at : ℕ) → PlainUpTo f at at
  unfolding escaped_part bytes_all
  plain-none at = let e : at - at ≡ 0 = omega arith in record { within = omega arith; same = rw e }

  pub plain-one : (at : ℕ) → at < length f → plain (get_or f at 0) ≡ true → PlainUpTo f at (at + 1)
  plain-one at l h = record { within = omega arith; same = escaped-one at l ∙ sym (escaped-plain (get_or f at 0) h) ∙ sym (part-one at l) }

  pub plain-join : {from at to : ℕ} → PlainUpTo f from at → PlainUpTo f at to → PlainUpTo f from to
  plain-join {from} {at} {to} p q =
      let v = p.within in let w = q.within in
      record { within = omega arith; same = escaped-cut from at to v w ∙ ap₂ (λ (a b : List ℕ). a ++ b) p.same q.same ∙ sym (part_cut from at to v w) }

  -- ---- bytes in hex, one more

  pub hexed-more : (from at : ℕ) → from ≤ at → at < length f → plain (get_or f at 0) ≡ false
      → escaped_part f from (at - from) ++ hexed (get_or f at 0) ≡ escaped_part f from (at + 1 - from)
  hexed-more from at l m h =
      ap (λ (b : List ℕ). escaped_part f from (at - from) ++ b) (escaped-hex (get_or f at 0) h ∙ sym (escaped-one at m))
      ∙ sym (escaped-cut from at (at + 1) l (omega arith))

  -- ---- what is still to be put

  pub put-plain : (at stop end : ℕ) → stop ≤ end → PlainUpTo f at stop → escaped_part f at (end - at) ≡ part f at (stop - at) ++ escaped_part f stop (end - stop)
  put-plain at stop end l p = escaped-cut at stop end p.within l ∙ ap (λ (a : List ℕ). a ++ escaped_part f stop (end - stop)) p.same

  pub put-hexed : (at end : ℕ) → at < end → at < length f → plain (get_or f at 0) ≡ false → escaped_part f at (end - at) ≡ hexed (get_or f at 0) ++
      escaped_part f (at + 1) (end - (at + 1))
  put-hexed at end l m h =
      escaped-cut at (at + 1) end (omega arith) (omega arith) ∙ ap (λ (a : List ℕ). a ++ escaped_part f (at + 1) (end - (at + 1)))
      (escaped-one at m ∙ sym (escaped-hex (get_or f at 0) h))

  pub escaped-none : (at : ℕ) → escaped_part f at (at - at) ≡ []
  unfolding escaped_part bytes_all
  escaped-none at = let e : at - at ≡ 0 = omega arith in rw e

  pub put-none : (at end : ℕ) → end ≤ at → escaped_part f at (end - at) ≡ []
  unfolding escaped_part bytes_all
  put-none at end l = let e : end - at ≡ 0 = omega arith in rw e

  pub put-start : (from size : ℕ) {end : ℕ} → end ≡ from + size → escaped_part f from (end - from) ≡ escaped_part f from size
  put-start from size {end} e = let d : end - from ≡ size = omega arith in ap (escaped_part f from) d
