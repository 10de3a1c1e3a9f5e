-- There and back returns the same units, and back and there the same bytes, but for a leading mark.
-- Assumes nothing.
use mathlib.Core.Path.{◌≡◌, refl, sym, ap, ◌∙◌, subst}
use mathlib.Core.Logic.{◌⊎◌, inl, inr}
use mathlib.Core.Bool.{Bool, true, false, cond}
use mathlib.Core.List.{List, [], ◌∷◌, ◌++◌, append-nil}
use Prim.Native.Nat.{ℕ, suc, ◌/◌, ◌%◌, ◌<◌}
use native.Mathlib.Decide.{dec_lt}
use native.Mathlib.Omega.{arith}
use lib.Dec.{eqb}
use lib.ListN.{length}
use borrow.Author.Tests.{eq-eqb, ne_eqb}
use Rattle.room.specs.Room.{Result, good, bad}
use Rattle.utf16.specs.Unicode.{units, bytes_of, utf16, bytes16, utf8, first16, first8, chars, bytes_all, unmark, written, to_utf8, to_utf16}
use Rattle.utf16.proofs.Walk.{Bytes, All, nil, cons, placed, read_all, write-all}
use Rattle.utf16.proofs.Sixteen.{Scalar, char-value, units-bytes, short16, long16, form16}
use Rattle.utf16.proofs.Eight.{form8}

-- what was written, of characters that were read
pub written-good : (put : ℕ → List ℕ) (change : List ℕ → List ℕ) (r : Result (List ℕ)) {t : List ℕ} → written put change r ≡ good t →
    (cs : List ℕ) × (r ≡ good cs) × (t ≡ bytes_all put (change cs))
unfolding written
written-good put change (good cs) e = (cs, refl, cc)
written-good put change (bad n p) e = absurd (let z : ◌≡◌ {A = ℕ} 0 1 = cc in omega arith)

written-bad : (put : ℕ → List ℕ) (change : List ℕ → List ℕ) (r : Result (List ℕ)) {n p : ℕ} → written put change r ≡ bad n p → r ≡ bad n p
unfolding written
written-bad put change (good cs) e = absurd (let z : ◌≡◌ {A = ℕ} 0 1 = cc in omega arith)
written-bad put change (bad n p) e = e

-- ---- a refusal is 26, placed in what was given

pub placed8 : (d : List ℕ) {n p : ℕ} → to_utf8 d ≡ bad n p → (n ≡ 26) × (p < length d)
unfolding to_utf8
placed8 d e = let w = placed first16 0 0 d (written-bad utf8 unmark (chars first16 0 0 d) e) in (w.0, omega (arith, w.1))

pub placed16 : (t : List ℕ) {n p : ℕ} → to_utf16 t ≡ bad n p → (n ≡ 26) × (p < length t)
unfolding to_utf16
placed16 t e = let w = placed first8 0 0 t (written-bad bytes16 (λ cs. cs) (chars first8 0 0 t) e) in (w.0, omega (arith, w.1))

-- ---- units of all characters

bytes-append : (a b : List ℕ) → bytes_of (a ++ b) ≡ bytes_of a ++ bytes_of b
unfolding bytes_of
bytes-append [] b = refl
bytes-append (u ∷ a) b = ap (λ (x : List ℕ). (u / 256) ∷ (u % 256) ∷ x) (bytes-append a b)

all-bytes : (cs : List ℕ) → bytes_all bytes16 cs ≡ bytes_of (bytes_all utf16 cs)
unfolding bytes_all bytes16 bytes_of
all-bytes [] = refl
all-bytes (c ∷ cs) = ap (λ (x : List ℕ). bytes_of (utf16 c) ++ x) (all-bytes cs) ∙ sym (bytes-append (utf16 c) (bytes_all utf16 cs))

all-units : (cs : List ℕ) → units (bytes_all bytes16 cs) ≡ bytes_all utf16 cs
unfolding units
all-units cs = ap units (all-bytes cs ∙ sym (append-nil _)) ∙ units-bytes (bytes_all utf16 cs) [] ∙ append-nil _

-- ---- the mark

pub mark-is : (c : ℕ) (cs : List ℕ) → c ≡ 0xFEFF → unmark (c ∷ cs) ≡ cs
unfolding unmark
mark-is c cs e = simp (eq-eqb c 0xFEFF e)

pub mark-none : (c : ℕ) (cs : List ℕ) → (c ≡ 0xFEFF → ⊥) → unmark (c ∷ cs) ≡ c ∷ cs
unfolding unmark
mark-none c cs n = simp (ne_eqb c 0xFEFF n)

mark-or : (c : ℕ) → (c ≡ 0xFEFF) ⊎ (c ≡ 0xFEFF → ⊥)
mark-or c = elim (dec_lt c 0xFEFF) [
  | yes l ↦ inr (λ e. omega arith)
  | no l ↦ elim (dec_lt 0xFEFF c) [
    | yes h ↦ inr (λ e. omega arith)
    | no h ↦ inl (omega arith)
  ]
]

-- a mark in front is a unit and a character
unmark-none : unmark [] ≡ []
unfolding unmark
unmark-none = refl

same-mark : (cs : List ℕ) → All Scalar cs → unmark (bytes_all utf16 cs) ≡ bytes_all utf16 (unmark cs)
unfolding bytes_all unmark
same-mark [] g = refl
same-mark (c ∷ cs) (cons g gs) = let m = g.most in elim (mark-or c) [
  | inl e ↦ rw (short16 c (omega arith)) (mark-is c (bytes_all utf16 cs) e ∙ ap (bytes_all utf16) (sym (mark-is c cs e)))
  | inr n ↦ elim (dec_lt c 0x10000) [
    | yes l ↦ rw (mark-none c cs n, short16 c l) (mark-none c (bytes_all utf16 cs) n)
    | no l ↦ rw (mark-none c cs n, long16 c (omega arith)) (mark-none _ _ (λ e. omega arith))
  ]
]

good-unmark : (cs : List ℕ) → All Scalar cs → All Scalar (unmark cs)
unfolding unmark
good-unmark [] g = nil
good-unmark (c ∷ cs) (cons g gs) = by (eqb c 0xFEFF)
  where
    by : (b : Bool) → All Scalar (cond b cs (c ∷ cs))
    by true = gs
    by false = cons g gs

-- ---- the two theorems

-- b is a without one leading mark; where there is none it is the same
abbrev pub ButForMark : (mark a b : List ℕ) → Type 0
ButForMark mark a b = (a ≡ mark ++ b) ⊎ ((a ≡ b) × ((rest : List ℕ) → a ≡ mark ++ rest → ⊥))

-- characters that were written are converted
from-eight : (cs : List ℕ) → All Scalar cs → to_utf16 (bytes_all utf8 cs) ≡ good (bytes_all bytes16 cs)
unfolding to_utf16 written
from-eight cs g = rw (read_all form8 0 g) refl

from-sixteen : (cs : List ℕ) → All Scalar cs → to_utf8 (bytes_all bytes16 cs) ≡ good (bytes_all utf8 (unmark cs))
unfolding to_utf8 written
from-sixteen cs g = rw (read_all form16 0 g) refl

-- of units, as bytes
mark-units : (us : List ℕ) → ButForMark (0xFE ∷ 0xFF ∷ []) (bytes_of us) (bytes_of (unmark us))
unfolding bytes_of
mark-units [] = inr (ap bytes_of (sym unmark-none), λ rest e. let z : ◌≡◌ {A = ℕ} 0 (suc (suc (length rest))) = ap length e in omega arith)
mark-units (u ∷ us) = elim (mark-or u) [
  | inl e ↦ inl (rw (mark-is u us e, e) refl)
  | inr n ↦ inr (ap bytes_of (sym (mark-none u us n)), λ rest e. let a : u / 256 ≡ 0xFE = cc in let b : u % 256 ≡ 0xFF = cc in n (omega arith))
]

pub there_and_back : (d : List ℕ) {t : List ℕ} → Bytes d → to_utf8 d ≡ good t → (b : List ℕ) × (to_utf16 t ≡ good b) × ButForMark (0xFE ∷ 0xFF ∷ []) d b
unfolding to_utf8
there_and_back d {t} h e =
    let x = written-good utf8 unmark (chars first16 0 0 d) e in
    let cs = x.0 in let w = write-all form16 0 0 d h x.1 in let us : List ℕ = bytes_all utf16 cs in
    let whole : d ≡ bytes_of us = w.1 ∙ all-bytes cs in
    let q : bytes_all bytes16 (unmark cs) ≡ bytes_of (unmark us) = all-bytes (unmark cs) ∙ ap bytes_of (sym (same-mark cs w.0)) in (
      bytes_of (unmark us),
      ap to_utf16 x.2 ∙ from-eight (unmark cs) (good-unmark cs w.0) ∙ ap good q,
      subst
          (λ v. ButForMark (0xFE ∷ 0xFF ∷ []) v (bytes_of (unmark us))) (sym whole) (mark-units us),
    )

-- of characters, as UTF-8
mark-is8 : (rest : List ℕ) → utf8 0xFEFF ++ rest ≡ 0xEF ∷ 0xBB ∷ 0xBF ∷ rest
unfolding utf8
mark-is8 rest = refl

first-mark : (c : ℕ) (r rest : List ℕ) → Scalar c → utf8 c ++ r ≡ 0xEF ∷ 0xBB ∷ 0xBF ∷ rest → c ≡ 0xFEFF
first-mark c r rest g e =
    let m : Scalar 0xFEFF = record { most = omega arith; apart = inr (omega arith) } in
    sym (char-value (sym (form8.reads c r g) ∙ ap first8 (e ∙ sym (mark-is8 rest)) ∙ form8.reads 0xFEFF rest m))

mark-text : (cs : List ℕ) → All Scalar cs → ButForMark (0xEF ∷ 0xBB ∷ 0xBF ∷ []) (bytes_all utf8 cs) (bytes_all utf8 (unmark cs))
unfolding bytes_all
mark-text [] g = inr (ap (bytes_all utf8) (sym unmark-none), λ rest e. let z : ◌≡◌ {A = ℕ} 0 (suc (suc (suc (length rest)))) = ap length e in omega arith)
mark-text (c ∷ cs) (cons g gs) = elim (mark-or c) [
  | inl e ↦ inl (rw (mark-is c cs e, e) (mark-is8 (bytes_all utf8 cs)))
  | inr n ↦ inr (ap (bytes_all utf8) (sym (mark-none c cs n)), λ rest e. n (first-mark c (bytes_all utf8 cs) rest g e))
]

pub back-and_there : (t : List ℕ) {d : List ℕ} → to_utf16 t ≡ good d → (b : List ℕ) × (to_utf8 d ≡ good b) × ButForMark (0xEF ∷ 0xBB ∷ 0xBF ∷ []) t b
unfolding to_utf16
back-and_there t {d} e =
    let x = written-good bytes16 (λ cs. cs) (chars first8 0 0 t) e in
    let cs = x.0 in
    let w = write-all form8 0 0 t tt x.1 in (
      bytes_all utf8 (unmark cs),
      ap to_utf8 x.2 ∙ from-sixteen cs w.0,
      subst
          (λ v. ButForMark (0xEF ∷ 0xBB ∷ 0xBF ∷ []) v (bytes_all utf8 (unmark cs))) (sym w.1) (mark-text cs w.0),
    )
