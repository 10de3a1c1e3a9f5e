-- Letters of UTF-16 that stand for themselves: a unit each, whose low byte is what is shown.
-- Assumes nothing.
use mathlib.Core.Path.{◌≡◌, refl, sym, ap, ◌∙◌}
use mathlib.Core.Bool.{Bool, true, false, not, ◌&&◌}
use mathlib.Core.List.{List, [], ◌∷◌, ◌++◌}
use Prim.Native.Nat.{ℕ, zero, suc, ◌+◌, ◌*◌, ◌-◌, ◌≤◌, ◌<◌}
use native.Mathlib.Decide.{dec_lt}
use native.Mathlib.Numerals.{add-one}
use native.Mathlib.Omega.{arith}
use lib.Dec.{leb, eqb}
use lib.ListN.{length, get_or, drop, set}
use lib.Seq.{sets}
use Rattle.room.specs.Parts.{part}
use borrow.Author.Tests.{eqb-true, leb-true}
use Rattle.room.specs.Room.{Result, good, bad}
use Rattle.room.specs.Counts.{Counts, too_many}
use Rattle.room.proofs.Sets.{sets-append}
use Rattle.room.proofs.Counting.{counts-then, counts-as, part_length}
use Rattle.utf16.specs.Unicode.{char, utf8, first16, converted, to_utf8, is_good}
use Rattle.utf16.proofs.Walk.{Bytes}
use Rattle.utf16.proofs.Sixteen.{form16}
use Rattle.utf16.proofs.Ways.{low-unit}
use Rattle.utf16.proofs.Converting.{after, after_none, after-after, step, Converting, conv_start, conv_end}
use Rattle.text.specs.Text.{plain, unicode_text}
use Rattle.text.specs.Inside.{letter, lows, Letters}
use Rattle.text.proofs.Escapes.{escaped-plain}
use Rattle.text.proofs.Shown.{shown8, as_shown, shown-low, shown-start, shown-end, unicode-good}
use Rattle.text.proofs.Least.{part_bytes}

-- ---- a letter

both_true : (p q : Bool) → p && q ≡ true → (p ≡ true) × (q ≡ true)
both_true true true e = (refl, refl)
both_true true false e = absurd (let z : ◌≡◌ {A = ℕ} 0 1 = cc in omega arith)
both_true false q e = absurd (let z : ◌≡◌ {A = ℕ} 0 1 = cc in omega arith)

plain-most : (b : ℕ) → plain b ≡ true → b < 0x80
unfolding plain
plain-most b e =
    let w = both_true (leb 0x20 b && leb b 0x7E) (not (eqb b 0x5C)) e in
    let v = both_true (leb 0x20 b) (leb b 0x7E) w.0 in let l = leb-true b 0x7E v.1 in
    omega arith

letter-shown : (b : ℕ) → plain b ≡ true → shown8 b ≡ b ∷ []
letter-shown b e = sym (shown-low b (plain-most b e)) ∙ sym (escaped-plain b e)

module _ (d : List ℕ) (at : ℕ) (h : letter d at ≡ true) where
  letter-high : get_or d at 0 ≡ 0
  unfolding letter
  letter-high = let w = both_true (eqb (get_or d at 0) 0) _ h in eqb-true (get_or d at 0) 0 w.0

  letter-low : plain (get_or d (at + 1) 0) ≡ true
  unfolding letter
  letter-low = let w = both_true (eqb (get_or d at 0) 0) _ h in w.1

  letter-first : at + 2 ≤ length d → char (get_or d (at + 1) 0) 2 ≡ first16 (drop at d)
  letter-first l =
      let e = letter-high in let m = plain-most (get_or d (at + 1) 0) letter-low in
      low-unit d at {left = length d - at} refl (omega arith) (omega arith) (omega arith)

-- ---- letters one after the other

pub letters_none : (d : List ℕ) (at : ℕ) → at ≤ length d → Letters d at 0
letters_none d at l = record { inside = omega arith; each = λ k m. absurd (omega arith) }

pub letters_more : (d : List ℕ) (at n : ℕ) → Letters d at n → at + 2 * n + 2 ≤ length d → letter d (at + 2 * n) ≡ true → Letters d at (n + 1)
letters_more d at n w l h = record {
  inside = omega arith;
  each = λ k m. elim (dec_lt k n) [
    | yes j ↦ w.each k j
    | no j ↦ let e : n ≡ k = omega arith in rw e at h
  ];
}

letters_rest : (d : List ℕ) (at n : ℕ) → Letters d at (suc n) → Letters d (at + 2) n
letters_rest d at n w =
    let l = w.inside in
    record { inside = omega arith; each = λ k m. let e : at + 2 * suc k ≡ at + 2 + 2 * k = omega arith in rw e at (w.each (suc k) (omega arith)) }

letters_first : (d : List ℕ) (at n : ℕ) → Letters d at (suc n) → letter d at ≡ true
letters_first d at n w = let e : at + 2 * 0 ≡ at = omega arith in rw e at (w.each 0 (omega arith))

letters_step : (d : List ℕ) → Bytes d → (at n : ℕ) → Letters d at n
    → converted first16 shown8 at (drop at d) ≡ after (lows d at n) (converted first16 shown8 (at + 2 * n) (drop (at + 2 * n) d))
unfolding lows
letters_step d h at zero w = let e : at + 2 * 0 ≡ at = omega arith in rw e (after_none _)
letters_step d h at (suc n) w =
    let l = w.inside in let a = letters_first d at n w in let b = get_or d (at + 1) 0 in
    let e : at + 2 + 2 * n ≡ at + 2 * suc n = omega arith in
    step shown8 form16 d h at (letter-first d at a (omega arith)) (omega arith)
    ∙ ap (λ (t : List ℕ). after t (converted first16 shown8 (at + 2) (drop (at + 2) d))) (letter-shown b (letter-low d at a))
    ∙ ap (after (b ∷ [])) (letters_step d h (at + 2) n (letters_rest d at n w))
    ∙ after-after (b ∷ []) (lows d (at + 2) n) _
    ∙ ap (λ (k : ℕ). after (b ∷ lows d (at + 2) n) (converted first16 shown8 k (drop k d))) e

pub conv_letters : (d : List ℕ) → Bytes d → (n : ℕ) {at : ℕ} → Letters d at n → {o o₁ o₂ : List ℕ} {base to to' : ℕ} {whole : Result (List ℕ)}
    → Converting first16 shown8 d o o₁ base at to whole → Counts o₁ o₂ to (lows d at n) to' → Converting first16 shown8 d o o₂ base (at + 2 * n) to' whole
conv_letters d h n {at} w k p = record {
  within = w.inside;
  done = k.done ++ lows d at n;
  puts = counts-then k.puts p;
  left = k.left ∙ ap (after k.done) (letters_step d h at n w) ∙ after-after k.done (lows d at n) _;
}

-- ---- the low bytes of units

pub lows-length : (d : List ℕ) (at n : ℕ) → length (lows d at n) ≡ n
unfolding lows
lows-length d at zero = refl
lows-length d at (suc n) = ap suc (lows-length d (at + 2) n)

-- one more of them
lows-more : (d : List ℕ) (at n : ℕ) → lows d at (suc n) ≡ lows d at n ++ get_or d (at + 2 * n + 1) 0 ∷ []
unfolding lows
lows-more d at zero = let e : at + 1 ≡ at + 2 * 0 + 1 = omega arith in ap (λ k. get_or d k 0 ∷ []) e
lows-more d at (suc n) =
    let e : at + 2 + 2 * n + 1 ≡ at + 2 * suc n + 1 = omega arith in
    ap (λ (t : List ℕ). get_or d (at + 1) 0 ∷ t) (lows-more d (at + 2) n ∙ ap (λ k. lows d (at + 2) n ++ get_or d k 0 ∷ []) e)

-- the first n are stored; so is the next
pub lows_stored : (d : List ℕ) (from n : ℕ) (t : List ℕ) (to : ℕ) {t' : List ℕ} → t' ≡ sets t to (lows d from n)
    → set t' (to + n) (get_or d (from + 2 * n + 1) 0) ≡ sets t to (lows d from (n + 1))
lows_stored d from n t to e =
    rw (e, add-one n, lows-more d from n)
    (ap (λ k. set (sets t to (lows d from n)) (to + k) (get_or d (from + 2 * n + 1) 0)) (sym (lows-length d from n))
    ∙ sets-append t to (lows d from n) (get_or d (from + 2 * n + 1) 0 ∷ []))

-- ---- a text of letters alone

shown-good : (r : Result (List ℕ)) {t : List ℕ} → as_shown r ≡ good t → is_good r ≡ true
unfolding as_shown is_good
shown-good (good t) e = refl
shown-good (bad n p) e = absurd (let z : ◌≡◌ {A = ℕ} 0 1 = cc in omega arith)

all-good : {d o o' : List ℕ} {base at to : ℕ} (r : Result (List ℕ)) → length d ≤ at → Converting first16 shown8 d o o' base at to (as_shown r) → is_good r ≡ true
all-good r l k = shown-good r (conv_end k l)

module _ (f : List ℕ) (at n : ℕ) (l : at + n ≤ length f) {d : List ℕ} (e : d ≡ part f at n) where
  pub lent_length : length d ≡ n
  lent_length = ap length e ∙ part_length f at n l

  pub letters_text : Bytes f → {mark k : ℕ} → to_utf8 d ≡ converted first16 utf8 mark (drop mark d) → mark ≤ length d → Letters d mark k → mark + 2 * k ≡ n
      → {o o' : List ℕ} {to r : ℕ} → to ≤ too_many → Counts o o' to (lows d mark k) r → Counts o o' to (unicode_text f at n) r
  letters_text h {mark} {k} s m w j {o} t p =
      let b : Bytes d = rw e (part_bytes f at n h) in let z = lent_length in
      let all = conv_letters d b k w (conv_start d o mark t m (shown-start d mark s)) p in
      let end : length d ≤ mark + 2 * k = omega arith in
      counts-as (unicode-good f at n e refl (all-good (to_utf8 d) end all)) (shown-end (to_utf8 d) end all)
