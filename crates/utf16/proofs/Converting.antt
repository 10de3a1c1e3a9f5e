-- A conversion in one pass: a loop that reads a character and puts it.
-- Assumes nothing.
use mathlib.Core.Path.{◌≡◌, refl, sym, ap, ◌∙◌}
use mathlib.Core.Bool.{true, false}
use mathlib.Core.List.{List, [], ◌∷◌, ◌++◌, append_assoc, append-nil}
use Prim.Native.Nat.{ℕ, ◌+◌, ◌-◌, ◌≤◌, ◌<◌}
use native.Mathlib.Omega.{arith}
use lib.ListN.{length, drop, take, replicate, length-drop}
use lib.Seq.{drop-drop}
use borrow.Author.Tests.{le-leb, lt-leb}
use Rattle.room.specs.Room.{Result, good, bad, fitting, counted, kept}
use Rattle.room.specs.Counts.{Counts, too_many}
use Rattle.room.proofs.Counting.{counts-none, counts-then, wrote-all, wrote-past}
use Rattle.utf16.specs.Unicode.{Char, char, none, before, chars, bytes_all, unmark, written, converted, utf8, bytes16, units, of_units, first16, first8, to_utf8, to_utf16, is_good}
use Rattle.utf16.proofs.Walk.{Bytes, Form, fine_from, chars-step, chars-bad, chars-end}
use native.Mathlib.Nat.{zero-add}
use Rattle.utf16.proofs.Sixteen.{Scalar, never, writes16, form16}
use Rattle.utf16.proofs.Back.{mark-is, mark-none}

-- bytes in front of what the rest gives
unfoldable pub after : List ℕ → Result (List ℕ) → Result (List ℕ)
after a (good t) = good (a ++ t)
after a (bad n p) = bad n p

pub after-after : (a b : List ℕ) (r : Result (List ℕ)) → after a (after b r) ≡ after (a ++ b) r
unfolding after
after-after a b (good t) = ap good (sym (append_assoc a b t))
after-after a b (bad n p) = refl

pub after_none : (r : Result (List ℕ)) → r ≡ after [] r
unfolding after
after_none (good t) = refl
after_none (bad n p) = refl

written-before : (put : ℕ → List ℕ) (c : ℕ) (r : Result (List ℕ)) → written put (λ cs. cs) (before c r) ≡ after (put c) (written put (λ cs. cs) r)
unfolding written before after bytes_all
written-before put c (good cs) = refl
written-before put c (bad n p) = refl

-- the character at a place lies inside
pub char-in : {Fine : List ℕ → Type 0} {first : List ℕ → Char} {own : ℕ → List ℕ} → Form Scalar Fine first own → (d : List ℕ) → Fine d →
    (at : ℕ) {c n : ℕ} → char c n ≡ first (drop at d) → at ≤ length d → Scalar c × (0 < n) × (at + n ≤ length d)
char-in form d h at e l =
    let w = form.writes (drop at d) (fine_from form at d h) (sym e) in
    let w₁ = w.1 in let w₂ = w.2 in let z = length-drop at d in
    (w.0, w₁, omega arith)

pub step : {Fine : List ℕ → Type 0} {first : List ℕ → Char} (put : ℕ → List ℕ) {own : ℕ → List ℕ} → Form Scalar Fine first own → (d : List ℕ) →
    Fine d → (at : ℕ) {c n : ℕ} → char c n ≡ first (drop at d)
    → at < length d → converted first put at (drop at d) ≡ after (put c) (converted first put (at + n) (drop (at + n) d))
unfolding converted
step {first = first} put form d h at {c} {n} e l =
    let w = form.writes (drop at d) (fine_from form at d h) (sym e) in
    let z = length-drop at d in
    ap (written put (λ cs. cs)) (chars-step first at (drop at d) (omega arith) w.1 (sym e))
    ∙ written-before put c _
    ∙ ap (λ (s : List ℕ). after (put c) (written put (λ cs. cs) (chars first 0 (at + n) s))) (drop-drop n at d)

-- d becomes `whole`: what is left is what the bytes from `at` on give, and the rest was put into o, from `base` up to `to`
pub record Converting (first : List ℕ → Char) (put : ℕ → List ℕ) (d o o' : List ℕ) (base at to : ℕ) (whole : Result (List ℕ)) : Type 0 where
  pub within : at ≤ length d
  pub done : List ℕ
  pub puts : Counts o o' base done to
  pub left : whole ≡ after done (converted first put at (drop at d))

module _ {first : List ℕ → Char} {put : ℕ → List ℕ} where
  pub conv_start : (d o : List ℕ) {base : ℕ} (at : ℕ) {whole : Result (List ℕ)} → base ≤ too_many → at ≤ length d → whole ≡ converted first put
      at (drop at d) → Converting first put d o o base at base whole
  conv_start d o at m l e = record { within = l; done = []; puts = counts-none o m; left = e ∙ after_none _ }

  pub conv_length : {d o o' : List ℕ} {base at to : ℕ} {whole : Result (List ℕ)} → Converting first put d o o' base at to whole → length o' ≡ length o
  conv_length k = k.puts.long

  pub conv_on : {Fine : List ℕ → Type 0} {own : ℕ → List ℕ} → Form Scalar Fine first own → (d : List ℕ) → Fine d → (at : ℕ) {c n : ℕ} → char c
      n ≡ first (drop at d) → {o o₁ o₂ : List ℕ} {base to to' : ℕ} {whole : Result (List ℕ)}
      → at < length d → Converting first put d o o₁ base at to whole → Counts o₁ o₂ to (put c) to' → Converting first put d o o₂ base (at + n) to' whole
  conv_on form d h at {c} {n} e l k p = record {
    within = let w = char-in form d h at e (omega arith) in w.2;
    done = k.done ++ put c;
    puts = counts-then k.puts p;
    left = k.left ∙ ap (after k.done) (step put form d h at e l) ∙ after-after k.done (put c) _;
  }

  module _ {d o o' : List ℕ} {base at to : ℕ} {whole : Result (List ℕ)} (k : Converting first put d o o' base at to whole) where
    pub conv_bad : at < length d → none ≡ first (drop at d) → whole ≡ bad 26 at
    unfolding converted written after
    conv_bad l e = let z = length-drop at d in k.left ∙ ap (λ (r : Result (List ℕ)). after k.done (written put (λ cs. cs) r))
        (chars-bad first at (drop at d) (omega arith) (sym e))

    pub conv_end : length d ≤ at → whole ≡ good k.done
    unfolding converted written after bytes_all
    conv_end l = let z = length-drop at d in k.left ∙ ap (λ (r : Result (List ℕ)). after k.done (written put (λ cs. cs) r))
        (chars-end first at (drop at d) (omega arith)) ∙ ap good (append-nil k.done)

  module _ {d o o' : List ℕ} {at to : ℕ} {whole : Result (List ℕ)} (k : Converting first put d o o' 0 at to whole) where
    pub conv_full : length d ≤ at → length o' < to → fitting (length o) whole ≡ bad 22 0
    unfolding fitting
    conv_full l m = let z = conv_length k in let w = wrote-past k.puts (omega arith) in rw (conv_end k l) (simp (lt-leb (length k.done) (length o) w))

    fit_is : length k.done ≤ length o → length d ≤ at → fitting (length o) whole ≡ good k.done
    unfolding fitting
    fit_is w l = rw (conv_end k l) (simp (le-leb (length k.done) (length o) w))

    pub conv_good : length d ≤ at → to ≤ length o' → length o' < too_many → {o'' : List ℕ} → o'' ≡ take to o' ++ replicate (length o' - to) 0
        → (good to ≡ counted (fitting (length o) whole)) × (o'' ≡ kept (length o) (fitting (length o) whole))
    unfolding counted kept
    conv_good l m n e =
        let z = conv_length k in
        let w = wrote-all k.puts (omega arith) (omega arith) e in
        let f = fit_is w.0 l in
        rw f (ap good w.1, w.2)

-- a refusal: zeros
module _ {n p : ℕ} {r : Result (List ℕ)} where
  pub refused : {room : ℕ} → r ≡ bad n p → {k : ℕ} → k ≡ room → {o : List ℕ} → o ≡ replicate k 0 → (bad n p ≡ counted r) × (o ≡ kept room r)
  unfolding counted kept
  refused e l z = rw e (refl, z ∙ ap (λ (k : ℕ). replicate k 0) l)

  pub fit-bad : (room : ℕ) → r ≡ bad n p → fitting room r ≡ bad n p
  unfolding fitting
  fit-bad room e = rw e

-- ---- the mark

written-unmark : (c : ℕ) (r : Result (List ℕ)) → (c ≡ 0xFEFF → ⊥) → written utf8 unmark (before c r) ≡ written utf8 (λ cs. cs) (before c r)
unfolding written before
written-unmark c (good cs) n = ap (λ (x : List ℕ). good (bytes_all utf8 x)) (mark-none c cs n)
written-unmark c (bad m p) n = refl

written-mark : (c : ℕ) (r : Result (List ℕ)) → c ≡ 0xFEFF → written utf8 unmark (before c r) ≡ written utf8 (λ cs. cs) r
unfolding written before
written-mark c (good cs) e = ap (λ (x : List ℕ). good (bytes_all utf8 x)) (mark-is c cs e)
written-mark c (bad m p) e = refl

empty-or : (d : List ℕ) (P : Type 0) → (d ≡ [] → P) → (0 < length d → P) → P
empty-or [] P f g = f refl
empty-or (b ∷ d) P f g = g (omega arith)

pub mark-bad : (d : List ℕ) → none ≡ first16 (drop 0 d) → to_utf8 d ≡ converted first16 utf8 0 (drop 0 d)
unfolding to_utf8 converted written chars unmark
mark-bad d e = empty-or d _ (λ z. rw z) (λ l. rw (chars-bad first16 0 d l (sym e)))

module _ (d : List ℕ) {c n : ℕ} (e : char c n ≡ first16 (drop 0 d)) where
  first_some : 0 < length d
  unfolding first16 units of_units
  first_some = empty-or d _ (λ z. never (sym (e ∙ ap first16 z))) (λ l. l)

  module _ (h : Bytes d) where
    pub mark-in : n ≤ length d
    mark-in = let w = writes16 d h (sym e) in w.2

    all_of : chars first16 0 0 d ≡ before c (chars first16 0 n (drop n d))
    all_of = let w = writes16 d h (sym e) in chars-step first16 0 d first_some w.1 (sym e) ∙ ap (λ (k : ℕ). before c (chars first16 0 k (drop n d))) (zero-add n)

    pub mark-dropped : c ≡ 0xFEFF → to_utf8 d ≡ converted first16 utf8 n (drop n d)
    unfolding to_utf8 converted
    mark-dropped m = ap (written utf8 unmark) all_of ∙ written-mark c _ m

    pub mark-kept : (c ≡ 0xFEFF → ⊥) → to_utf8 d ≡ converted first16 utf8 0 (drop 0 d)
    unfolding to_utf8 converted
    mark-kept m = ap (written utf8 unmark) all_of ∙ written-unmark c _ m ∙ ap (written utf8 (λ cs. cs)) (sym all_of)

-- ---- whether data converts

good-written : (put : ℕ → List ℕ) (change : List ℕ → List ℕ) (r : Result (List ℕ)) → is_good (written put change r) ≡ is_good r
unfolding is_good written
good-written put change (good cs) = refl
good-written put change (bad n p) = refl

good-before : (c : ℕ) (r : Result (List ℕ)) → is_good (before c r) ≡ is_good r
unfolding is_good before
good-before c (good cs) = refl
good-before c (bad n p) = refl

-- whether the whole converts is whether the bytes from `at` on do
pub record Checking (d : List ℕ) (at : ℕ) : Type 0 where
  pub within : at ≤ length d
  pub same : is_good (to_utf8 d) ≡ is_good (chars first16 0 at (drop at d))

pub check-start : (d : List ℕ) → Checking d 0
unfolding to_utf8
check-start d = record { within = omega arith; same = good-written utf8 unmark (chars first16 0 0 d) }

module _ (d : List ℕ) (at : ℕ) (l : at < length d) (k : Checking d at) where
  pub check-on : Bytes d → {c n : ℕ} → char c n ≡ first16 (drop at d) → Checking d (at + n)
  check-on h {c} {n} e =
      let w = char-in form16 d h at e (omega arith) in let z = length-drop at d in
      record {
        within = w.2;
        same = k.same ∙ ap is_good (chars-step first16 at (drop at d) (omega arith) w.1 (sym e)) ∙ good-before c _ ∙ ap
            (λ (s : List ℕ). is_good (chars first16 0 (at + n) s)) (drop-drop n at d);
      }

  pub check-bad : none ≡ first16 (drop at d) → false ≡ is_good (to_utf8 d)
  unfolding is_good
  check-bad e = let z = length-drop at d in sym (k.same ∙ ap is_good (chars-bad first16 at (drop at d) (omega arith) (sym e)))

pub check-end : (d : List ℕ) (at : ℕ) → length d ≤ at → Checking d at → true ≡ is_good (to_utf8 d)
unfolding is_good
check-end d at l k = let z = length-drop at d in sym (k.same ∙ ap is_good (chars-end first16 at (drop at d) (omega arith)))

pub utf16-start : (t : List ℕ) → to_utf16 t ≡ converted first8 bytes16 0 (drop 0 t)
unfolding to_utf16 converted
utf16-start t = refl
