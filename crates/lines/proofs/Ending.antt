-- How an answer ends: what was put, or a refusal's line, and the rest of the buffer.
-- Assumes nothing.
use mathlib.Core.Path.{◌≡◌, refl, sym, ap, ◌∙◌}
use mathlib.Core.List.{List, [], ◌∷◌, ◌++◌}
use Prim.Native.Nat.{ℕ, ◌-◌, ◌≤◌, ◌<◌}
use native.Mathlib.Omega.{arith}
use lib.ListN.{length, length-append, take, replicate}
use borrow.Author.Tests.{le-leb, lt-leb}
use Rattle.std.proofs.Common as std
use Rattle.std.proofs.Common.{Ok, Err}
use Rattle.refusals.specs.Reasons.{number_of}
use Rattle.refusals.specs.declared.Refusal.{Refusal}
use Rattle.room.specs.Room.{Result, good, bad, padded, counted, kept}
use Rattle.io.specs.Counts as io
use Rattle.io.proofs.Counting.{prefix_len_of_le}
use Rattle.room.specs.Counts.{Counts, too_many}
use Rattle.refusals.specs.Told.{told}
use Rattle.room.proofs.Counting.{wrote-all, wrote-past}
use Rattle.text.specs.Text.{tabbed, number, escaped_part}
use Rattle.lines.specs.Answer.{Answer, answer, plainly, name_field, ended, head_line, refusal_line, too_long_line, closed, refused_by, fitted, printed, Gives}
use Rattle.lines.specs.declared.Made.{Made}

-- ---- lines, as the bytes that are put one after the other

pub field_is : (name : List ℕ) → (0x09 ∷ []) ++ escaped_part name 0 (length name) ≡ name_field name
unfolding name_field tabbed
field_is name = refl

pub end_is : (tail : List ℕ) → tail ++ (0x0A ∷ []) ≡ ended tail
unfolding ended
end_is tail = refl

pub head-is : (tail : List ℕ) → (0x46 ∷ []) ++ ended tail ≡ head_line tail
unfolding head_line
head-is tail = refl

pub refusal_is : (tail : List ℕ) (n p : ℕ) → (0x52 ∷ []) ++ number n ++ number p ++ ended tail ≡ refusal_line tail n p
unfolding refusal_line
refusal_is tail n p = refl

pub long-is : (tail : List ℕ) → (0x74 ∷ 0x6F ∷ 0x6F ∷ 0x20 ∷ 0x6C ∷ 0x6F ∷ 0x6E ∷ 0x67 ∷ []) ++ ended tail ≡ too_long_line tail
unfolding too_long_line
long-is tail = refl

pub padded-none : (room : ℕ) → replicate room 0 ≡ padded room []
unfolding padded
padded-none room = let e : room - 0 ≡ room = omega arith in rw e

-- ---- a text that was put up to `end`

module _ {o o' w : List ℕ} {end : ℕ} (p : Counts o o' 0 w end) (m : length o' < too_many) (status : ℕ) where
  room_for : end ≤ length o' → length w ≤ length o
  room_for l = let a = p.after in let z = p.long in omega arith

  no_room_lem : length o' < end → length o < length w
  no_room_lem l = let z = p.long in wrote-past p (omega arith)

  pub close_all : end ≤ length o' → {t : List ℕ} → t ≡ take end o' ++ replicate (length o' - end) 0 → Gives (length o)
      (record { status = status; size = end }) t (closed (length o) (answer status w))
  unfolding closed
  close_all l c =
      let z = p.long in let x = wrote-all p (omega arith) (omega arith) c in
      rw (le-leb (length w) (length o) (room_for l)) (record { status-is = refl; size_is = x.1; text-is = x.2 })

  pub close_none : length o' < end → {t : List ℕ} → t ≡ replicate (length o') 0 → Gives (length o) (record { status = 1; size = 0 }) t (closed (length o) (answer status w))
  unfolding closed
  close_none l c = rw (lt-leb (length w) (length o) (no_room_lem l))
      (record { status-is = refl; size_is = refl; text-is = c ∙ ap (λ (n : ℕ). replicate n 0) p.long ∙ padded-none (length o) })

  pub fitted-room : (tail : List ℕ) → end ≤ length o' → closed (length o) (answer status w) ≡ fitted (length o) tail (answer status w)
  unfolding closed fitted
  fitted-room tail l = rw (le-leb (length w) (length o) (room_for l))

  pub fitted-over : (tail : List ℕ) → length o' < end → refused_by (length o') tail 22 0 ≡ fitted (length o) tail (answer status w)
  unfolding fitted
  fitted-over tail l = rw (lt-leb (length w) (length o) (no_room_lem l), p.long)

pub gives-room : {room room' : ℕ} {r : Made} {t : List ℕ} {a : Answer} → room ≡ room' → Gives room r t a → Gives room' r t a
gives-room e g = rw e at g

pub gives_as : {room : ℕ} {r : Made} {t : List ℕ} {a b : Answer} → a ≡ b → Gives room r t a → Gives room r t b
gives_as e g = rw e at g

-- ---- a text that a call wrote

pub refuse-room : (tail : List ℕ) (n p : ℕ) {room room' : ℕ} {r : Made} {t : List ℕ} → room ≡ room' → Gives room r t
    (refused_by room tail n p) → Gives room' r t (refused_by room' tail n p)
refuse-room tail n p e g = rw e at g

padded-room : (room : ℕ) (s text : List ℕ) → length text ≡ room → text ≡ padded room s → length s ≤ room
unfolding padded
padded-room room s text z e = let y = ap length e in let x = length-append s (replicate (room - length s) 0) in omega arith

module _ (room : ℕ) (tail : List ℕ) where
  bad-is : {n p : ℕ} (x : Result (List ℕ)) → bad n p ≡ counted x → refused_by room tail n p ≡ printed room tail plainly x
  unfolding counted printed
  bad-is (good s) e = let z : ◌≡◌ {A = ℕ} 0 1 = cc in absurd (omega arith)
  bad-is {n} {p} (bad m q) e = let a : n ≡ m = cc in let b : p ≡ q = cc in rw (a, b)

  good-is : {n : ℕ} (text : List ℕ) (x : Result (List ℕ)) → length text ≡ room → good n ≡ counted x → text ≡ kept room x → Gives room
      (record { status = 0; size = n }) text (printed room tail plainly x)
  unfolding counted kept printed fitted
  good-is {n} text (good s) z e t = let a : n ≡ length s = cc in rw (le-leb (length s) room (padded-room room s text z t)) (record { status-is = refl; size_is = a; text-is = t })
  good-is text (bad m q) z e t = let z : ◌≡◌ {A = ℕ} 0 1 = cc in absurd (omega arith)

  pub settle_bad : (x : Result (List ℕ)) {w : std.Result ℕ Refusal} {r : Refusal} → told w ≡ counted x → w ≡ Err r → refused_by room tail (number_of r.0) r.1 ≡ printed room tail plainly x
  settle_bad x e k = bad-is x (sym (ap told k) ∙ e)

  pub settle_good : (x : Result (List ℕ)) {n : ℕ} {w : std.Result ℕ Refusal} (text : List ℕ) → length text ≡ room → told w ≡ counted x → w ≡ Ok n → text ≡ kept room x
      → Gives room (record { status = 0; size = n }) text (printed room tail plainly x)
  settle_good x text z e k t = good-is text x z (sym (ap told k) ∙ e) t

-- ---- the text stands at the start of its buffer

pub answered : {room : ℕ} {r : Made} {t : List ℕ} {a : Answer} → Gives room r t a → io.IsPrefixLen r.size t × Gives room r t a
unfolding padded
answered {room} {r} {t} {a} g =
    let z = g.size_is in let y = ap length g.text-is in
    let x = length-append a.text (replicate (room - length a.text) 0) in
    (prefix_len_of_le r.size t (omega arith), g)

-- ---- what is printed of an outcome

module _ {A : Type 0} (shows : A → Answer) (room : ℕ) (tail : List ℕ) {x : Result A} where
  pub printed-good : {a : A} → x ≡ good a → fitted room tail (shows a) ≡ printed room tail shows x
  unfolding printed
  printed-good e = rw e

  pub printed-bad : {n p : ℕ} → x ≡ bad n p → refused_by room tail n p ≡ printed room tail shows x
  unfolding printed
  printed-bad e = rw e
