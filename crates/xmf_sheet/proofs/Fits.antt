-- What a writer put stands at the start of its buffer, and is the answer's text.
-- Assumes nothing.
use mathlib.Core.Path.{◌≡◌, refl, sym, ap, subst, ◌∙◌}
use mathlib.Core.List.{List, [], ◌∷◌, ◌++◌}
use Prim.Native.Nat.{ℕ, ◌-◌, ◌≤◌, ◌<◌}
use native.Mathlib.Decide.{dec_le}
use native.Mathlib.Omega.{arith}
use lib.ListN.{length, length-append, take, replicate}
use lib.Seq.{take_at}
use borrow.Author.Tests.{le-leb, lt-leb, lt-ltb, le-ltb}
use Rattle.io.specs.Counts.{IsPrefixLen}
use Rattle.io.proofs.Counting.{prefix_len_of_le}
use Rattle.metadata.specs.Tables.{full_nodes, full_items, limits}
use Rattle.room.specs.Room.{padded}
use Rattle.room.specs.Counts as room
use Rattle.program.proofs.Starts.{starts}
use Rattle.room.proofs.Decimal.{few-digits}
use Rattle.file.specs.Reading.{read_file, Reading, rows, refusal}
use Rattle.file.specs.Asking.{Result, good, bad, ask}
use Rattle.text.specs.Text.{tabbed, number}
use Rattle.sheet.specs.Sheet.{fitting, write, counted, kept, sheet_of}
use Rattle.refusals.specs.Told.{told}
use Rattle.refusals.specs.Reasons.{number_of}
use Rattle.refusals.specs.declared.Refusal.{Refusal}
use Rattle.std.proofs.Common as std
use Rattle.std.proofs.Common.{Ok, Err}
use Rattle.xmf_sheet.specs.Answer.{refusal_line, too_long, lines, answer_text}

-- `n` bytes at the start of a buffer, which are these
abbrev pub Starts : ℕ → List ℕ → List ℕ → Type 0
Starts n text w = IsPrefixLen n text × (take n text ≡ w)

-- ---- a line that was put at the start

pub put_first : {o o' w : List ℕ} {r : ℕ} → room.Counts o o' 0 w r → length w ≤ length o → length o < room.too_many → Starts r o' w
put_first p l m = let a = p.after in let x = starts p (omega arith) m in (x.1, x.2)

number_short : (n : ℕ) → length (number n) ≤ 21
unfolding number tabbed
number_short n = let h = few-digits n in omega arith

pub refusal_is : (n p : ℕ) → (0x52 ∷ []) ++ number n ++ number p ++ (0x0A ∷ []) ≡ refusal_line n p
unfolding refusal_line
refusal_is n p = refl

pub line-short : (n p : ℕ) → length (refusal_line n p) ≤ 44
unfolding refusal_line
line-short n p =
    let a = number_short n in let b = number_short p in let e = length-append (number n) (number p) in
    let f = length-append (number n ++ number p) (0x0A ∷ []) in
    omega arith

pub long-is : 0x74 ∷ 0x6F ∷ 0x6F ∷ 0x20 ∷ 0x6C ∷ 0x6F ∷ 0x6E ∷ 0x67 ∷ 0x0A ∷ [] ≡ too_long
unfolding too_long
long-is = refl

pub long-short : length too_long ≤ 44
unfolding too_long
long-short = omega arith

-- ---- a sheet that was written

-- an answer's number of bytes is at most `room`
abbrev Below : ℕ → Result ℕ → Type 0
Below room (good n) = n ≤ room
Below room (bad n p) = Unit {0}

fits : (room : ℕ) (s : List ℕ) → Below room (counted (fitting room (good s)))
unfolding counted fitting
fits room s = elim (dec_le (length s) room) [
  | yes l ↦ simp (le-leb (length s) room l) l
  | no n ↦ simp (lt-leb (length s) room (omega arith)) tt
]

below : (room : ℕ) (f : List ℕ) (o : Reading) → Below room (counted (ask o (write room f)))
unfolding counted ask write
below room f (rows h ns is) = fits room (sheet_of f h ns is)
below room f (refusal n p) = tt

-- what an answer says of the lines
abbrev Says : Result ℕ → Result (List ℕ) → Type 0
Says (good n) (good s) = n ≡ length s
Says (good n) (bad m q) = ⊥
Says (bad n p) (good s) = ⊥
Says (bad n p) (bad m q) = (n ≡ m) × (p ≡ q)

says-own : (x : Result (List ℕ)) → Says (counted x) x
unfolding counted
says-own (good s) = refl
says-own (bad n p) = (refl, refl)

sheet_kept : (n room : ℕ) (x : Result (List ℕ)) {text : List ℕ} → Says (good n) x → n ≤ room → length text ≡ room → text ≡ kept room x → Starts n text (lines x)
unfolding kept lines padded
sheet_kept n room (good s) {text} k l z e =
    (prefix_len_of_le n text (omega arith), ap (λ (v : List ℕ). take n v) e ∙ take_at s (replicate (room - length s) 0) n (sym k))
sheet_kept n room (bad m q) k l z e = absurd k

pub sheet_made : (room : ℕ) (f : List ℕ) (o : Reading) {text : List ℕ} {r : std.Result ℕ Refusal} {n : ℕ} → told r ≡ counted (ask o (write room f)) →
    length text ≡ room → text ≡ kept room (ask o (write room f)) → r ≡ Ok n → Starts n text (lines (ask o (write room f)))
sheet_made room f o {text} {r} {n} e z w k =
    let x : Result (List ℕ) = ask o (write room f) in let h : good n ≡ counted x = sym (ap told k) ∙ e in
    sheet_kept n room x (subst (λ (v : Result ℕ). Says v x) (sym h) (says-own x)) (subst (Below room) (sym h) (below room f o)) z w

refusal-kept : (n p : ℕ) (x : Result (List ℕ)) → Says (bad n p) x → refusal_line n p ≡ lines x
unfolding lines
refusal-kept n p (good s) k = absurd k
refusal-kept n p (bad m q) k = rw (k.0, k.1)

pub refusal-made : (x : Result (List ℕ)) {r : std.Result ℕ Refusal} {e : Refusal} → told r ≡ counted x → r ≡ Err e → refusal_line (number_of e.0) e.1 ≡ lines x
refusal-made x {r} {e} p k =
    let h : bad (number_of e.0) e.1 ≡ counted x = sym (ap told k) ∙ p in
    refusal-kept (number_of e.0) e.1 x (subst (λ (v : Result ℕ). Says v x) (sym h) (says-own x))

-- ---- the answer's text

pub answer-long : (f : List ℕ) → 65536 < length f → too_long ≡ answer_text f
unfolding answer_text
answer-long f l = simp (lt-ltb 65536 (length f) l)

pub answer-short : (f : List ℕ) {n i room : ℕ} → full_nodes ≡ n → full_items ≡ i → 65536 ≡ room → length f ≤ 65536 → lines
    (ask (read_file (limits n i) f) (write room f)) ≡ answer_text f
unfolding answer_text
answer-short f a b c l = simp (sym a, sym b, sym c, le-ltb 65536 (length f) l)
