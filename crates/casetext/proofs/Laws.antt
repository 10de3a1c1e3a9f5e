-- Laws of the definitions that the contracts cite. Assumes nothing.
use mathlib.Core.List.{List, [], ◌∷◌, ◌++◌}
use mathlib.Core.Path.{◌≡◌, refl, sym, ap, ap₂, ◌∙◌, subst}
use Prim.Native.Nat.{ℕ, zero, suc, ◌+◌, ◌-◌, ◌*◌, ◌≤◌, ◌<◌, min}
use native.Mathlib.Numerals.{add-one}
use native.Mathlib.Omega.{arith}
use native.Mathlib.Decide.{dec_lt}
use lib.ListN.{length, take, drop, get_or, set, length-take, length-drop}
use lib.Seq.{sets, length-sets, take-suc, take_all, length-take-le, drop-cons, get_or-take, get_or-drop}
use Rattle.casetext.specs.Text.{FirstMark, Ends, Puts, digit_of, value_from}

-- a place within the buffer and not before `at` is an end
pub ends : (out : List ℕ) (at r : ℕ) → r ≤ length out → min at (length out) ≤ r → Ends out at r
ends out at r w a = record { within = w; counted = sym (length-take-le r out w); after = a }

-- a store past the end leaves the list as it is
pub set_past : (l : List ℕ) (i a : ℕ) → length l ≤ i → l ≡ set l i a
set_past [] i a h = refl
set_past (x ∷ l) zero a h = absurd (omega arith)
set_past (x ∷ l) (suc i) a h = ap (λ v. x ∷ v) (set_past l i a (omega arith))

-- one more store behind others
sets_last : (l : List ℕ) (i : ℕ) (vs : List ℕ) (a : ℕ) → sets l i (vs ++ (a ∷ [])) ≡ set (sets l i vs) (i + length vs) a
sets_last l i [] a = let e : i + 0 ≡ i = omega arith in rw e
sets_last l i (v ∷ vs) a = let e : i + suc (length vs) ≡ suc i + length vs = omega arith in rw e (sets_last (set l i v) (suc i) vs a)

-- no byte is put yet
pub put-none : (l bytes : List ℕ) (at r : ℕ) → r ≡ min at (length l) → Puts l l at (take 0 bytes) r
put-none l bytes at r e = record { wrote = refl; fits = λ h. omega arith; over = λ h. omega arith }

-- one more is
pub put-more : (l : List ℕ) (at : ℕ) (bytes : List ℕ) (i : ℕ) {out out' : List ℕ} {end r : ℕ} → i < length bytes → end ≤ length l → Puts l
    out at (take i bytes) end → Puts out out' end (get_or bytes i 0 ∷ []) r
    → Puts l out' at (take (i + 1) bytes) r
put-more l at bytes i {out} {out'} {end} {r} h q a b =
    let n : length (take i bytes) ≡ i = length-take-le i bytes (omega arith) in
    let m : length (take (i + 1) bytes) ≡ i + 1 = length-take-le (i + 1) bytes (omega arith) in
    let long : length out ≡ length l = ap length a.wrote ∙ length-sets l at (take i bytes) in
    let goal : sets l at (take (i + 1) bytes) ≡ set out (at + i) (get_or bytes i 0) =
    ap (sets l at) (ap (λ k. take k bytes) (add-one i) ∙ take-suc bytes i 0 h) ∙ sets_last l at (take i bytes) (get_or bytes i 0)
    ∙ ap₂ (λ (v : List ℕ) k. set v k (get_or bytes i 0)) (sym a.wrote) (ap (λ k. at + k) n) in
    elim (dec_lt (at + i) (length l)) [
      | yes y ↦
          let z : end ≡ at + i = a.fits (omega arith) ∙ ap (λ k. at + k) n in
          let v : r ≡ end + 1 = b.fits (omega arith) in
          record { wrote = b.wrote ∙ ap (λ k. set out k (get_or bytes i 0)) z ∙ sym goal; fits = λ u. omega arith; over = λ u. omega arith }
      | no y ↦
          let z : end ≡ length l = a.over (omega arith) in let v : r ≡ length out = b.over (omega arith) in
          record {
            wrote = b.wrote ∙ sym (set_past out end (get_or bytes i 0) (omega arith)) ∙ set_past out (at + i) (get_or bytes i 0) (omega arith) ∙ sym goal;
            fits = λ u. omega arith;
            over = λ u. omega arith;
          }
    ]

-- all are
pub put_all : (l : List ℕ) (at : ℕ) (bytes : List ℕ) (i : ℕ) {out : List ℕ} {r : ℕ} → length bytes ≤ i → Puts l out at (take i bytes) r → Puts l out at bytes r
put_all l at bytes i {out} {r} h a = subst (λ v. Puts l out at v r) (take_all i bytes h) a

-- one more digit of a number
pub value-more : (ds : List ℕ) (v i d w : ℕ) → i < length ds → value_from 0 ds ≡ value_from v (drop i ds) → d ≡ digit_of (get_or ds i 0) → w ≡ d
    → value_from 0 ds ≡ value_from (v * 10 + w) (drop (i + 1) ds)
value-more ds v i d w h e f g =
    let next : value_from v (drop i ds) ≡ value_from (v * 10 + digit_of (get_or ds i 0)) (drop (i + 1) ds) = rw (add-one, drop-cons ds i 0) in
    e ∙ next ∙ ap (λ (x : ℕ). value_from (v * 10 + x) (drop (i + 1) ds)) (sym (g ∙ f))

-- more digits make no smaller number
value-least : (v : ℕ) (ds : List ℕ) → v ≤ value_from v ds
value-least v [] = omega arith
value-least v (d ∷ ds) = let e = value-least (v * 10 + digit_of d) ds in omega arith

pub value-over : (ds : List ℕ) (v i : ℕ) → i < length ds → value_from 0 ds ≡ value_from v (drop i ds) → v * 10 + digit_of (get_or ds i 0) ≤ value_from 0 ds
value-over ds v i h e =
    let next = value-more ds v i (digit_of (get_or ds i 0)) (digit_of (get_or ds i 0)) h e refl refl in
    let l = value-least (v * 10 + digit_of (get_or ds i 0)) (drop (i + 1) ds) in omega arith

-- how long a part is, and what stands in it
module _ (l : List ℕ) (a e : ℕ) (start : a ≤ e) (end : e ≤ length l) where
  pub part_length : length (take (e - a) (drop a l)) ≡ e - a
  part_length = simp (length-take, length-drop) (omega arith)

  pub part_at : (k : ℕ) → k < e - a → get_or (take (e - a) (drop a l)) k 0 ≡ get_or l (a + k) 0
  part_at k h = get_or-take (e - a) (drop a l) k 0 h ∙ get_or-drop a l k 0

-- the part from `from` to the next mark is within the text and has no mark
pub part-within : (l : List ℕ) (mark from end : ℕ) → from ≤ length l → FirstMark l from mark end → length (take (end - from) (drop from l)) ≤ length l
part-within l mark from end h m = simp (length-take, length-drop) (omega arith)

pub part-unmarked : (l : List ℕ) (mark from end : ℕ) → from ≤ length l → FirstMark l from mark end
    → (k : ℕ) → k < length (take (end - from) (drop from l)) → get_or (take (end - from) (drop from l)) k 0 ≡ mark → ⊥
part-unmarked l mark from end h m k g q =
    let s : from ≤ end = omega (arith, m.after) in
    let j : k < end - from = omega (arith, part_length l from end s m.within) in
    m.before (from + k) (omega arith) (omega arith) (sym (part_at l from end s m.within k j) ∙ q)
