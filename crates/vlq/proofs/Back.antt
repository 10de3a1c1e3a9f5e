-- What was written is read back, wherever it stands: numbers, blocks, manufacturers, GUIDs.
-- Assumes nothing.
use mathlib.Core.Path.{◌≡◌, refl, sym, ap, ◌∙◌, subst}
use mathlib.Core.List.{List, [], ◌∷◌}
use Prim.Native.Nat.{ℕ, zero, suc, ◌+◌, ◌*◌, ◌/◌, ◌%◌, ◌^◌, ◌≤◌, ◌<◌}
use native.Mathlib.Omega.{arith}
use native.Mathlib.Nat.{pow-succ', div-div-eq-div-mul, div-eq_of_lt, mul_comm}
use native.Mathlib.Decide.{dec_le, dec_lt}
use lib.ListN.{length, get_or}
use Rattle.machine.specs.Machine.{Out, ok, refused, run}
use Rattle.cursor.specs.Rows.{Frame}
use Rattle.cursor.specs.Leaves.{digits, number, block, manufacturer, guid}
use Rattle.vlq.specs.Vlq.{in_bytes, least, vlq}
use Rattle.cursor.proofs.Digits.{Digits, final, further, digits-read, digits-were, begun, dropped, guid-is}
use Rattle.machine.proofs.Laws.{never}
use Rattle.cursor.proofs.Leaves.{block-all, manufacturer-none, manufacturer-one, manufacturer-cut, manufacturer-three}
use Rattle.vlq.proofs.Least.{least-in, least_fits, in_bytes_length}
use Rattle.room.proofs.Lies.{Lies, lies_none, lies_cons, lies_head, lies_tail}

-- one byte further
one_on : (n k : ℕ) → n / 128 ^ suc k * 128 + n / 128 ^ k % 128 ≡ n / 128 ^ k
one_on n k =
    let e : n / 128 ^ suc k ≡ n / 128 ^ k / 128 = rw (pow-succ' 128 k, mul_comm 128 (128 ^ k)) (sym (div-div-eq-div-mul n (128 ^ k) 128)) in
    rw e (omega arith)

-- the last k + 1 bytes of n, where the earlier ones gave the rest
digits_in : {g : List ℕ} (n k left at : ℕ) → Lies g at (in_bytes (suc k) n) → k < left → Digits g left (n / 128 ^ suc k) at n (at + suc k)
unfolding in_bytes
digits_in n k zero at h l = absurd (omega arith)
digits_in {g} n zero (suc left) at h l =
    let b = lies_head h in
    let e : n / 128 ^ 1 * 128 + get_or g at 0 ≡ n = omega (arith, one_on n 0) in
    subst (λ w. Digits g (suc left) (n / 128 ^ 1) at w (at + 1)) e (final {at = at} (omega arith))
digits_in {g} n (suc k) (suc left) at h l =
    let b = lies_head h in
    let e : n / 128 ^ suc (suc k) * 128 + get_or g at 0 % 128 ≡ n / 128 ^ suc k = omega (arith, one_on n (suc k)) in
    let q : at + 1 + suc k ≡ at + suc (suc k) = omega arith in
    further {at = at} (omega arith) (rw (← e, q) at (digits_in n k left (at + 1) (lies_tail h) (omega arith)))

-- n in k bytes is read back
pub number_in : (κ : Frame) (past end : ℕ) {g : List ℕ} {at : ℕ} (n k : ℕ) → Lies g at (in_bytes k n) → 1 ≤ k → k ≤ 4 → n < 128 ^ k → at + k
    ≤ end → run (number κ past end) g at ≡ ok n (at + k)
number_in κ past end n zero h l m b i = absurd (omega arith)
number_in κ past end {g} {at} n (suc k) h l m b i =
    let z : n / 128 ^ suc k ≡ 0 = div-eq_of_lt b in
    (begun g past end at).same κ ∙ digits-read κ past end at (rw z at (digits_in n k 4 at h (omega arith))) i

-- n in its shortest form is read back
pub number-back : (κ : Frame) (past end : ℕ) {g : List ℕ} {at : ℕ} (n : ℕ) → Lies g at (vlq n) → n < 2 ^ 28 → at + length (vlq n) ≤ end →
    run (number κ past end) g at ≡ ok n (at + length (vlq n))
unfolding vlq
number-back κ past end {g} {at} n h l i =
    let k : ℕ = least (λ _. n) in let r = least-in (λ _. n) in
    let e : length (in_bytes k n) ≡ k = in_bytes_length k n in
    rw e (number_in κ past end n k h r.0 r.1 (least_fits (λ _. n) l) (omega arith))

-- the length of a block that fits
pub block_back : (κ : Frame) (past end : ℕ) {g : List ℕ} {at : ℕ} (n : ℕ) → Lies g at (vlq n) → n < 2 ^ 28 → at + length (vlq n) + n ≤ end →
    run (block κ past end) g at ≡ ok n (at + length (vlq n))
block_back κ past end {g} {at} n h l i = sym (block-all κ past end g at (number-back κ past end n h l (omega arith)) i)

-- ---- manufacturers and GUIDs: which bytes they are, and that these are read back

-- the bytes of a GUID that has at most this number of them
pub data Guid : ℕ → List ℕ → Type 0 where
  last : {left b : ℕ} → b < 128 → Guid (suc left) (b ∷ [])
  more : {left b : ℕ} {s : List ℕ} → 128 ≤ b → Guid left s → Guid (suc left) (b ∷ s)

-- one byte, or three of which the first is 0
pub data Maker : List ℕ → Type 0 where
  one : {b : ℕ} → ((b ≡ 0) → ⊥) → Maker (b ∷ [])
  three : {c d : ℕ} → Maker (0 ∷ c ∷ d ∷ [])

-- they stand as a number does, of some value
guid-in : {g : List ℕ} {left : ℕ} {s : List ℕ} → Guid left s → (v at : ℕ) → Lies g at s → (w : ℕ) × Digits g left v at w (at + length s)
guid-in (last l) v at h = let e = lies_head h in (_, final {at = at} (omega arith))
guid-in {g} (more {s = s} l r) v at h =
    let e = lies_head h in
    let q : at + 1 + length s ≡ at + suc (length s) = omega arith in
    let (w, d) = guid-in r (v * 128 + get_or g at 0 % 128) (at + 1) (lies_tail h) in
    (w, further {at = at} (omega arith) (rw q at d))

module _ (κ : Frame) (end : ℕ) (g : List ℕ) where
  pub guid-back : {s : List ℕ} → Guid 19 s → (at : ℕ) → Lies g at s → at + length s ≤ end → run (guid κ end) g at ≡ ok tt (at + length s)
  guid-back r at h i = guid-is κ g end at ∙ ap dropped (digits-read κ 3 end at (guid-in r 0 at h).1 i)

  pub maker_back : {s : List ℕ} → Maker s → (at : ℕ) → Lies g at s → at + length s ≤ end → run (manufacturer κ end) g at ≡ ok tt (at + length s)
  maker_back (one n) at h i = sym (manufacturer-one κ end g at (omega arith) (sym (lies_head h)) n)
  maker_back three at h i = sym (manufacturer-three κ end g at (omega arith) (sym (lies_head h)) refl (omega arith))

-- bytes of which Is holds stand in f from `at` up to q
pub record Stood (Is : List ℕ → Type 0) (f : List ℕ) (at q : ℕ) : Type 0 where
  pub bytes : List ℕ
  pub is : Is bytes
  pub lies : Lies f at bytes
  pub ends : q ≡ at + length bytes

place_of : {A : Type 0} {a b : A} {p q : ℕ} → ok a p ≡ ok b q → p ≡ q
place_of e = cc

lies_one : (f : List ℕ) (at : ℕ) → at < length f → Lies f at (get_or f at 0 ∷ [])
lies_one f at l = lies_cons refl l (lies_none (omega arith))

guid-stood : {f : List ℕ} {left v at w q : ℕ} → Digits f left v at w q → q ≤ length f → Stood (Guid left) f at q
guid-stood {f} (final {at = at} s) l = record { bytes = get_or f at 0 ∷ []; is = last s; lies = lies_one f at (omega arith); ends = refl }
guid-stood {f} (further {at = at} s d) l =
    let r = guid-stood d l in let i = r.ends in
    record { bytes = get_or f at 0 ∷ r.bytes; is = more s r.is; lies = lies_cons refl (omega arith) r.lies; ends = omega arith }

module _ (κ : Frame) (end : ℕ) (f : List ℕ) (all : end ≤ length f) where
  -- what was read as a GUID are its bytes
  pub guid-was : (at : ℕ) {q : ℕ} → run (guid κ end) f at ≡ ok tt q → Stood (Guid 19) f at q
  guid-was at {q} e = by (run (digits κ 3 end at 19 0) f at) refl (sym (guid-is κ f end at) ∙ e)
    where
      by : (o : Out ℕ) → run (digits κ 3 end at 19 0) f at ≡ o → dropped o ≡ ok tt q → Stood (Guid 19) f at q
      by (ok w r) x y = let (d, l) = digits-were κ 3 end at 19 0 at x in let z : r ≡ q = place_of y in rw (← z) (guid-stood d (omega arith))
      by (refused n r) x y = never y

  pub maker_was : (at : ℕ) {q : ℕ} → run (manufacturer κ end) f at ≡ ok tt q → Stood Maker f at q
  maker_was at e = elim (dec_lt at end) [
    | no n ↦ never (manufacturer-none κ end f at (omega arith) ∙ e)
    | yes i ↦ elim (dec_le (get_or f at 0) 0) [
      | no z ↦ record {
        bytes = get_or f at 0 ∷ [];
        is = one (λ (k : get_or f at 0 ≡ 0). omega arith);
        lies = lies_one f at (omega arith);
        ends = sym
            (place_of (manufacturer-one κ end f at i refl (λ (k : get_or f at 0 ≡ 0). omega arith) ∙ e));
      }
      | yes z ↦ elim (dec_lt end (at + 3)) [
        | yes l ↦ never (manufacturer-cut κ end f at i refl (omega arith) l ∙ e)
        | no l ↦ record {
          bytes = 0 ∷ get_or f (at + 1) 0 ∷ get_or f (at + 1 + 1) 0 ∷ [];
          is = three;
          lies = lies_cons (omega arith) (omega arith) (lies_cons refl (omega arith) (lies_one f (at + 1 + 1) (omega arith)));
          ends = sym (place_of (manufacturer-three κ end f at i refl (omega arith) (omega arith) ∙ e));
        }
      ]
    ]
  ]
