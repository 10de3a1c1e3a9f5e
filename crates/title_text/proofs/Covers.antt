-- What was read stands there in no fewer bytes than in its shortest form; and where in no more, in that form. Numbers, and blocks with their lengths.
-- Assumes nothing.
use mathlib.Core.Path.{◌≡◌, sym, ap, ◌∙◌}
use mathlib.Core.List.{List, [], ◌∷◌, ◌++◌, append-nil}
use Prim.Native.Nat.{ℕ, zero, suc, ◌+◌, ◌-◌, ◌*◌, ◌/◌, ◌%◌, ◌^◌, ◌≤◌, ◌<◌}
use native.Mathlib.Nat.{pow-succ', mul_comm, div-div-eq-div-mul, lt-div-mul-add, one-le-pow}
use native.Mathlib.Decide.{dec_lt}
use native.Mathlib.Omega.{arith}
use lib.ListN.{length, get_or, take, drop, length-append, length-take, length-drop, get_or-append}
use lib.Seq.{get_or-append-add, get_or-drop, get_or-take, ext_get_or}
use Rattle.machine.specs.Machine.{ok, run}
use Rattle.cursor.specs.Rows.{Frame}
use Rattle.cursor.specs.Leaves.{number, block}
use Rattle.room.specs.Parts.{part, joined}
use Rattle.vlq.specs.Vlq.{in_bytes, least, vlq, sized}
use Rattle.cursor.proofs.Digits.{Digits, final, further, digits-were, begun}
use Rattle.cursor.proofs.Leaves.{number-inside}
use Rattle.vlq.proofs.Least.{least-up, vlq-length}
use Rattle.room.proofs.Lies.{Lies}
use Rattle.vlq.proofs.Sized.{sized-length}
use Rattle.cursor.proofs.Post.{post_step, post_place, post_check, post_ret}
use Rattle.cursor.proofs.Runs.{nothing-quiet, post_ran}
use Rattle.title_text.specs.Title.{Bytes}
use Rattle.title_text.proofs.Sizes.{number-least}

-- the bytes of f from `at` on are those of s
pub record Stands (f : List ℕ) (at : ℕ) (s : List ℕ) : Type 0 where
  pub byte : (k : ℕ) → k < length s → get_or f (at + k) 0 ≡ get_or s k 0

-- s has no more bytes than f from `at` up to q; and where it has no fewer, it is these
pub record Covers (f : List ℕ) (at : ℕ) (s : List ℕ) (q : ℕ) : Type 0 where
  pub short : at + length s ≤ q
  pub tight : Bytes f → q ≤ at + length s → Stands f at s

-- the number v was read from `at` up to q
pub record Number (f : List ℕ) (at v q : ℕ) : Type 0 where
  pub fits : v < 128 ^ (q - at)
  pub covers : Covers f at (vlq v) q

-- ---- one after the other

module _ {f : List ℕ} where
  stands-none : (at : ℕ) → Stands f at []
  stands-none at = record { byte = λ k l. absurd (omega arith) }

  stands-cons : {at b : ℕ} {s : List ℕ} → get_or f at 0 ≡ b → Stands f (at + 1) s → Stands f at (b ∷ s)
  stands-cons {at} {b} {s} e h = record { byte = by }
    where
      by : (k : ℕ) → k < suc (length s) → get_or f (at + k) 0 ≡ get_or (b ∷ s) k 0
      by zero l = let q : at + 0 ≡ at = omega arith in rw q e
      by (suc k) l = let q : at + suc k ≡ at + 1 + k = omega arith in rw q (h.byte k (omega arith))

  stands_on : {at p : ℕ} (s t : List ℕ) → p ≡ at + length s → Stands f at s → Stands f p t → Stands f at (s ++ t)
  stands_on {at} {p} s t e a b =
      let z = length-append s t in
      record {
        byte = λ k l. elim (dec_lt k (length s)) [
          | yes i ↦ a.byte k i ∙ sym (get_or-append s t 0 k i)
          | no i ↦
              let j : ℕ = k - length s in let m : k ≡ length s + j = omega arith in
              let n : at + k ≡ p + j = omega arith in
              rw n (b.byte j (omega arith) ∙ sym (get_or-append-add s t j 0) ∙ ap (λ i. get_or (s ++ t) i 0) (sym m))
        ];
      }

  pub covers-none : (at : ℕ) → Covers f at [] at
  covers-none at = record { short = omega arith; tight = λ b l. stands-none at }

  pub covers-on : {at p q : ℕ} {s t : List ℕ} → Covers f at s p → Covers f p t q → Covers f at (s ++ t) q
  covers-on {s = s} {t} a b =
      let z = length-append s t in let x = a.short in let y = b.short in
      record { short = omega arith; tight = λ bytes l. stands_on s t (omega arith) (a.tight bytes (omega arith)) (b.tight bytes (omega arith)) }

  pub covers-as : {at q : ℕ} {s t : List ℕ} → s ≡ t → Covers f at s q → Covers f at t q
  covers-as e h = rw e at h

  -- up to another place
  pub covers-to : {at q r : ℕ} {s : List ℕ} → q ≡ r → Covers f at s q → Covers f at s r
  covers-to e h = rw e at h

  pub covers-wider : {at q r : ℕ} {s : List ℕ} → q ≤ r → Covers f at s q → Covers f at s r
  covers-wider l h = let i = h.short in record { short = omega arith; tight = λ bytes m. h.tight bytes (omega arith) }

  -- what is the last of several
  pub covers-last : {at q : ℕ} {s : List ℕ} → Covers f at s q → Covers f at (joined (s ∷ [])) q
  covers-last {s = s} h = covers-as (sym (append-nil s)) h

  pub covers-lies : {at : ℕ} {s : List ℕ} → Lies f at s → Covers f at s (at + length s)
  covers-lies h = record { short = omega arith; tight = λ b l. record { byte = h.same } }

-- a part of the file
pub covers-part : (f : List ℕ) (at n : ℕ) → Covers f at (part f at n) (at + n)
covers-part f at n =
    let z = length-take n (drop at f) in
    record { short = omega arith; tight = λ b l. record { byte = λ k i. sym (get_or-take n (drop at f) k 0 (omega arith) ∙ get_or-drop at f k 0) } }

-- its first bytes
pub covers-first : (f : List ℕ) (n : ℕ) → Covers f 0 (take n f) n
covers-first f n = let e : 0 + n ≡ n = omega arith in covers-to e (covers-part f 0 n)

-- the rest of it
pub covers-rest : (f : List ℕ) (at : ℕ) → at ≤ length f → Covers f at (drop at f) (length f)
covers-rest f at l =
    let z = length-drop at f in
    record { short = omega arith; tight = λ b m. record { byte = λ k i. sym (get_or-drop at f k 0) } }

-- where a file covers s from its first byte to its last, and is no longer, it is s
pub covers-whole : {f s : List ℕ} → Covers f 0 s (length f) → Bytes f → length f ≤ length s → f ≡ s
covers-whole {f} {s} h bytes l =
    let i = h.short in
    ext_get_or 0 f s (omega arith) (λ k m. let e : 0 + k ≡ k = omega arith in rw e at ((h.tight bytes (omega arith)).byte k (omega arith)))

-- ---- a number

-- what its bytes gave, without the last of them
without : (n k : ℕ) → n / 128 ^ suc k ≡ n / 128 ^ k / 128
without n k = rw (pow-succ' 128 k, mul_comm 128 (128 ^ k)) (sym (div-div-eq-div-mul n (128 ^ k) 128))

ahead : {f : List ℕ} {left v at w q : ℕ} → Digits f left v at w q → at < q
ahead (final s) = omega arith
ahead (further s d) = omega (arith, ahead d)

-- k bytes were read: what came before them is what the number is without them
digits-top : {f : List ℕ} {left v at w q : ℕ} → Digits f left v at w q → (k : ℕ) → q ≡ at + k → w / 128 ^ k ≡ v
digits-top {f} (final {left} {v} {at} s) k e = let o : k ≡ 1 = omega arith in rw o (omega arith)
digits-top {f} (further {left} {v} {at} {w} {q} s d) zero e = absurd (omega (arith, ahead d))
digits-top {f} (further {left} {v} {at} {w} {q} s d) (suc k) e =
    let i : w / 128 ^ k ≡ v * 128 + get_or f at 0 % 128 = digits-top d k (omega arith) in
    rw (without w k) (omega arith)

-- and these are the number in k bytes
digits_same : {f : List ℕ} {left v at w q : ℕ} → Bytes f → Digits f left v at w q → (k : ℕ) → q ≡ at + k → Stands f at (in_bytes k w)
unfolding in_bytes
digits_same {f} bytes (final {left} {v} {at} s) zero e = absurd (omega arith)
digits_same {f} bytes (final {left} {v} {at} s) (suc zero) e = stands-cons {at = at} (omega arith) (stands-none (at + 1))
digits_same {f} bytes (final {left} {v} {at} s) (suc (suc k)) e = absurd (omega arith)
digits_same {f} bytes (further {left} {v} {at} {w} {q} s d) zero e = absurd (omega (arith, ahead d))
digits_same {f} bytes (further {left} {v} {at} {w} {q} s d) (suc zero) e = absurd (omega (arith, ahead d))
digits_same {f} bytes (further {left} {v} {at} {w} {q} s d) (suc (suc k)) e =
    let i : w / 128 ^ suc k ≡ v * 128 + get_or f at 0 % 128 = digits-top d (suc k) (omega arith) in
    let b = bytes at in
    stands-cons {at = at} (rw i (omega arith)) (digits_same bytes d (suc k) (omega arith))

module _ (κ : Frame) (past end : ℕ) (f : List ℕ) (at : ℕ) {v q : ℕ} where
  stood : run (number κ past end) f at ≡ ok v q → Digits f 4 0 at v q
  stood e = (digits-were κ past end at 4 0 at (sym ((begun f past end at).same κ) ∙ e)).0

  -- it fits the bytes that it has
  number_fits : run (number κ past end) f at ≡ ok v q → v < 128 ^ (q - at)
  number_fits e =
      let i = number-inside κ past end f at e in let k : ℕ = q - at in
      let z : v / 128 ^ k ≡ 0 = digits-top (stood e) k (omega arith) in
      let l : v < 0 * 128 ^ k + 128 ^ k = rw z at (lt-div-mul-add {a = v} (one-le-pow k 128 (omega arith))) in
      omega arith

  pub number-covers : run (number κ past end) f at ≡ ok v q → Covers f at (vlq v) q
  unfolding vlq
  number-covers e =
      let i = number-inside κ past end f at e in
      let m = number-least v (q - at) (omega arith) (number_fits e) in
      record { short = omega arith; tight = λ bytes l. digits_same bytes (stood e) (least (λ _. v)) (omega (arith, vlq-length v)) }

  pub number_is : run (number κ past end) f at ≡ ok v q → Number f at v q
  number_is e = record { fits = number_fits e; covers = number-covers e }

vlq-up : (m n : ℕ) → m ≤ n → length (vlq m) ≤ length (vlq n)
vlq-up m n l = omega (arith, vlq-length m, vlq-length n, least-up (λ _. m) (λ _. n) l)

-- ---- a block, behind its length

module _ (κ : Frame) (past end : ℕ) (f : List ℕ) (at : ℕ) {n q : ℕ} where
  pub block-covers : run (block κ past end) f at ≡ ok n q → Covers f at (vlq n) q
  unfolding block
  block-covers e = post_ran {Q = λ v r. Covers f at (vlq v) r}
      (post_place _ at (post_step nothing-quiet λ size r e₁. post_place _ r (post_check _ _ λ t. post_ret (number-covers κ past end f at e₁)))) e

  pub sized-covers : {s : List ℕ} → run (block κ past end) f at ≡ ok n q → Covers f q s (q + n) → Covers f at (sized s) (q + n)
  unfolding sized
  sized-covers {s} e h =
      let w = block-covers e in let a = w.short in let b = h.short in let c = sized-length s in
      let d = vlq-up (length s) n (omega arith) in
      record {
        short = omega arith;
        tight = λ bytes l.
            let i : n ≡ length s = omega arith in
            (covers-on (covers-as (ap vlq i) w) (covers-last h)).tight bytes (omega arith);
      }
