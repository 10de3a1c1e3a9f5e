-- A number that was read fits the bytes that it has, and stands there in them; and whatever is written in k bytes is a number that fits them.
-- Assumes nothing.
use mathlib.Core.Path.{◌≡◌, refl, sym, ◌∙◌}
use mathlib.Core.List.{List}
use Prim.Native.Nat.{ℕ, zero, suc, ◌+◌, ◌-◌, ◌*◌, ◌/◌, ◌%◌, ◌^◌, ◌≤◌, ◌<◌}
use native.Mathlib.Omega.{arith}
use native.Mathlib.Nat.{pow-succ', div-div-eq-div-mul, mul_comm, one-le-pow, lt-div-mul-add}
use lib.ListN.{length, get_or}
use lib.Seq.{ext_get_or}
use Rattle.machine.specs.Machine.{ok, run}
use Rattle.cursor.specs.Rows.{Frame}
use Rattle.cursor.specs.Leaves.{number}
use Rattle.vlq.specs.Vlq.{in_bytes}
use Rattle.cursor.proofs.Leaves.{number-inside}
use Rattle.cursor.proofs.Digits.{Digits, final, further, digits-were, begun}
use Rattle.room.proofs.Lies.{Lies, lies_head, lies_tail, lies_none, lies_cons}
use Rattle.vlq.proofs.Least.{in_bytes_length}

-- n without its last k + 1 digits is n without k of them, without one more
without : (n k : ℕ) → n / 128 ^ suc k ≡ n / 128 ^ k / 128
without n k = rw (pow-succ' 128 k, mul_comm 128 (128 ^ k)) (sym (div-div-eq-div-mul n (128 ^ k) 128))

none_above : (v k : ℕ) → v / 128 ^ k ≡ 0 → v < 128 ^ k
none_above v k e = let l : v < 0 * 128 ^ k + 128 ^ k = rw e at (lt-div-mul-add {a = v} (one-le-pow k 128 (omega arith))) in omega arith

ahead : {f : List ℕ} {left v at w q : ℕ} → Digits f left v at w q → at < q
ahead (final s) = omega arith
ahead (further s d) = omega (arith, ahead d)

-- k bytes gave w after v: w without them is v
digits-top : {f : List ℕ} {left v at w q : ℕ} → Digits f left v at w q → (k : ℕ) → q ≡ at + k → w / 128 ^ k ≡ v
digits-top (final {left} {v} {at} s) k e = let o : k ≡ 1 = omega arith in rw o (omega arith)
digits-top (further s d) zero e = absurd (omega (arith, ahead d))
digits-top {f} (further {left} {v} {at} {w} s d) (suc k) e =
    let i : w / 128 ^ k ≡ v * 128 + get_or f at 0 % 128 = digits-top d k (omega arith) in
    rw (without w k) (omega arith)

-- and they are w in k bytes
digits-lie : {f : List ℕ} {left v at w q : ℕ} → q ≤ length f → ((j : ℕ) → at ≤ j → j < q → get_or f j 0 < 256) → Digits f left v at w q →
    (k : ℕ) → q ≡ at + k → Lies f at (in_bytes k w)
unfolding in_bytes
digits-lie i small (final {left} {v} {at} s) zero e = absurd (omega arith)
digits-lie i small (final {left} {v} {at} s) (suc zero) e = lies_cons (omega arith) (omega arith) (lies_none (omega arith))
digits-lie i small (final {left} {v} {at} s) (suc (suc k)) e = absurd (omega arith)
digits-lie i small (further s d) zero e = absurd (omega (arith, ahead d))
digits-lie i small (further s d) (suc zero) e = absurd (omega (arith, ahead d))
digits-lie {f} i small (further {left} {v} {at} {w} {q} s d) (suc (suc k)) e =
    let t : w / 128 ^ suc k ≡ v * 128 + get_or f at 0 % 128 = digits-top d (suc k) (omega arith) in
    let b = small at (omega arith) (omega (arith, ahead d)) in
    lies_cons (rw t (omega arith)) (omega (arith, ahead d)) (digits-lie i (λ j lo hi. small j (omega arith) hi) d (suc k) (omega arith))

module _ (κ : Frame) (past end : ℕ) (f : List ℕ) (at : ℕ) {v q : ℕ} (e : run (number κ past end) f at ≡ ok v q) where
  stood : Digits f 4 0 at v q
  stood = (digits-were κ past end at 4 0 at (sym ((begun f past end at).same κ) ∙ e)).0

  -- it fits the bytes that it has
  pub number_fits : v < 128 ^ (q - at)
  number_fits = let i = number-inside κ past end f at e in none_above v (q - at) (digits-top stood (q - at) (omega arith))

  -- and stands there in them
  pub number-lies : end ≤ length f → ((k : ℕ) → at ≤ k → k < q → get_or f k 0 < 256) → Lies f at (in_bytes (q - at) v)
  number-lies inside small = let i = number-inside κ past end f at e in digits-lie (omega arith) small stood (q - at) (omega arith)

-- ---- whatever is written in k bytes

small_bytes : (k n j : ℕ) → get_or (in_bytes k n) j 0 < 256
unfolding in_bytes
small_bytes zero n j = omega arith
small_bytes (suc zero) n zero = omega arith
small_bytes (suc (suc k)) n zero = omega arith
small_bytes (suc k) n (suc j) = small_bytes k n j

digits-some : {f : List ℕ} (n k left u at : ℕ) → Lies f at (in_bytes (suc k) n) → k < left → (v : ℕ) × Digits f left u at v (at + suc k)
unfolding in_bytes
digits-some n k zero u at h l = absurd (omega arith)
digits-some n zero (suc left) u at h l = let b = lies_head h in (_, final {at = at} (omega arith))
digits-some {f} n (suc k) (suc left) u at h l =
    let b = lies_head h in
    let q : at + 1 + suc k ≡ at + suc (suc k) = omega arith in
    let (v, d) = digits-some n k left (u * 128 + get_or f at 0 % 128) (at + 1) (lies_tail h) (omega arith) in
    (v, further {at = at} (omega arith) (rw q at d))

lies_itself : (s : List ℕ) → Lies s 0 s
lies_itself s = record { inside = omega arith; same = λ k l. let e : 0 + k ≡ k = omega arith in rw e refl }

-- is a number that fits them
pub fitted : (k n : ℕ) → 1 ≤ k → k ≤ 4 → (v : ℕ) × (v < 128 ^ k) × (in_bytes k n ≡ in_bytes k v)
fitted zero n l m = absurd (omega arith)
fitted (suc k) n l m =
    let s = in_bytes (suc k) n in let a = in_bytes_length (suc k) n in
    let (v, d) = digits-some n k 4 0 0 (lies_itself s) (omega arith) in
    let b = in_bytes_length (suc k) v in
    let h = digits-lie (omega arith) (λ j lo hi. small_bytes (suc k) n j) d (suc k) refl in (
      v,
      none_above v (suc k) (digits-top d (suc k) refl),
      ext_get_or 0 s (in_bytes (suc k) v) (omega arith)
          (λ j i. let o : 0 + j ≡ j = omega arith in rw o at (h.same j (omega arith))),
    )
