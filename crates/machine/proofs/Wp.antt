-- What holds of each accepted run of a program, whatever the bytes, and of what it passes: a rule for each form, proved once.
-- Assumes nothing.
use mathlib.Core.Path.{◌≡◌, refl, subst}
use mathlib.Core.Bool.{Bool, true, false}
use mathlib.Core.List.{List, [], ◌∷◌, ◌++◌}
use Prim.Native.Nat.{ℕ, zero, suc, ◌+◌, ◌-◌, ◌≤◌, ◌<◌}
use native.Mathlib.Omega.{arith}
use borrow.Author.Tests.{ltb-true, ltb-false}
use lib.Dec.{ltb}
use lib.ListN.{get_or}
use Rattle.machine.specs.Machine.{Prog, ret, refuse, here, byte, pass, Out, ok, refused, Event, seen, passed, run, trace, ◌>>=◌, ◌>>◌, when◌then◌else◌, place, skip, check, turns, many, times}

-- what has to be shown of bytes that are passed, and what may be used of them: what is passed, its place and size
pub record Rule (W : Type 0) : Type 1 where
  pub asks : W → ℕ → ℕ → Type 0
  pub gets : W → ℕ → ℕ → Type 0

-- C holds of each thing that is passed
abbrev pub All : {K W : Type 0} → (W → ℕ → ℕ → Type 0) → List (Event K W) → Type 0
All C [] = Unit {0}
All C (seen κ p ∷ es) = All C es
All C (passed w p n ∷ es) = C w p n × All C es

pub all-on : {K W : Type 0} (C : W → ℕ → ℕ → Type 0) (es fs : List (Event K W)) → All C es → All C fs → All C (es ++ fs)
all-on C [] fs a b = b
all-on C (seen κ p ∷ es) fs a b = all-on C es fs a b
all-on C (passed w p n ∷ es) fs a b = (a.0, all-on C es fs a.1 b)

pub all-by : {K W : Type 0} (C D : W → ℕ → ℕ → Type 0) (es : List (Event K W)) → ((w : W) (p n : ℕ) → C w p n → D w p n) → All C es → All D es
all-by C D [] h a = tt
all-by C D (seen κ p ∷ es) h a = all-by C D es h a
all-by C D (passed w p n ∷ es) h a = (h w p n a.0, all-by C D es h a.1)

abbrev WpOf : {K W A : Type 0} → Rule W → Prog K W A → (A → ℕ → Type 0) → ℕ → Type 0
WpOf U (ret a) Q at = Q a at
WpOf U (refuse n p) Q at = Unit {0}
WpOf U (here k) Q at = WpOf U (k at) Q at
WpOf U (byte κ k) Q at = (b : ℕ) → WpOf U (k b) Q (at + 1)
WpOf U (pass w n m) Q at = U.asks w at n × (U.gets w at n → WpOf U m Q (at + n))

-- Each accepted run of m from `at` ends with an answer and a cursor of which Q holds, and each run passes what U asks, if what U gives holds.
-- A record, so that antt can read U, m, Q and `at` off its type: every rule below leaves them implicit.
pub record Wp {K W A : Type 0} (U : Rule W) (m : Prog K W A) (Q : A → ℕ → Type 0) (at : ℕ) : Type 0 where
  wp : WpOf U m Q at

abbrev pub Holds : {A : Type 0} → (A → ℕ → Type 0) → Out A → Type 0
Holds Q (ok a p) = Q a p
Holds Q (refused n p) = Unit {0}

-- a rule that gives nothing: what it gives holds anyway
abbrev pub Free : {W : Type 0} → Rule W → Type 0
Free {W} U = (w : W) (p n : ℕ) → U.gets w p n

pub given : {K W : Type 0} (U : Rule W) → Free U → (es : List (Event K W)) → All U.gets es
given U h [] = tt
given U h (seen κ p ∷ es) = given U h es
given U h (passed w p n ∷ es) = (h w p n, given U h es)

module _ {K W A : Type 0} where
  holds : (U : Rule W) (m : Prog K W A) (Q : A → ℕ → Type 0) (f : List ℕ) (at : ℕ) → WpOf U m Q at → All U.gets (trace m f at)
      → Holds Q (run m f at) × All U.asks (trace m f at)
  unfolding run trace
  holds U (ret a) Q f at w g = (w, tt)
  holds U (refuse n p) Q f at w g = (tt, tt)
  holds U (here k) Q f at w g = holds U (k at) Q f at w g
  holds U (byte κ k) Q f at w g = holds U (k (get_or f at 0)) Q f (at + 1) (w (get_or f at 0)) g
  holds U (pass v n m) Q f at w g = let (x, y) = holds U m Q f (at + n) (w.1 g.0) g.1 in (x, (w.0, y))

  -- of each run, accepted or not: what U asks, where what it gives holds
  pub asked : {U : Rule W} {m : Prog K W A} {Q : A → ℕ → Type 0} {at : ℕ} (f : List ℕ) → Wp U m Q at → All U.gets (trace m f at) → All U.asks (trace m f at)
  asked {U} {m} {Q} {at} f w g = (holds U m Q f at w.wp g).1

  pub at_end : {U : Rule W} → Free U → {m : Prog K W A} {Q : A → ℕ → Type 0} {at : ℕ} (f : List ℕ) {a : A} {p : ℕ} → Wp U m Q at → run m f at ≡ ok a p → Q a p
  at_end {U} h {m} {Q} {at} f w e = subst (Holds Q) e (holds U m Q f at w.wp (given U h (trace m f at))).0

  chained : {B : Type 0} (U : Rule W) (m : Prog K W A) (g : A → Prog K W B) (Q : A → ℕ → Type 0) (R : B → ℕ → Type 0) (at : ℕ)
      → WpOf U m Q at → ((a : A) (p : ℕ) → Q a p → WpOf U (g a) R p) → WpOf U (m >>= g) R at
  unfolding ◌>>=◌
  chained U (ret a) g Q R at w h = h a at w
  chained U (refuse n p) g Q R at w h = tt
  chained U (here k) g Q R at w h = chained U (k at) g Q R at w h
  chained U (byte κ k) g Q R at w h = λ b. chained U (k b) g Q R (at + 1) (w b) h
  chained U (pass v n m) g Q R at w h = (w.0, λ x. chained U m g Q R (at + n) (w.1 x) h)

  weakened : (U : Rule W) (m : Prog K W A) (Q R : A → ℕ → Type 0) (at : ℕ) → WpOf U m Q at → ((a : A) (p : ℕ) → Q a p → R a p) → WpOf U m R at
  weakened U (ret a) Q R at w h = h a at w
  weakened U (refuse n p) Q R at w h = tt
  weakened U (here k) Q R at w h = weakened U (k at) Q R at w h
  weakened U (byte κ k) Q R at w h = λ b. weakened U (k b) Q R (at + 1) (w b) h
  weakened U (pass v n m) Q R at w h = (w.0, λ x. weakened U m Q R (at + n) (w.1 x) h)

  -- ---- the rules

  pub wp_after : {U : Rule W} {B : Type 0} {m : Prog K W A} {g : A → Prog K W B} {Q : A → ℕ → Type 0} {R : B → ℕ → Type 0} {at : ℕ}
      → Wp U m Q at → ((a : A) (p : ℕ) → Q a p → Wp U (g a) R p) → Wp U (m >>= g) R at
  wp_after {U} {m = m} {g} {Q} {R} {at} w h = record { wp = chained U m g Q R at w.wp (λ a p q. (h a p q).wp) }

  pub wp_then : {U : Rule W} {B : Type 0} {m : Prog K W A} {n : Prog K W B} {Q : A → ℕ → Type 0} {R : B → ℕ → Type 0} {at : ℕ}
      → Wp U m Q at → ((a : A) (p : ℕ) → Q a p → Wp U n R p) → Wp U (m >> n) R at
  unfolding ◌>>◌
  wp_then w h = wp_after w h

  pub wp_weaken : {U : Rule W} {m : Prog K W A} {Q R : A → ℕ → Type 0} {at : ℕ} → Wp U m Q at → ((a : A) (p : ℕ) → Q a p → R a p) → Wp U m R at
  wp_weaken {U} {m} {Q} {R} {at} w h = record { wp = weakened U m Q R at w.wp h }

  pub wp_ret : {U : Rule W} {a : A} {R : A → ℕ → Type 0} {at : ℕ} → R a at → Wp {K = K} {W = W} U (ret a) R at
  wp_ret r = record { wp = r }

  pub wp_refuse : {U : Rule W} {n p : ℕ} {R : A → ℕ → Type 0} {at : ℕ} → Wp {K = K} {W = W} U (refuse n p) R at
  wp_refuse = record { wp = tt }

  pub wp_here : {U : Rule W} {k : ℕ → Prog K W A} {R : A → ℕ → Type 0} {at : ℕ} → Wp U (k at) R at → Wp U (here k) R at
  wp_here w = record { wp = w.wp }

  pub wp_byte : {U : Rule W} {κ : K} {k : ℕ → Prog K W A} {R : A → ℕ → Type 0} {at : ℕ} → ((b : ℕ) → Wp U (k b) R (at + 1)) → Wp U (byte κ k) R at
  wp_byte w = record { wp = λ b. (w b).wp }

  pub wp_if : {U : Rule W} {b : Bool} {m n : Prog K W A} {R : A → ℕ → Type 0} {at : ℕ}
      → (b ≡ true → Wp U m R at) → (b ≡ false → Wp U n R at) → Wp U (when b then m else n) R at
  unfolding when◌then◌else◌
  wp_if {b = true} h k = h refl
  wp_if {b = false} h k = k refl

  pub wp_check : {U : Rule W} {b : Bool} (n p : ℕ) {m : Prog K W A} {R : A → ℕ → Type 0} {at : ℕ}
      → (b ≡ true → Wp U m R at) → Wp U (check b n p >> m) R at
  unfolding ◌>>=◌ ◌>>◌ check
  wp_check {b = true} n p h = record { wp = (h refl).wp }
  wp_check {b = false} n p h = record { wp = tt }

  pub wp_place : {U : Rule W} (g : ℕ → Prog K W A) {R : A → ℕ → Type 0} (at : ℕ) → Wp U (g at) R at → Wp U (place >>= g) R at
  unfolding ◌>>=◌ place
  wp_place g at h = record { wp = h.wp }

  pub wp_skip : {U : Rule W} (w : W) (n : ℕ) {m : Prog K W A} {R : A → ℕ → Type 0} {at : ℕ} → U.asks w at n → (U.gets w at n → Wp U m R (at + n)) → Wp U (skip w n >> m) R at
  unfolding ◌>>=◌ ◌>>◌ skip
  wp_skip w n c h = record { wp = (c, λ x. (h x).wp) }

  -- where each turn moves on, stays in the part, and keeps I, the turns fill the part and keep I
  wp_turns : {U : Rule W} (I : A → Type 0) (k : ℕ) {end : ℕ} {body : A → Prog K W A} (s : A) (at : ℕ)
      → ((t : A) (p : ℕ) → p < end → I t → Wp U (body t) (λ t' q. I t' × (p < q) × (q ≤ end)) p)
      → I s → end ≤ at + k → at ≤ end → Wp U (turns k end body s) (λ t p. I t × (p ≡ end)) at
  unfolding turns
  wp_turns I zero s at step i h l = wp_ret (i, omega arith)
  wp_turns I (suc k) {end} s at step i h l =
      wp_here
      (wp_if
      (λ t. wp_after (step s at (ltb-true at end t) i) (λ r p q. wp_turns I k r p step q.0 (omega arith) q.2))
      (λ t. wp_ret (i, omega (arith, ltb-false at end t))))

  pub wp_many : {U : Rule W} (I : A → Type 0) {end : ℕ} {body : A → Prog K W A} (s : A) {at : ℕ}
      → ((t : A) (p : ℕ) → p < end → I t → Wp U (body t) (λ t' q. I t' × (p < q) × (q ≤ end)) p)
      → I s → at ≤ end → Wp U (many end body s) (λ t p. I t × (p ≡ end)) at
  unfolding many
  wp_many I {end = end} s {at} step i l = wp_here (wp_turns I (end - at) s at step i (omega arith) l)

  -- where no turn goes back or leaves the part, and each keeps I, none of their number does, and I is kept
  pub wp_times : {U : Rule W} (I : A → Type 0) (n : ℕ) {end : ℕ} {body : A → Prog K W A} (s : A) {at : ℕ}
      → ((t : A) (p : ℕ) → p ≤ end → I t → Wp U (body t) (λ t' q. I t' × (p ≤ q) × (q ≤ end)) p)
      → I s → at ≤ end → Wp U (times n body s) (λ t q. I t × (at ≤ q) × (q ≤ end)) at
  unfolding times
  wp_times I zero s step i l = wp_ret (i, omega arith, l)
  wp_times I (suc n) s {at} step i l = wp_after (step s at l i) (λ r p q. wp_weaken (wp_times I n r step q.0 q.2) (λ t v w. (w.0, omega arith, w.2)))

-- a check with nothing after it
pub wp_checked : {K W : Type 0} {U : Rule W} {b : Bool} (n p : ℕ) {R : Unit {0} → ℕ → Type 0} {at : ℕ} → (b ≡ true → R tt at) → Wp {K = K} U (check b n p) R at
unfolding check
wp_checked {b = true} n p h = wp_ret (h refl)
wp_checked {b = false} n p h = wp_refuse
