-- Programs that stay in the file: from a place of it, or from its end, each run ends at such a place or is refused at one. A rule for each form, proved once; and the leaves.
-- Assumes nothing.
use mathlib.Core.Path.{◌≡◌, refl, sym, subst}
use mathlib.Core.Bool.{Bool, true, false}
use mathlib.Core.List.{List}
use Prim.Native.Nat.{ℕ, zero, suc, ◌+◌, ◌-◌, ◌≤◌}
use native.Mathlib.Omega.{arith}
use lib.Dec.{ltb}
use lib.ListN.{length}
use borrow.Author.Tests.{ltb-true}
use Rattle.machine.specs.Machine.{ret, refuse, here, byte, Out, ok, refused, run, ◌>>=◌, ◌>>◌, when◌then◌else◌, place, skip, check, turns, many, times}
use Rattle.cursor.specs.Rows.{Frame, Part, P}
use Rattle.cursor.specs.Leaves.{next, digits, number, block, manufacturer, guid}
use Rattle.machine.proofs.Laws.{and_then, run_bind}
use Rattle.cursor.proofs.Leaves.{block_inside}

-- the place where a run ended, or that it was refused at, is at most `size`
abbrev pub Inside : {A : Type 0} → (size : ℕ) → Out A → Type 0
Inside size (ok a q) = q ≤ size
Inside size (refused n p) = p ≤ size

-- the run of m from `at`
pub record StaysAt {A : Type 0} (f : List ℕ) (m : P A) (at : ℕ) : Type 0 where
  pub inside : Inside (length f) (run m f at)

-- each run of m
pub record Stays {A : Type 0} (f : List ℕ) (m : P A) : Type 0 where
  pub from : (at : ℕ) → at ≤ length f → StaysAt f m at

module _ {A : Type 0} {f : List ℕ} where
  -- where it was refused
  pub refused-inside : {m : P A} {at n p : ℕ} → StaysAt f m at → run m f at ≡ refused n p → p ≤ length f
  refused-inside w e = subst (Inside (length f)) e w.inside

  -- ---- the rules of a run

  chained : {B : Type 0} (g : A → P B) (o : Out A) → Inside (length f) o → ((a : A) (q : ℕ) → o ≡ ok a q → q ≤ length f → StaysAt f (g a) q) →
      Inside (length f) (and_then o (λ a q. run (g a) f q))
  chained g (ok a q) w h = (h a q refl w).inside
  chained g (refused n p) w h = w

  pub after-at : {B : Type 0} {m : P A} {g : A → P B} {at : ℕ} → StaysAt f m at →
      ((a : A) (q : ℕ) → run m f at ≡ ok a q → q ≤ length f → StaysAt f (g a) q) → StaysAt f (m >>= g) at
  after-at {m = m} {g} {at} w h = record { inside = subst (Inside (length f)) (sym (run_bind m g f at)) (chained g (run m f at) w.inside h) }

  pub place_at : (g : ℕ → P A) (at : ℕ) → StaysAt f (g at) at → StaysAt f (place >>= g) at
  unfolding run ◌>>=◌ place
  place_at g at h = record { inside = h.inside }

  pub check-at : {b : Bool} (n p : ℕ) {m : P A} {at : ℕ} → p ≤ length f → (b ≡ true → StaysAt f m at) → StaysAt f (check b n p >> m) at
  unfolding run ◌>>=◌ ◌>>◌ check
  check-at {b = true} n p l h = record { inside = (h refl).inside }
  check-at {b = false} n p l h = record { inside = l }

  pub either_at : (b : Bool) {m n : P A} {at : ℕ} → StaysAt f m at → StaysAt f n at → StaysAt f (when b then m else n) at
  unfolding when◌then◌else◌
  either_at true h k = h
  either_at false h k = k

  pub skip_at : (w : Part) (n : ℕ) {m : P A} {at : ℕ} → at + n ≤ length f → Stays f m → StaysAt f (skip w n >> m) at
  unfolding run ◌>>=◌ ◌>>◌ skip
  skip_at w n {at = at} l h = record { inside = (h.from (at + n) l).inside }

  -- ---- the rules

  pub anywhere : {m : P A} → ((at : ℕ) → at ≤ length f → StaysAt f m at) → Stays f m
  anywhere h = record { from = h }

  pub after : {B : Type 0} {m : P A} {g : A → P B} → Stays f m → ((a : A) → Stays f (g a)) → Stays f (m >>= g)
  after w h = record { from = λ at l. after-at (w.from at l) (λ a q e k. (h a).from q k) }

  pub follows : {B : Type 0} {m : P A} {n : P B} → Stays f m → Stays f n → Stays f (m >> n)
  unfolding ◌>>◌
  follows w h = after w λ a. h

  pub ends : {a : A} → Stays f (ret a)
  unfolding run
  ends = record { from = λ at l. record { inside = l } }

  pub stops : {n p : ℕ} → p ≤ length f → Stays {A = A} f (refuse n p)
  unfolding run
  stops k = record { from = λ at l. record { inside = k } }

  pub at_place : {k : ℕ → P A} → ((p : ℕ) → p ≤ length f → StaysAt f (k p) p) → Stays f (here k)
  unfolding run
  at_place h = record { from = λ at l. record { inside = (h at l).inside } }

  pub places : {g : ℕ → P A} → ((p : ℕ) → p ≤ length f → Stays f (g p)) → Stays f (place >>= g)
  places h = record { from = λ at l. place_at _ at ((h at l).from at l) }

  pub either : (b : Bool) {m n : P A} → Stays f m → Stays f n → Stays f (when b then m else n)
  either b h k = record { from = λ at l. either_at b (h.from at l) (k.from at l) }

  pub checks : {b : Bool} (n p : ℕ) {m : P A} → p ≤ length f → (b ≡ true → Stays f m) → Stays f (check b n p >> m)
  checks n p k h = record { from = λ at l. check-at n p k (λ t. (h t).from at l) }

  turned : (k end : ℕ) {body : A → P A} (s : A) → ((s : A) → Stays f (body s)) → Stays f (turns k end body s)
  unfolding turns
  turned zero end s h = ends
  turned (suc k) end s h = at_place λ at l. (either _ (after (h s) λ t. turned k end t h) ends).from at l

  pub repeats : (end : ℕ) {body : A → P A} (s : A) → ((s : A) → Stays f (body s)) → Stays f (many end body s)
  unfolding many
  repeats end s h = at_place λ at l. (turned (end - at) end s h).from at l

  pub counts : (n : ℕ) {body : A → P A} (s : A) → ((s : A) → Stays f (body s)) → Stays f (times n body s)
  unfolding times
  counts zero s h = ends
  counts (suc n) s h = after (h s) λ t. counts n t h

-- a check with which a program ends
pub checked : {f : List ℕ} (b : Bool) (n p : ℕ) → p ≤ length f → Stays f (check b n p)
unfolding check
checked true n p l = ends
checked false n p l = stops l

-- ---- the leaves, in a part of the file

module _ {f : List ℕ} (κ : Frame) (past end : ℕ) (o : end ≤ length f) where
  pub next-stays : (p : ℕ) → p ≤ length f → Stays f (next κ past end p)
  unfolding run when◌then◌else◌ next
  next-stays p l = at_place λ at k. by (ltb at end) at refl
    where
      by : (b : Bool) (at : ℕ) → ltb at end ≡ b → StaysAt f (when b then byte κ ret else refuse past p) at
      by true at e = record { inside = let z = ltb-true at end e in omega arith }
      by false at e = record { inside = l }

  pub digits-stays : (p left v : ℕ) → p ≤ length f → Stays f (digits κ past end p left v)
  unfolding digits
  digits-stays p zero v l = stops l
  digits-stays p (suc left) v l = after (next-stays p l) λ b. either _ ends (digits-stays p left _ l)

  pub number-stays : Stays f (number κ past end)
  unfolding number
  number-stays = places λ p l. digits-stays p 4 0 l

  pub block-stays : Stays f (block κ past end)
  unfolding block
  block-stays = places λ p l. after number-stays λ size. places λ q k. checks _ _ l λ t. ends

  -- a block, whose bytes lie in the part, and then what is done with it
  pub blocks : {A : Type 0} {g : ℕ → P A} → ((n q : ℕ) → q + n ≤ end → StaysAt f (g n) q) → Stays f (block κ past end >>= g)
  blocks h = anywhere λ at l. after-at (block-stays.from at l) λ n q e k. h n q (block_inside κ past end f at e).2

module _ {f : List ℕ} (κ : Frame) (end : ℕ) (o : end ≤ length f) where
  pub manufacturer-stays : Stays f (manufacturer κ end)
  unfolding manufacturer
  manufacturer-stays = places λ p l. let n = next-stays κ _ end o p l in after n λ b. either _ (after n λ c. after n λ d. ends) ends

  pub guid-stays : Stays f (guid κ end)
  unfolding guid
  guid-stays = places λ p l. after (digits-stays κ _ end o p 19 0 l) λ v. ends
