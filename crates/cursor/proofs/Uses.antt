-- What a program is made of: the frames whose bytes it reads, the parts that it passes over, its refusals. A rule for each form, and the leaves.
-- Proved once of each program; that it puts nothing into a state, makes no row, or refuses as the reader may, are choices of what is allowed.
-- Assumes nothing.
use mathlib.Core.Path.{◌≡◌, subst}
use mathlib.Core.Bool.{Bool, true, false}
use mathlib.Core.List.{List, [], ◌∷◌}
use Prim.Native.Nat.{ℕ, zero, suc, ◌+◌, ◌-◌}
use native.Mathlib.Omega.{arith}
use lib.Dec.{T}
use lib.ListN.{get_or}
use Rattle.machine.specs.Machine.{ret, refuse, here, byte, pass, refused, seen, passed, run, trace, ◌>>=◌, ◌>>◌, when◌then◌else◌, place, skip, check, turns, many, times}
use Rattle.cursor.specs.Rows.{Frame, Part, node_row, item_row, plain, P, Events}
use Rattle.cursor.specs.Refusals.{cut_short, of_reader, is_allowed}
use Rattle.cursor.specs.Leaves.{next, digits, number, block, manufacturer, guid}

-- refusal n at p is one of the reader's
abbrev pub InList : (n p : ℕ) → Type 0
InList n p = T (is_allowed of_reader n p)

-- what programs may be made of; the reader's refusals are always allowed
pub record Allowed : Type 1 where
  pub frame : Frame → Type 0
  pub part : Part → Type 0
  pub refusal : (n p : ℕ) → Type 0
  pub listed : (n p : ℕ) → InList n p → refusal n p

-- parts of which D holds, with any frame and any refusal
abbrev pub passing : (Part → Type 0) → Allowed
passing D = record { frame = λ κ. Unit {0}; part = D; refusal = λ n p. Unit {0}; listed = λ n p i. tt }

-- the reader's refusals alone, with any frame and any part
abbrev pub refusing : Allowed
refusing = record { frame = λ κ. Unit {0}; part = λ w. Unit {0}; refusal = InList; listed = λ n p i. i }

abbrev pub UsesOf : {A : Type 0} → Allowed → P A → Type 0
UsesOf S (ret a) = Unit {0}
UsesOf S (refuse n p) = S.refusal n p
UsesOf S (here k) = (at : ℕ) → UsesOf S (k at)
UsesOf S (byte κ k) = S.frame κ × ((b : ℕ) → UsesOf S (k b))
UsesOf S (pass w n m) = S.part w × UsesOf S m

-- m is made of nothing else
pub record Uses {A : Type 0} (S : Allowed) (m : P A) : Type 0 where
  pub uses : UsesOf S m

-- events of nothing else
abbrev pub Only : Allowed → Events → Type 0
Only S [] = Unit {0}
Only S (seen κ p ∷ es) = S.frame κ × Only S es
Only S (passed w p n ∷ es) = S.part w × Only S es

-- m makes no row
abbrev pub NoRow : Part → Type 0
NoRow (node_row r) = ⊥
NoRow (item_row r) = ⊥
NoRow (plain x) = Unit {0}

abbrev pub Rowless : {A : Type 0} → P A → Type 0
Rowless m = Uses (passing NoRow) m

-- each refusal of m is one of the reader's
abbrev pub Listed : {A : Type 0} → P A → Type 0
Listed m = Uses refusing m

-- ---- of a run

module _ {A : Type 0} (S : Allowed) where
  only : (m : P A) (f : List ℕ) (at : ℕ) → UsesOf S m → Only S (trace m f at)
  unfolding trace
  only (ret a) f at u = tt
  only (refuse n p) f at u = tt
  only (here k) f at u = only (k at) f at (u at)
  only (byte κ k) f at u = (u.0, only (k (get_or f at 0)) f (at + 1) (u.1 (get_or f at 0)))
  only (pass w n m) f at u = (u.0, only m f (at + n) u.1)

  refusal-of : (m : P A) (f : List ℕ) (at : ℕ) → UsesOf S m → {n p : ℕ} → run m f at ≡ refused n p → S.refusal n p
  unfolding run
  refusal-of (ret a) f at u e = let z : ◌≡◌ {A = ℕ} 0 1 = cc in absurd (omega arith)
  refusal-of (refuse k q) f at u {n} {p} e = let y : q ≡ p = cc in let z : k ≡ n = cc in subst (λ v. S.refusal v p) z (subst (S.refusal k) y u)
  refusal-of (here k) f at u e = refusal-of (k at) f at (u at) e
  refusal-of (byte κ k) f at u e = refusal-of (k (get_or f at 0)) f (at + 1) (u.1 (get_or f at 0)) e
  refusal-of (pass w n m) f at u e = refusal-of m f (at + n) u.1 e

  chained : {B : Type 0} (m : P A) (g : A → P B) → UsesOf S m → ((a : A) → UsesOf S (g a)) → UsesOf S (m >>= g)
  unfolding ◌>>=◌
  chained (ret a) g u h = h a
  chained (refuse n p) g u h = u
  chained (here k) g u h = λ at. chained (k at) g (u at) h
  chained (byte κ k) g u h = (u.0, λ b. chained (k b) g (u.1 b) h)
  chained (pass w n m) g u h = (u.0, chained m g u.1 h)

module _ {A : Type 0} {S : Allowed} where
  pub used : {m : P A} (f : List ℕ) (at : ℕ) → Uses S m → Only S (trace m f at)
  used {m} f at u = only S m f at u.uses

  pub refused_as : {m : P A} (f : List ℕ) (at : ℕ) → Uses S m → {n p : ℕ} → run m f at ≡ refused n p → S.refusal n p
  refused_as {m} f at u e = refusal-of S m f at u.uses e

  -- ---- the rules

  pub after : {B : Type 0} {m : P A} {g : A → P B} → Uses S m → ((a : A) → Uses S (g a)) → Uses S (m >>= g)
  after {m = m} {g} u h = record { uses = chained S m g u.uses (λ a. (h a).uses) }

  pub follows : {B : Type 0} {m : P A} {n : P B} → Uses S m → Uses S n → Uses S (m >> n)
  unfolding ◌>>◌
  follows u h = after u λ a. h

  pub ends : {a : A} → Uses S (ret a)
  ends = record { uses = tt }

  pub stops : {n p : ℕ} → InList n p → Uses {A = A} S (refuse n p)
  stops i = record { uses = S.listed _ _ i }

  pub at_place : {k : ℕ → P A} → ((at : ℕ) → Uses S (k at)) → Uses S (here k)
  at_place h = record { uses = λ at. (h at).uses }

  pub either : (b : Bool) {m n : P A} → Uses S m → Uses S n → Uses S (when b then m else n)
  unfolding when◌then◌else◌
  either true h k = h
  either false h k = k

  checks_as : (b : Bool) (n p : ℕ) {m : P A} → S.refusal n p → Uses S m → Uses S (check b n p >> m)
  unfolding ◌>>=◌ ◌>>◌ check
  checks_as true n p i h = record { uses = h.uses }
  checks_as false n p i h = record { uses = i }

  pub checks : (b : Bool) (n p : ℕ) {m : P A} → InList n p → Uses S m → Uses S (check b n p >> m)
  checks b n p i h = checks_as b n p (S.listed n p i) h

  pub places : {g : ℕ → P A} → ((at : ℕ) → Uses S (g at)) → Uses S (place >>= g)
  unfolding ◌>>=◌ place
  places h = record { uses = λ at. (h at).uses }

  pub passes : (w : Part) (n : ℕ) {m : P A} → S.part w → Uses S m → Uses S (skip w n >> m)
  unfolding ◌>>=◌ ◌>>◌ skip
  passes w n d h = record { uses = (d, h.uses) }

  turned : (k end : ℕ) {body : A → P A} (s : A) → ((s : A) → Uses S (body s)) → Uses S (turns k end body s)
  unfolding turns
  turned zero end s h = ends
  turned (suc k) end s h = at_place λ at. either _ (after (h s) λ t. turned k end t h) ends

  pub repeats : (end : ℕ) {body : A → P A} (s : A) → ((s : A) → Uses S (body s)) → Uses S (many end body s)
  unfolding many
  repeats end s h = at_place λ at. turned (end - at) end s h

  pub counts : (n : ℕ) {body : A → P A} (s : A) → ((s : A) → Uses S (body s)) → Uses S (times n body s)
  unfolding times
  counts zero s h = ends
  counts (suc n) s h = after (h s) λ t. counts n t h

-- a check with which a program ends
pub checked : {S : Allowed} (b : Bool) (n p : ℕ) → InList n p → Uses S (check b n p)
unfolding check
checked true n p i = ends
checked false n p i = stops i

-- ---- the leaves are of one frame

module _ {S : Allowed} (κ : Frame) (r : S.frame κ) where
  -- refusal `past` is to be allowed at every place
  module _ (past end : ℕ) (i : (p : ℕ) → S.refusal past p) where
    pub next-with : (p : ℕ) → Uses S (next κ past end p)
    unfolding next
    next-with p = at_place λ at. either _ (record { uses = (r, λ b. tt) }) (record { uses = i p })

    digits-with : (p left v : ℕ) → Uses S (digits κ past end p left v)
    unfolding digits
    digits-with p zero v = stops tt
    digits-with p (suc left) v = after (next-with p) λ b. either _ ends (digits-with p left _)

    pub number-with : Uses S (number κ past end)
    unfolding number
    number-with = places λ p. digits-with p 4 0

    pub block_with : Uses S (block κ past end)
    unfolding block
    block_with = places λ p. after number-with λ size. places λ q. checks_as _ _ _ (i p) ends

  -- as 3 is
  module _ (end : ℕ) where
    pub next-uses : (p : ℕ) → Uses S (next κ cut_short end p)
    next-uses = next-with cut_short end (λ q. S.listed _ q tt)

    pub number-uses : Uses S (number κ cut_short end)
    number-uses = number-with cut_short end (λ q. S.listed _ q tt)

    pub block-uses : Uses S (block κ cut_short end)
    block-uses = block_with cut_short end (λ q. S.listed _ q tt)

    pub manufacturer-uses : Uses S (manufacturer κ end)
    unfolding manufacturer
    manufacturer-uses = places λ p. after (next-uses p) λ b. either _ (after (next-uses p) λ c. after (next-uses p) λ d. ends) ends

    pub guid-uses : Uses S (guid κ end)
    unfolding guid
    guid-uses = places λ p. after (digits-with cut_short end (λ q. S.listed _ q tt) p 19 0) λ v. ends
