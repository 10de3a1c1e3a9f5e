-- How many bytes of each kind a run spends. A program of one sort of bytes spends all that it moves over, and none of another sort: so counts are differences of places.
-- Assumes nothing.
use mathlib.Core.Path.{◌≡◌, refl, ◌∙◌}
use mathlib.Core.Bool.{Bool, true, false, cond, not}
use mathlib.Core.List.{List, [], ◌∷◌, ◌++◌}
use Prim.Native.Nat.{ℕ, ◌+◌}
use native.Mathlib.Omega.{arith}
use lib.Dec.{T}
use Rattle.machine.specs.Machine.{ok, seen, passed, run, trace}
use Rattle.cursor.specs.Rows.{P, Events}
use Rattle.machine.proofs.Stable.{Chain, end_of, chain, ends}
use Rattle.cursor.proofs.Uses.{Allowed, Uses, Only, used}
use Rattle.account.specs.Account.{kind_of_frame, kind_of}
use Rattle.account.proofs.Places.{count}

-- frames and parts of the kinds that pass the test
abbrev pub only : (ℕ → Bool) → Allowed
only t = record { frame = λ κ. T (t (kind_of_frame κ)); part = λ w. T (t (kind_of w)); refusal = λ n p. Unit {0}; listed = λ n p i. tt }

abbrev pub others : (ℕ → Bool) → ℕ → Bool
others t κ = not (t κ)

if_yes : (b : Bool) (n : ℕ) → T b → cond b n 0 ≡ n
if_yes true n h = refl
if_yes false n h = absurd h

if_no : (b : Bool) (n : ℕ) → T (not b) → cond b n 0 ≡ 0
if_no true n h = absurd h
if_no false n h = refl

all_of : (t : ℕ → Bool) (es : Events) (at : ℕ) → Only (only t) es → Chain at es → at + count t es ≡ end_of at es
unfolding count
all_of t [] at o c = omega arith
all_of t (seen κ p ∷ es) at o c = let a = if_yes (t (kind_of_frame κ)) 1 o.0 in let b = all_of t es (at + 1) o.1 c.1 in omega arith
all_of t (passed w p n ∷ es) at o c = let a = if_yes (t (kind_of w)) n o.0 in let b = all_of t es (at + n) o.1 c.1 in omega arith

none_of : (t : ℕ → Bool) (es : Events) → Only (only (others t)) es → count t es ≡ 0
unfolding count
none_of t [] o = refl
none_of t (seen κ p ∷ es) o = let a = if_no (t (kind_of_frame κ)) 1 o.0 in let b = none_of t es o.1 in omega arith
none_of t (passed w p n ∷ es) o = let a = if_no (t (kind_of w)) n o.0 in let b = none_of t es o.1 in omega arith

-- ---- of a run

pub spends : {A : Type 0} (t : ℕ → Bool) {m : P A} → Uses (only t) m → (f : List ℕ) (at : ℕ) {a : A} {q : ℕ} → run m f at ≡ ok a q → at + count t (trace m f at) ≡ q
spends t {m} u f at e = all_of t (trace m f at) at (used f at u) (chain m f at) ∙ ends m f at e

pub spends_none : {A : Type 0} (t : ℕ → Bool) {m : P A} → Uses (only (others t)) m → (f : List ℕ) (at : ℕ) → count t (trace m f at) ≡ 0
spends_none t {m} u f at = none_of t (trace m f at) (used f at u)

pub count-on : (t : ℕ → Bool) (es fs : Events) → count t (es ++ fs) ≡ count t es + count t fs
unfolding count
count-on t [] fs = let e : count t fs ≡ 0 + count t fs = omega arith in e
count-on t (e ∷ es) fs = let h = count-on t es fs in omega arith
