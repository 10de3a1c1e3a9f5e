-- The refusals of a result are among a list's: of either of two, of a longer list, of bytes that fit.
-- Assumes nothing.
use mathlib.Core.Path.{◌≡◌, refl, ap, ◌∙◌, subst}
use mathlib.Core.Bool.{Bool, true, false, cond, not, ◌&&◌, ◌||◌}
use mathlib.Core.List.{List, [], ◌∷◌, ◌++◌}
use Prim.Native.Nat.{ℕ}
use native.Mathlib.Decide.{dec_le}
use native.Mathlib.Omega.{arith}
use lib.Dec.{T, eqb}
use lib.ListN.{length}
use borrow.Author.Tests.{le-leb, lt-leb, eqb-true}
use Rattle.cursor.specs.Refusals.{in_file, is_one_of, is_allowed, Among, PlacedIn}
use Rattle.room.specs.Room.{Result, good, bad, fitting}

pub among-if : (ns : List ℕ) {A : Type 0} (b : Bool) (x y : Result A) → Among ns x → Among ns y → Among ns (cond b x y)
among-if ns true x y a c = a
among-if ns false x y a c = c

-- a longer list allows more
one-front : (n : ℕ) (ns ms : List ℕ) → T (is_one_of n ns) → T (is_one_of n (ns ++ ms))
one-front n [] ms t = absurd t
one-front n (m ∷ ns) ms t = by (eqb n m) t (one-front n ns ms)
  where
    by : (b : Bool) → T (b || is_one_of n ns) → (T (is_one_of n ns) → T (is_one_of n (ns ++ ms))) → T (b || is_one_of n (ns ++ ms))
    by true t h = tt
    by false t h = h t

one-back : (n : ℕ) (ns ms : List ℕ) → T (is_one_of n ms) → T (is_one_of n (ns ++ ms))
one-back n [] ms t = t
one-back n (m ∷ ns) ms t = by (eqb n m) (one-back n ns ms t)
  where
    by : (b : Bool) → T (is_one_of n (ns ++ ms)) → T (b || is_one_of n (ns ++ ms))
    by true h = tt
    by false h = h

both : (a b c : Bool) → T (a && c) → (T a → T b) → T (b && c)
both true true c t h = t
both true false c t h = absurd (h tt)
both false b c t h = absurd t

pub allowed-front : (ns ms : List ℕ) (n p : ℕ) → T (is_allowed ns n p) → T (is_allowed (ns ++ ms) n p)
allowed-front ns ms n p t = both (is_one_of n ns) (is_one_of n (ns ++ ms)) _ t (one-front n ns ms)

pub among-back : (ns ms : List ℕ) {A : Type 0} (r : Result A) → Among ms r → Among (ns ++ ms) r
among-back ns ms (good a) t = tt
among-back ns ms (bad n p) t = both (is_one_of n ms) (is_one_of n (ns ++ ms)) _ t (one-back n ns ms)

-- where no number of a list names a place of a file, its refusals are as they should be in every file
abbrev pub are_apart : (ns ms : List ℕ) → Bool
are_apart [] ms = true
are_apart (n ∷ ns) ms = not (is_one_of n ms) && are_apart ns ms

not-in_both : (n : ℕ) (ns ms : List ℕ) → T (are_apart ns ms) → T (is_one_of n ns) → T (is_one_of n ms) → ⊥
not-in_both n [] ms a t i = t
not-in_both n (m ∷ ns) ms a t i = by (eqb n m) refl (is_one_of m ms) refl a t (λ a t. not-in_both n ns ms a t i)
  where
    by : (b : Bool) → eqb n m ≡ b → (c : Bool) → is_one_of m ms ≡ c → T (not c && are_apart ns ms) → T (b || is_one_of n ns) → (T (are_apart ns ms) → T (is_one_of n ns) → ⊥) → ⊥
    by b e true z a t h = a
    by true e false z a t h = subst T (ap (λ v. is_one_of v ms) (eqb-true n m e) ∙ z) i
    by false e false z a t h = h a t

pub apart-placed : (ns : List ℕ) → T (are_apart ns in_file) → {A : Type 0} (size : ℕ) (r : Result A) → Among ns r → PlacedIn size r
apart-placed ns a size (good x) t = tt
apart-placed ns a size (bad n p) t = λ i. absurd (not-in_both n ns in_file a (first (is_one_of n ns) _ t) i)
  where
    first : (b c : Bool) → T (b && c) → T b
    first true c t = tt
    first false c t = t

pub placed-if : (size : ℕ) {A : Type 0} (b : Bool) (x y : Result A) → PlacedIn size x → PlacedIn size y → PlacedIn size (cond b x y)
placed-if size true x y a c = a
placed-if size false x y a c = c

-- bytes that a buffer holds, or 22
pub fitted : (P : Result (List ℕ) → Type 0) (n : ℕ) (s : List ℕ) → P (good s) → P (bad 22 0) → P (fitting n (good s))
unfolding fitting
fitted P n s a b = elim (dec_le (length s) n) [
  | yes l ↦ simp (le-leb (length s) n l) a
  | no l ↦ simp (lt-leb (length s) n (omega arith)) b
]

pub fitting-among : (ns : List ℕ) → T (is_allowed ns 22 0) → (n : ℕ) (r : Result (List ℕ)) → Among ns r → Among ns (fitting n r)
unfolding fitting
fitting-among ns t n (good s) k = fitted (Among ns) n s tt t
fitting-among ns t n (bad m p) k = k
