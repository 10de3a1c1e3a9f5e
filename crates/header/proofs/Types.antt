-- The search for a type row by row, and one type more.
-- Assumes nothing.
use mathlib.Core.Path.{◌≡◌, refl, sym, ap, ◌∙◌}
use mathlib.Core.List.{List, [], ◌∷◌, ◌++◌}
use Prim.Native.Nat.{ℕ, zero, suc, ◌+◌, ◌*◌, ◌-◌, ◌≤◌, ◌<◌}
use native.Mathlib.Omega.{arith}
use lib.ListN.{length, get_or, set, length-set}
use lib.Seq.{sets, get_or-set_same, get_or-set_other}
use borrow.Author.Tests.{eq-eqb, ne_eqb}
use Rattle.header.specs.Types.{known, unknown, format_of, types_from, types_of}

-- what is left of the search from row i
abbrev pub Searching : List ℕ → ℕ → ℕ → ℕ → Type 0
Searching ws count t i = format_of (types_of count ws) t ≡ format_of (types_from i (count - i) ws) t

module _ (ws : List ℕ) (count t i : ℕ) (h : Searching ws count t i) where
  row : i < count → types_from i (count - i) ws ≡ record { type = get_or ws (i * 2) 0; format = get_or ws (i * 2 + 1) 0 } ∷ types_from (i + 1) (count - (i + 1)) ws
  unfolding types_from
  row l = let e : count - i ≡ suc (count - (i + 1)) = omega arith in rw e

  pub found : i < count → get_or ws (i * 2) 0 ≡ t → known (get_or ws (i * 2 + 1) 0) ≡ format_of (types_of count ws) t
  unfolding format_of
  found l e = sym (h ∙ ap (λ v. format_of v t) (row l) ∙ simp (eq-eqb _ _ e))

  pub on : i < count → ((get_or ws (i * 2) 0 ≡ t) → ⊥) → Searching ws count t (i + 1)
  unfolding format_of
  on l n = h ∙ ap (λ v. format_of v t) (row l) ∙ simp (ne_eqb _ _ n)

  pub nothing : count ≤ i → unknown ≡ format_of (types_of count ws) t
  unfolding types_from format_of
  nothing l = let e : count - i ≡ 0 = omega arith in sym (h ∙ ap (λ k. format_of (types_from i k ws) t) e)

pub begin : (ws : List ℕ) (count t : ℕ) → Searching ws count t 0
unfolding types_of
begin ws count t = let e : count ≡ count - 0 = omega arith in ap (λ k. format_of (types_from 0 k ws) t) e

-- ---- one more

more : (i n : ℕ) (ws : List ℕ) → types_from i (suc n) ws ≡ types_from i n ws ++ (record { type = get_or ws ((i + n) * 2) 0; format = get_or ws ((i + n) * 2 + 1) 0 } ∷ [])
unfolding types_from
more i zero ws = let e : i + 0 ≡ i = omega arith in rw e
more i (suc n) ws =
    let e : i + 1 + n ≡ i + suc n = omega arith in
    ap (λ v. record { type = get_or ws (i * 2) 0; format = get_or ws (i * 2 + 1) 0 } ∷ v) (more (i + 1) n ws ∙ rw e refl)

-- rows before a store are as they were
before : (i n k v : ℕ) (ws : List ℕ) → (i + n) * 2 ≤ k → types_from i n (set ws k v) ≡ types_from i n ws
unfolding types_from
before i zero k v ws l = refl
before i (suc n) k v ws l =
    rw (get_or-set_other ws k (i * 2) v 0 (λ e. omega arith), get_or-set_other ws k (i * 2 + 1) v 0 (λ e. omega arith), before (i + 1) n k v ws (omega arith))

two : (n t f : ℕ) (ws : List ℕ) → n * 2 + 2 ≤ length ws
    → types_of (n + 1) (set (set ws (n * 2) t) (n * 2 + 1) f) ≡ types_of n ws ++ (record { type = t; format = f } ∷ [])
unfolding types_of
two n t f ws l =
    let a : n + 1 ≡ suc n = omega arith in let b : 0 + n ≡ n = omega arith in let s = set ws (n * 2) t in
    let k : length s ≡ length ws = length-set ws (n * 2) t in
    let x : get_or (set s (n * 2 + 1) f) (n * 2) 0 ≡ t = get_or-set_other s (n * 2 + 1) (n * 2) f 0 (λ e. omega arith) ∙ get_or-set_same ws (n * 2) t 0 (omega arith) in
    let y : get_or (set s (n * 2 + 1) f) (n * 2 + 1) 0 ≡ f = get_or-set_same s (n * 2 + 1) f 0 (omega arith) in
    rw (a, more 0 n (set s (n * 2 + 1) f), b, x, y, before 0 n (n * 2 + 1) f s (omega arith), before 0 n (n * 2) t ws (omega arith))

pub declared : (n t f : ℕ) (ws : List ℕ) → n * 2 + 2 ≤ length ws → types_of (n + 1) (sets ws (n * 2) (t ∷ f ∷ [])) ≡ types_of n ws ++ (record { type = t; format = f } ∷ [])
declared n t f ws l = let z : suc (n * 2) ≡ n * 2 + 1 = omega arith in rw z (two n t f ws l)

-- as many types as are asked for
from-length : (i n : ℕ) (ws : List ℕ) → length (types_from i n ws) ≡ n
unfolding types_from
from-length i zero ws = refl
from-length i (suc n) ws = ap suc (from-length (i + 1) n ws)

pub types-length : (n : ℕ) (ws : List ℕ) → length (types_of n ws) ≡ n
unfolding types_of
types-length n ws = from-length 0 n ws

pub types-none : (ws : List ℕ) → types_of 0 ws ≡ []
unfolding types_of types_from
types-none ws = refl
