-- The first byte that a detached node has: byte by byte, as it is defined, and row by row.
-- Assumes nothing.
use mathlib.Core.Path.{◌≡◌, refl, subst}
use mathlib.Core.Bool.{Bool, true, false, cond, ◌&&◌, ◌||◌}
use mathlib.Core.List.{List, [], ◌∷◌}
use Prim.Native.Nat.{ℕ, zero, suc, ◌+◌, ◌-◌, ◌≤◌, ◌<◌, min, max}
use native.Mathlib.Omega.{arith}
use native.Mathlib.Decide.{dec_le, dec_lt}
use lib.Dec.{eqb, ltb, leb}
use lib.ListN.{length}
use borrow.Author.Tests.{eqb-true, lt-ltb, le-ltb, ltb-true, ltb-false, le-leb, lt-leb}
use Rattle.cursor.specs.declared.Node.{Node}
use Rattle.rows.specs.Rows.{node_at}
use Rattle.targets.specs.Targets.{is_taken, first_of, first_taken}
use Rattle.targets.specs.Told.{taken_by_rows}

and_no : (b : Bool) → (b && false) ≡ false
and_no true = refl
and_no false = refl

pub or_yes : (b : Bool) → (b || true) ≡ true
or_yes true = refl
or_yes false = refl

-- ---- byte by byte

-- what lies before it is free, and it is taken if it is not the last
first-of : (ns : List Node) (n p m : ℕ) → p ≤ m → m ≤ p + n → ((k : ℕ) → p ≤ k → k < m → is_taken ns k ≡ false) → (m < p + n → is_taken ns m ≡ true) → m ≡ first_of ns p n
unfolding first_of
first-of ns zero p m a b free there = omega arith
first-of ns (suc n) p m a b free there = elim (dec_lt p m) [
  | yes l ↦ rw (free p (omega arith) l) (first-of ns n (suc p) m (omega arith) (omega arith) (λ k c d. free k (omega arith) d) (λ c. there (omega arith)))
  | no l ↦
      let e : m ≡ p = omega arith in
      let t : is_taken ns p ≡ true = subst (λ v. is_taken ns v ≡ true) e (there (omega arith)) in
      rw t e
]

-- none before it is taken
pub first-before : (ns : List Node) (n p k : ℕ) → p ≤ k → is_taken ns k ≡ true → first_of ns p n ≤ k
unfolding first_of
first-before ns zero p k l t = l
first-before ns (suc n) p k l t = elim (dec_lt p k) [
  | yes m ↦ by (is_taken ns p) (first-before ns n (suc p) k (omega arith) t)
  | no m ↦
      let e : k ≡ p = omega arith in
      let u : is_taken ns p ≡ true = subst (λ v. is_taken ns v ≡ true) e t in
      rw u l
]
  where
    by : (b : Bool) → first_of ns (suc p) n ≤ k → (cond b p (first_of ns (suc p) n)) ≤ k
    by true z = l
    by false z = z

-- ---- row by row

rows-low : (ns : List Node) (p end : ℕ) → p ≤ end → p ≤ taken_by_rows ns p end
unfolding taken_by_rows
rows-low [] p end l = l
rows-low (r ∷ ns) p end l = by (eqb r.detached 1 && ltb p (r.start + r.size)) (rows-low ns p end l)
  where
    by : (b : Bool) → p ≤ taken_by_rows ns p end → p ≤ (cond b (min (max p r.start) (taken_by_rows ns p end)) (taken_by_rows ns p end))
    by true z = omega arith
    by false z = z

rows-high : (ns : List Node) (p end : ℕ) → taken_by_rows ns p end ≤ end
unfolding taken_by_rows
rows-high [] p end = omega arith
rows-high (r ∷ ns) p end = by (eqb r.detached 1 && ltb p (r.start + r.size)) (rows-high ns p end)
  where
    by : (b : Bool) → taken_by_rows ns p end ≤ end → (cond b (min (max p r.start) (taken_by_rows ns p end)) (taken_by_rows ns p end)) ≤ end
    by true z = omega arith
    by false z = z

rows-free : (ns : List Node) (p end k : ℕ) → p ≤ k → k < taken_by_rows ns p end → is_taken ns k ≡ false
unfolding taken_by_rows is_taken
rows-free [] p end k l m = refl
rows-free (r ∷ ns) p end k l m = by (eqb r.detached 1) (ltb p (r.start + r.size)) refl m (rows-free ns p end k l)
  where
    by : (b c : Bool) → ltb p (r.start + r.size) ≡ c
        → k < (cond (b && c) (min (max p r.start) (taken_by_rows ns p end)) (taken_by_rows ns p end))
        → (k < taken_by_rows ns p end → is_taken ns k ≡ false)
        → ((b && (leb r.start k && ltb k (r.start + r.size))) || is_taken ns k) ≡ false
    by false c e m rest = rest m
    by true true e m rest = rw (lt-leb r.start k (omega arith)) (rest (omega arith))
    by true false e m rest =
        let z = ltb-false p (r.start + r.size) e in
        rw (le-ltb k (r.start + r.size) (omega arith), and_no (leb r.start k)) (rest m)

rows-there : (ns : List Node) (p end t : ℕ) → ((i : ℕ) → i < length ns → (node_at ns i).detached ≡ 1 → 0 < (node_at ns i).size)
    → t ≡ taken_by_rows ns p end → t < end → is_taken ns t ≡ true
unfolding taken_by_rows is_taken
rows-there [] p end t s e l = absurd (omega arith)
rows-there (r ∷ ns) p end t s e l =
    by (eqb r.detached 1) refl (ltb p (r.start + r.size)) refl e (λ z. rows-there ns p end t (λ i a d. s (suc i) (omega arith) d) z l)
  where
    by : (b : Bool) → eqb r.detached 1 ≡ b → (c : Bool) → ltb p (r.start + r.size) ≡ c
        → t ≡ (cond (b && c) (min (max p r.start) (taken_by_rows ns p end)) (taken_by_rows ns p end))
        → (t ≡ taken_by_rows ns p end → is_taken ns t ≡ true)
        → ((b && (leb r.start t && ltb t (r.start + r.size))) || is_taken ns t) ≡ true
    by false x c y e rest = rest e
    by true x false y e rest = rw (rest e) (or_yes (leb r.start t && ltb t (r.start + r.size)))
    by true x true y e rest =
        let d : 0 < r.size = s 0 (omega arith) (eqb-true r.detached 1 x) in
        let a = ltb-true p (r.start + r.size) y in
        elim (dec_le (max p r.start) (taken_by_rows ns p end)) [
          | yes m ↦ rw (le-leb r.start t (omega arith), lt-ltb t (r.start + r.size) (omega arith)) refl
          | no m ↦ rw (rest (omega arith)) (or_yes (leb r.start t && ltb t (r.start + r.size)))
        ]

-- both find the same byte, where each detached node has one
pub by_rows : (ns : List Node) (p end : ℕ) → p ≤ end → ((i : ℕ) → i < length ns → (node_at ns i).detached ≡ 1 → 0 < (node_at ns i).size)
    → taken_by_rows ns p end ≡ first_taken ns p end
unfolding first_taken
by_rows ns p end l s =
    let a = rows-high ns p end in
    first-of ns (end - p) p (taken_by_rows ns p end) (rows-low ns p end l) (omega arith) (λ k b c. rows-free ns p end k b c) (λ b. rows-there ns p end _ s refl (omega arith))
