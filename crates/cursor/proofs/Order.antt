-- The order in which a run makes rows: each item row names the node whose row comes next, each node row counts the item rows since the last one
-- and names a parent whose row is not later. A rule for each form, proved once, and one for programs that make no row.
-- Assumes nothing.
use mathlib.Core.Path.{◌≡◌, refl, subst}
use mathlib.Core.Bool.{Bool, true, false}
use mathlib.Core.List.{List, [], ◌∷◌, ◌++◌}
use Prim.Native.Nat.{ℕ, zero, suc, ◌+◌, ◌-◌, ◌≤◌}
use native.Mathlib.Omega.{arith}
use lib.ListN.{get_or}
use Rattle.machine.specs.Machine.{ret, refuse, here, byte, pass, ok, seen, passed, run, trace, ◌>>=◌, ◌>>◌, when◌then◌else◌, place, skip, check, turns, many, times}
use Rattle.cursor.specs.Rows.{Part, node_row, item_row, plain, P, Events}
use Rattle.cursor.specs.declared.Node.{Node}
use Rattle.cursor.specs.declared.Item.{Item}
use Rattle.cursor.proofs.Uses.{UsesOf, passing, NoRow, Rowless}

-- k node rows were made, and c item rows since the last of them: what a thing that is passed asks for, and the counts after it
abbrev pub Step : Part → (k c : ℕ) → (ℕ → ℕ → Type 0) → Type 0
Step (node_row r) k c X = (r.rows ≡ c) × (r.parent ≤ k) × X (k + 1) 0
Step (item_row r) k c X = (r.node ≡ k) × X k (c + 1)
Step (plain x) k c X = X k c

-- events in that order, from counts to counts
abbrev pub Ordered : (k c : ℕ) → Events → (k' c' : ℕ) → Type 0
Ordered k c [] k' c' = (k ≡ k') × (c ≡ c')
Ordered k c (seen κ p ∷ es) k' c' = Ordered k c es k' c'
Ordered k c (passed (node_row r) p n ∷ es) k' c' = (r.rows ≡ c) × (r.parent ≤ k) × Ordered (k + 1) 0 es k' c'
Ordered k c (passed (item_row r) p n ∷ es) k' c' = (r.node ≡ k) × Ordered k (c + 1) es k' c'
Ordered k c (passed (plain x) p n ∷ es) k' c' = Ordered k c es k' c'

pub ordered_on : (k c : ℕ) (es fs : Events) (k' c' k'' c'' : ℕ) → Ordered k c es k' c' → Ordered k' c' fs k'' c'' → Ordered k c (es ++ fs) k'' c''
ordered_on k c [] fs k' c' k'' c'' a b = rw (a.0, a.1) b
ordered_on k c (seen κ p ∷ es) fs k' c' k'' c'' a b = ordered_on k c es fs k' c' k'' c'' a b
ordered_on k c (passed (node_row r) p n ∷ es) fs k' c' k'' c'' a b = (a.0, a.1, ordered_on (k + 1) 0 es fs k' c' k'' c'' a.2 b)
ordered_on k c (passed (item_row r) p n ∷ es) fs k' c' k'' c'' a b = (a.0, ordered_on k (c + 1) es fs k' c' k'' c'' a.1 b)
ordered_on k c (passed (plain x) p n ∷ es) fs k' c' k'' c'' a b = ordered_on k c es fs k' c' k'' c'' a b

abbrev pub OrdersOf : {A : Type 0} → P A → (A → ℕ → ℕ → Type 0) → (k c : ℕ) → Type 0
OrdersOf (ret a) Q k c = Q a k c
OrdersOf (refuse n p) Q k c = Unit {0}
OrdersOf (here f) Q k c = (at : ℕ) → OrdersOf (f at) Q k c
OrdersOf (byte κ f) Q k c = (b : ℕ) → OrdersOf (f b) Q k c
OrdersOf (pass w n m) Q k c = Step w k c (λ k c. OrdersOf m Q k c)

-- each accepted run of m makes its rows in order, and ends with an answer and counts of which Q holds
pub record Orders {A : Type 0} (m : P A) (Q : A → ℕ → ℕ → Type 0) (k c : ℕ) : Type 0 where
  pub orders : OrdersOf m Q k c

-- what an accepted run comes to
pub record Made {A : Type 0} (Q : A → ℕ → ℕ → Type 0) (k c : ℕ) (es : Events) (a : A) : Type 0 where
  pub nodes : ℕ
  pub items : ℕ
  pub ordered : Ordered k c es nodes items
  pub ends : Q a nodes items

module _ {A : Type 0} where
  made : (m : P A) (Q : A → ℕ → ℕ → Type 0) (f : List ℕ) (at k c : ℕ) → OrdersOf m Q k c → {a : A} {p : ℕ} → run m f at ≡ ok a p → Made Q k c (trace m f at) a
  unfolding run trace
  made (ret b) Q f at k c w {a} e = let z : b ≡ a = cc in record { nodes = k; items = c; ordered = (refl, refl); ends = subst (λ v. Q v k c) z w }
  made (refuse n p) Q f at k c w {a} e = let z : ◌≡◌ {A = ℕ} 0 1 = cc in absurd (omega arith)
  made (here g) Q f at k c w e = made (g at) Q f at k c (w at) e
  made (byte κ g) Q f at k c w e = let x = made (g (get_or f at 0)) Q f (at + 1) k c (w (get_or f at 0)) e in record
      { nodes = x.nodes; items = x.items; ordered = x.ordered; ends = x.ends }
  made (pass (node_row r) n m) Q f at k c w e = let x = made m Q f (at + n) (k + 1) 0 w.2 e in record
      { nodes = x.nodes; items = x.items; ordered = (w.0, w.1, x.ordered); ends = x.ends }
  made (pass (item_row r) n m) Q f at k c w e = let x = made m Q f (at + n) k (c + 1) w.1 e in record
      { nodes = x.nodes; items = x.items; ordered = (w.0, x.ordered); ends = x.ends }
  made (pass (plain y) n m) Q f at k c w e = let x = made m Q f (at + n) k c w e in record { nodes = x.nodes; items = x.items; ordered = x.ordered; ends = x.ends }

  pub in_order : {m : P A} {Q : A → ℕ → ℕ → Type 0} {k c : ℕ} (f : List ℕ) (at : ℕ) → Orders m Q k c → {a : A} {p : ℕ} → run m f at ≡ ok a p → Made Q k c (trace m f at) a
  in_order {m} {Q} {k} {c} f at w e = made m Q f at k c w.orders e

  chained : {B : Type 0} (m : P A) (g : A → P B) (Q : A → ℕ → ℕ → Type 0) (R : B → ℕ → ℕ → Type 0) (k c : ℕ)
      → OrdersOf m Q k c → ((a : A) (k c : ℕ) → Q a k c → OrdersOf (g a) R k c) → OrdersOf (m >>= g) R k c
  unfolding ◌>>=◌
  chained (ret a) g Q R k c w h = h a k c w
  chained (refuse n p) g Q R k c w h = tt
  chained (here f) g Q R k c w h = λ at. chained (f at) g Q R k c (w at) h
  chained (byte κ f) g Q R k c w h = λ b. chained (f b) g Q R k c (w b) h
  chained (pass (node_row r) n m) g Q R k c w h = (w.0, w.1, chained m g Q R (k + 1) 0 w.2 h)
  chained (pass (item_row r) n m) g Q R k c w h = (w.0, chained m g Q R k (c + 1) w.1 h)
  chained (pass (plain x) n m) g Q R k c w h = chained m g Q R k c w h

  weakened : (m : P A) (Q R : A → ℕ → ℕ → Type 0) (k c : ℕ) → OrdersOf m Q k c → ((a : A) (k c : ℕ) → Q a k c → R a k c) → OrdersOf m R k c
  weakened (ret a) Q R k c w h = h a k c w
  weakened (refuse n p) Q R k c w h = tt
  weakened (here f) Q R k c w h = λ at. weakened (f at) Q R k c (w at) h
  weakened (byte κ f) Q R k c w h = λ b. weakened (f b) Q R k c (w b) h
  weakened (pass (node_row r) n m) Q R k c w h = (w.0, w.1, weakened m Q R (k + 1) 0 w.2 h)
  weakened (pass (item_row r) n m) Q R k c w h = (w.0, weakened m Q R k (c + 1) w.1 h)
  weakened (pass (plain x) n m) Q R k c w h = weakened m Q R k c w h

  -- ---- the rules

  pub after : {B : Type 0} {m : P A} {g : A → P B} {Q : A → ℕ → ℕ → Type 0} {R : B → ℕ → ℕ → Type 0} {k c : ℕ}
      → Orders m Q k c → ((a : A) (k c : ℕ) → Q a k c → Orders (g a) R k c) → Orders (m >>= g) R k c
  after {m = m} {g} {Q} {R} {k} {c} w h = record { orders = chained m g Q R k c w.orders (λ a k c q. (h a k c q).orders) }

  pub weaken : {m : P A} {Q R : A → ℕ → ℕ → Type 0} {k c : ℕ} → Orders m Q k c → ((a : A) (k c : ℕ) → Q a k c → R a k c) → Orders m R k c
  weaken {m} {Q} {R} {k} {c} w h = record { orders = weakened m Q R k c w.orders h }

  pub ends : {a : A} {R : A → ℕ → ℕ → Type 0} {k c : ℕ} → R a k c → Orders (ret a) R k c
  ends r = record { orders = r }

  pub stops : {n p : ℕ} {R : A → ℕ → ℕ → Type 0} {k c : ℕ} → Orders (refuse n p) R k c
  stops = record { orders = tt }

  pub at_place : {f : ℕ → P A} {R : A → ℕ → ℕ → Type 0} {k c : ℕ} → ((at : ℕ) → Orders (f at) R k c) → Orders (here f) R k c
  at_place w = record { orders = λ at. (w at).orders }

  pub either : (b : Bool) {m n : P A} {R : A → ℕ → ℕ → Type 0} {k c : ℕ} → Orders m R k c → Orders n R k c → Orders (when b then m else n) R k c
  unfolding when◌then◌else◌
  either true h k = h
  either false h k = k

  pub checks : (b : Bool) (n p : ℕ) {m : P A} {R : A → ℕ → ℕ → Type 0} {k c : ℕ} → Orders m R k c → Orders (check b n p >> m) R k c
  unfolding ◌>>=◌ ◌>>◌ check
  checks true n p h = record { orders = h.orders }
  checks false n p h = record { orders = tt }

  pub places : {g : ℕ → P A} {R : A → ℕ → ℕ → Type 0} {k c : ℕ} → ((at : ℕ) → Orders (g at) R k c) → Orders (place >>= g) R k c
  unfolding ◌>>=◌ place
  places h = record { orders = λ at. (h at).orders }

  pub passes_node : (r : Node) (n : ℕ) {m : P A} {R : A → ℕ → ℕ → Type 0} {k c : ℕ} → r.rows ≡ c → r.parent ≤ k → Orders m R (k + 1) 0 → Orders (skip (node_row r) n >> m) R k c
  unfolding ◌>>=◌ ◌>>◌ skip
  passes_node r n a b h = record { orders = (a, b, h.orders) }

  pub passes_item : (r : Item) (n : ℕ) {m : P A} {R : A → ℕ → ℕ → Type 0} {k c : ℕ} → r.node ≡ k → Orders m R k (c + 1) → Orders (skip (item_row r) n >> m) R k c
  unfolding ◌>>=◌ ◌>>◌ skip
  passes_item r n a h = record { orders = (a, h.orders) }

  -- an invariant of answer and counts
  turned : (I : A → ℕ → ℕ → Type 0) (t end : ℕ) {body : A → P A} (s : A) {k c : ℕ} → ((s : A) (k c : ℕ) → I s k c → Orders (body s) I k c) → I
      s k c → Orders (turns t end body s) I k c
  unfolding turns
  turned I zero end s step i = ends i
  turned I (suc t) end s {k} {c} step i = at_place λ at. either _ (after (step s k c i) λ r k c q. turned I t end r step q) (ends i)

  pub repeats : (I : A → ℕ → ℕ → Type 0) (end : ℕ) {body : A → P A} (s : A) {k c : ℕ} →
      ((s : A) (k c : ℕ) → I s k c → Orders (body s) I k c) → I s k c → Orders (many end body s) I k c
  unfolding many
  repeats I end s step i = at_place λ at. turned I (end - at) end s step i

  pub counts : (I : A → ℕ → ℕ → Type 0) (n : ℕ) {body : A → P A} (s : A) {k c : ℕ} → ((s : A) (k c : ℕ) → I s k c → Orders (body s) I k c) → I s k c → Orders (times n body s) I k c
  unfolding times
  counts I zero s step i = ends i
  counts I (suc n) s {k} {c} step i = after (step s k c i) λ r k c q. counts I n r step q

  -- a program that makes no row, and then another
  rowless : {B : Type 0} (m : P A) (g : A → P B) (R : B → ℕ → ℕ → Type 0) (k c : ℕ) → UsesOf (passing NoRow) m → ((a : A) → OrdersOf (g a) R k c) → OrdersOf (m >>= g) R k c
  unfolding ◌>>=◌
  rowless (ret a) g R k c u h = h a
  rowless (refuse n p) g R k c u h = tt
  rowless (here f) g R k c u h = λ at. rowless (f at) g R k c (u at) h
  rowless (byte κ f) g R k c u h = λ b. rowless (f b) g R k c (u.1 b) h
  rowless (pass (node_row r) n m) g R k c u h = absurd u.0
  rowless (pass (item_row r) n m) g R k c u h = absurd u.0
  rowless (pass (plain x) n m) g R k c u h = rowless m g R k c u.1 h

  pub then_rowless : {B : Type 0} {m : P A} {g : A → P B} {R : B → ℕ → ℕ → Type 0} {k c : ℕ} → Rowless m → ((a : A) → Orders (g a) R k c) → Orders (m >>= g) R k c
  then_rowless {m = m} {g} {R} {k} {c} u h = record { orders = rowless m g R k c u.uses (λ a. (h a).orders) }
