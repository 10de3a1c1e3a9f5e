-- A program's run depends only on the bytes that it reads, and its events lie end to end. Proved once, for every program.
-- Assumes nothing.
use mathlib.Core.Path.{◌≡◌, refl, sym, ap, ◌∙◌}
use mathlib.Core.Bool.{Bool, false, not}
use mathlib.Core.Logic.{◌⊎◌, inl, inr}
use mathlib.Core.List.{List, [], ◌∷◌}
use Prim.Native.Nat.{ℕ, ◌+◌, ◌≤◌, ◌<◌}
use native.Mathlib.Omega.{arith}
use lib.Dec.{T, T_not}
use lib.ListN.{get_or}
use Rattle.machine.specs.Machine.{Prog, ret, refuse, here, byte, pass, ok, Event, seen, passed, run, trace}
use Rattle.machine.proofs.Agree.{AgreeUpTo}

-- its first byte, and how many bytes it has
abbrev pub start_of : {K W : Type 0} → Event K W → ℕ
start_of (seen κ p) = p
start_of (passed w p n) = p

abbrev pub size_of : {K W : Type 0} → Event K W → ℕ
size_of (seen κ p) = 1
size_of (passed w p n) = n

-- the events lie end to end from `at` on
abbrev pub Chain : {K W : Type 0} → ℕ → List (Event K W) → Type 0
Chain at [] = Unit {0}
Chain at (e ∷ es) = (start_of e ≡ at) × Chain (at + size_of e) es

-- where they end
abbrev pub end_of : {K W : Type 0} → ℕ → List (Event K W) → ℕ
end_of at [] = at
end_of at (e ∷ es) = end_of (at + size_of e) es

pub chain : {K W A : Type 0} (m : Prog K W A) (f : List ℕ) (at : ℕ) → Chain at (trace m f at)
unfolding trace
chain (ret a) f at = tt
chain (refuse n p) f at = tt
chain (here k) f at = chain (k at) f at
chain (byte κ k) f at = (refl, chain (k (get_or f at 0)) f (at + 1))
chain (pass w n m) f at = (refl, chain m f (at + n))

pub ends : {K W A : Type 0} (m : Prog K W A) (f : List ℕ) (at : ℕ) {a : A} {next : ℕ} → run m f at ≡ ok a next → end_of at (trace m f at) ≡ next
unfolding run trace
ends (ret a) f at e = cc
ends (refuse n p) f at e = cc
ends (here k) f at e = ends (k at) f at e
ends (byte κ k) f at e = ends (k (get_or f at 0)) f (at + 1) e
ends (pass w n m) f at e = ends m f (at + n) e

pub at_least : {K W : Type 0} (es : List (Event K W)) (at : ℕ) → at ≤ end_of at es
at_least [] at = omega arith
at_least (e ∷ es) at = omega (arith, at_least es (at + size_of e))

-- ---- events that lie end to end share no byte

module _ {K W : Type 0} where
  -- k is a byte of the event; of one of them
  abbrev pub Has : Event K W → ℕ → Type 0
  Has e k = (start_of e ≤ k) × (k < start_of e + size_of e)

  abbrev pub Covers : List (Event K W) → ℕ → Type 0
  Covers [] k = ⊥
  Covers (e ∷ es) k = Has e k ⊎ Covers es k

  -- no byte is in two of them
  abbrev pub Separate : List (Event K W) → Type 0
  Separate [] = Unit {0}
  Separate (e ∷ es) = ((k : ℕ) → Has e k → Covers es k → ⊥) × Separate es

  pub covered : (es : List (Event K W)) (at k : ℕ) → Chain at es → Covers es k → (at ≤ k) × (k < end_of at es)
  covered [] at k c y = elim y [ ]
  covered (e ∷ es) at k c (inl x) = omega (arith, at_least es (at + size_of e))
  covered (e ∷ es) at k c (inr y) = let (l, h) = covered es (at + size_of e) k c.1 y in (omega arith, h)

  pub separate : (es : List (Event K W)) (at : ℕ) → Chain at es → Separate es
  separate [] at c = tt
  separate (e ∷ es) at c = (λ k x y. let l = (covered es (at + size_of e) k c.1 y).0 in omega arith, separate es (at + size_of e) c.1)

-- ---- bytes that may differ: those of events that are free

module _ {K W : Type 0} (free : W → Bool) where
  -- the place k lies in a free event
  abbrev pub Free : List (Event K W) → ℕ → Type 0
  Free [] k = ⊥
  Free (seen κ p ∷ es) k = Free es k
  Free (passed w p n ∷ es) k = (T (free w) × (p ≤ k) × (k < p + n)) ⊎ Free es k

  -- P holds of each byte of each event that is not free
  abbrev pub Held : (ℕ → Type 0) → List (Event K W) → Type 0
  Held P [] = Unit {0}
  Held P (seen κ p ∷ es) = P p × Held P es
  Held P (passed w p n ∷ es) = (T (not (free w)) → (k : ℕ) → p ≤ k → k < p + n → P k) × Held P es

  -- two files agree there
  abbrev pub Kept : List ℕ → List ℕ → List (Event K W) → Type 0
  Kept f g es = Held (λ k. get_or f k 0 ≡ get_or g k 0) es

  free_covers : (es : List (Event K W)) (k : ℕ) → Free es k → Covers es k
  free_covers [] k y = elim y [ ]
  free_covers (seen κ p ∷ es) k y = inr (free_covers es k y)
  free_covers (passed w p n ∷ es) k (inl x) = inl (x.1, x.2)
  free_covers (passed w p n ∷ es) k (inr y) = inr (free_covers es k y)

  -- what holds of each byte that is not free, where the events share none
  pub held : (P : ℕ → Type 0) (es : List (Event K W)) → Separate es → ((k : ℕ) → Covers es k → (Free es k → ⊥) → P k) → Held P es
  held P [] s h = tt
  held P (seen κ p ∷ es) s h = (
    h p (inl (omega arith)) (λ y. s.0 p (omega arith) (free_covers es p y)),
    held P es s.1 (λ k x u. h k (inr x) u),
  )
  held P (passed w p n ∷ es) s h = (
    λ u k lo hi. h k (inl (lo, hi)) (elim [ inl x ↦ T_not (free w) u x.0 | inr y ↦ s.0 k (lo, hi) (free_covers es k y) ]),
    held P es s.1 (λ k x u. h k (inr x) (elim [ inl y ↦ s.0 k (y.1, y.2) x | inr y ↦ u y ])),
  )

  -- files that agree outside the free events agree on the others
  pub kept : (f g : List ℕ) (es : List (Event K W)) (at : ℕ) → Chain at es
      → ((k : ℕ) → at ≤ k → k < end_of at es → (Free es k → ⊥) → get_or f k 0 ≡ get_or g k 0) → Kept f g es
  kept f g es at c h = held _ es (separate es at c) (λ k x u. let i = covered es at k c x in h k i.0 i.1 u)

  -- the run is the same: a byte that was read is in no free event
  pub stable : {A : Type 0} (m : Prog K W A) (f g : List ℕ) (at : ℕ) → Kept f g (trace m f at)
      → (run m f at ≡ run m g at) × (trace m f at ≡ trace m g at)
  unfolding run trace
  stable (ret a) f g at h = (refl, refl)
  stable (refuse n p) f g at h = (refl, refl)
  stable (here k) f g at h = stable (k at) f g at h
  stable (byte κ k) f g at h =
      let (r, t) = stable (k (get_or f at 0)) f g (at + 1) h.1 in
      rw (← h.0) (r, ap (λ es. seen κ at ∷ es) t)
  stable (pass w n m) f g at h = let (r, t) = stable m f g (at + n) h.1 in (r, ap (λ es. passed w at n ∷ es) t)

-- ---- a run that was accepted depends on the bytes between its two places alone

pub depends : {K W A : Type 0} (m : Prog K W A) (f g : List ℕ) (at : ℕ) {a : A} {q : ℕ} → run m f at ≡ ok a q
    → AgreeUpTo f g at q → run m g at ≡ ok a q
depends m f g at e h =
    let z = ends m f at e in
    sym (stable (λ _. false) m f g at (kept (λ _. false) f g (trace m f at) at (chain m f at) (λ k lo hi n. h k lo (omega arith)))).0 ∙ e
