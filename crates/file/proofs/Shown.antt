-- Every row of an accepted file lies in it, and its custom name was passed.
-- Assumes nothing.
use mathlib.Core.Path.{◌≡◌, refl, subst}
use mathlib.Core.Bool.{Bool, true, false, cond, ◌&&◌, ◌||◌}
use mathlib.Core.Logic.{◌⊎◌, inl, inr}
use mathlib.Core.List.{List, [], ◌∷◌, ◌++◌}
use Prim.Native.Nat.{ℕ, ◌+◌, ◌^◌, ◌≤◌, ◌<◌}
use native.Mathlib.Omega.{arith}
use borrow.Author.Tests.{ltb-true, ltb-false, leb-true}
use lib.Dec.{ltb, leb}
use lib.ListN.{length}
use Rattle.machine.specs.Machine.{seen, passed, trace}
use Rattle.cursor.specs.Rows.{Part, Events}
use Rattle.cursor.specs.declared.Node.{Node}
use Rattle.cursor.specs.declared.Item.{Item}
use Rattle.cursor.proofs.Leaves.{any_free}
use Rattle.machine.proofs.Wp.{All, given, all-on, at_end}
use Rattle.header.specs.Header.{Header}
use Rattle.header.proofs.Ends.{header-on}
use Rattle.metadata.specs.declared.Limits.{Limits}
use Rattle.metadata.proofs.Ends.{OfNames, Nothing, Given, inside-free, Inside}
use Rattle.file.specs.Reading.{good, detached_at, context}
use Rattle.targets.specs.Targets.{outside, part_end}
use Rattle.tree.proofs.Ends.{tree-shows, detached-shows}
use Rattle.file.proofs.Follow.{tree_of, Reached, known, added, followed, ReadAs}

-- ---- a place outside header and tree, and its part

both : (a b : Bool) → (a && b) ≡ true → (a ≡ true) × (b ≡ true)
both true true e = (refl, refl)
both true false e = (refl, e)
both false b e = (e, absurd (no e))
  where
    no : false ≡ true → ⊥
    no z = let y : ◌≡◌ {A = ℕ} 0 1 = cc in omega arith

one : (a b : Bool) → (a || b) ≡ true → (a ≡ true) ⊎ (b ≡ true)
one true b e = inl refl
one false b e = inr e

module _ (h : Header) (size p : ℕ) where
  pub outside-is : outside h size p ≡ true → (h.extent.end ≤ p) × (p < size) × ((p < h.extent.start) ⊎ (h.extent.last < p))
  unfolding outside
  outside-is e =
      let x = both (leb h.extent.end p) (ltb p size && (ltb p h.extent.start || ltb h.extent.last p)) e in
      let y = both (ltb p size) (ltb p h.extent.start || ltb h.extent.last p) x.1 in (
        leb-true h.extent.end p x.0,
        ltb-true p size y.0,
        elim (one (ltb p h.extent.start) (ltb h.extent.last p) y.1)
            [ inl a ↦ inl (ltb-true p h.extent.start a) | inr a ↦ inr (ltb-true h.extent.last p a) ],
      )

  -- it ends in the file; and where p lies before the tree, where that starts
  pub part-is : h.extent.start ≤ size → (part_end h size p ≤ size) × (p < h.extent.start → part_end h size p ≡ h.extent.start)
  unfolding part_end
  part-is l = by (ltb p h.extent.start) refl
    where
      by : (b : Bool) → ltb p h.extent.start ≡ b → ((cond b h.extent.start size) ≤ size) × (p < h.extent.start → (cond b h.extent.start size) ≡ h.extent.start)
      by true t = (l, λ _. refl)
      by false t = (omega arith, λ m. absurd (omega (arith, ltb-false p h.extent.start t)))

-- ---- the rows

all-parts : (C : Part → ℕ → ℕ → Type 0) (es fs : Events) → All C (es ++ fs) → All C es × All C fs
all-parts C [] fs a = (tt, a)
all-parts C (seen κ p ∷ es) fs a = all-parts C es fs a
all-parts C (passed w p n ∷ es) fs a = let (x, y) = all-parts C es fs a.1 in ((a.0, x), y)

module _ (N : OfNames) (lim : Limits) (f : List ℕ) (h : Header) (inside : h.extent.last < length f) (ordered : h.extent.start ≤ h.extent.last) where
  abbrev Shows : Events → Type 0
  Shows log = All (Given N) log → All (Inside N (length f) (length f)).asks log

  one_more_lem : (log log' : Events) (r : Node) → Shows log → Reached lim f h log r log' → Shows log'
  unfolding detached_at
  one_more_lem log log' r s (known x y) = rw y s
  one_more_lem log log' r s (added t y) = rw y λ a.
      let (b, c) = all-parts _ log _ a in
      all-on _ log _ (s b) (detached-shows N (context lim h (length f)) f r.target _ _ _ _ (part-is h (length f) r.target (omega arith)).0 c)

  pub log-shown : {ns : List Node} {is : List Item} (a : ReadAs lim f h ns is) → Shows a.log
  log-shown a =
      let t : Shows (trace (tree_of lim (length f) h) f h.extent.start) = tree-shows N (context lim h (length f)) f h.extent.start (h.extent.last + 1) (omega arith) in
      (followed lim f h (λ i. Shows) (λ i log log' s l. one_more_lem log log' _ s) lim.nodes 0 _ (λ log e. subst Shows (same e) t) a.follows).1
    where
      same : {x y : Events} → good x ≡ good y → x ≡ y
      same e = cc

-- what is known of an accepted file's header
pub header_of_lem : {lim : Limits} {f : List ℕ} {h : Header} {ns : List Node} {is : List Item} (a : ReadAs lim f h ns is)
    → (a.next ≡ h.extent.end) × (a.next ≤ h.extent.start) × (h.extent.start ≤ h.extent.last) × (h.extent.last < length f) × (length f < 2 ^ 28)
header_of_lem {f = f} a = at_end any_free f (header-on (length f)) a.header_is

pub log-shows : (N : OfNames) {lim : Limits} {f : List ℕ} {h : Header} {ns : List Node} {is : List Item} (a : ReadAs lim f h ns is)
    → All (Given N) a.log → All (Inside N (length f) (length f)).asks a.log
log-shows N {lim} {f} {h} a = let w = header_of_lem a in log-shown N lim f h w.3 w.2 a

pub log-inside : {lim : Limits} {f : List ℕ} {h : Header} {ns : List Node} {is : List Item} (a : ReadAs lim f h ns is) → All (Inside Nothing (length f) (length f)).asks a.log
log-inside {f = f} a = log-shows Nothing a (given (Inside Nothing (length f) (length f)) (inside-free (length f) (length f)) a.log)
