-- Bytes and pieces: a list of bytes is parted and written back.
-- Assumes nothing.
use mathlib.Core.Path.{◌≡◌, refl, sym, ap, ap₂, ◌∙◌}
use mathlib.Core.Bool.{Bool, true, false, cond}
use mathlib.Core.List.{List, [], ◌∷◌, ◌++◌, nil≢cons, head-eq_of_cons-eq, tail-eq_of_cons-eq}
use Prim.{Unit, tt}
use Prim.Native.Nat.{ℕ}
use lib.Dec.{eqb}
use borrow.Author.Tests.{eq-eqb, eqb-true}
use Rattle.editions.specs.Sheets.{Lines, Kind, kind, on_first, parted, written, picked, nodes_of, items_of, items_at, named, spread, reordered}

-- no byte c in it
abbrev pub Clean : ℕ → List ℕ → Type 0
Clean c [] = Unit {0}
Clean c (b ∷ w) = (eqb b c ≡ false) × Clean c w

abbrev pub AllClean : ℕ → Lines → Type 0
AllClean c [] = Unit {0}
AllClean c (l ∷ ls) = Clean c l × AllClean c ls

-- ---- one piece

pub piece : (c : ℕ) (w t : List ℕ) → Clean c w → parted c (w ++ c ∷ t) ≡ w ∷ parted c t
unfolding parted
piece c [] t k = rw (eq-eqb c c refl)
piece c (b ∷ w) t (e, k) = rw e (ap (on_first b) (piece c w t k))

pub record Split (c : ℕ) (f w : List ℕ) (rest : Lines) : Type 0 where
  pub tail : List ℕ
  pub whole : f ≡ w ++ c ∷ tail
  pub then : parted c tail ≡ rest

split_on : (c b : ℕ) (f : List ℕ) → ((w x : List ℕ) (rest : Lines) → parted c f ≡ w ∷ x ∷ rest → Split c f w (x ∷ rest)) → (t : Bool) → eqb
    b c ≡ t → (ps : Lines) → parted c f ≡ ps → (w x : List ℕ) (rest : Lines) → cond t ([] ∷ ps) (on_first b ps) ≡ w ∷ x ∷ rest → Split c
    (b ∷ f) w (x ∷ rest)
split_on c b f ih true e ps p w x rest h = record {
  tail = f;
  whole = ap₂ (λ (v : List ℕ) (u : ℕ). v ++ u ∷ f) (head-eq_of_cons-eq h) (eqb-true b c e);
  then = p ∙ tail-eq_of_cons-eq h;
}
split_on c b f ih false e [] p w x rest h = absurd (nil≢cons (tail-eq_of_cons-eq h))
split_on c b f ih false e (t ∷ ts) p w x rest h =
    let r = ih t x rest (p ∙ ap (λ (v : Lines). t ∷ v) (tail-eq_of_cons-eq h)) in
    record {
      tail = r.tail;
      whole = ap (λ (v : List ℕ). b ∷ v) r.whole ∙ ap (λ (v : List ℕ). v ++ c ∷ r.tail) (head-eq_of_cons-eq h);
      then = r.then;
    }

pub split : (c : ℕ) (f w x : List ℕ) (rest : Lines) → parted c f ≡ w ∷ x ∷ rest → Split c f w (x ∷ rest)
unfolding parted
split c [] w x rest h = absurd (nil≢cons (tail-eq_of_cons-eq h))
split c (b ∷ f) w x rest h = split_on c b f (split c f) (eqb b c) refl (parted c f) refl w x rest h

-- nothing but the last piece
last_on : (c b : ℕ) (f : List ℕ) (t : Bool) (ps : Lines) (p : parted c f ≡ ps) → ((parted c f ≡ []) → ⊥) → cond t ([] ∷ ps) (on_first b ps) ≡ [] ∷ [] → ⊥
last_on c b f true ps p n h = n (p ∙ tail-eq_of_cons-eq h)
last_on c b f false [] p n h = n p
last_on c b f false (t ∷ ts) p n h = nil≢cons (sym (head-eq_of_cons-eq h))

some-on : (b : ℕ) (t : Bool) (ps : Lines) → cond t ([] ∷ ps) (on_first b ps) ≡ [] → ⊥
some-on b true ps h = nil≢cons (sym h)
some-on b false [] h = nil≢cons (sym h)
some-on b false (t ∷ ts) h = nil≢cons (sym h)

pub some-piece : (c : ℕ) (f : List ℕ) → parted c f ≡ [] → ⊥
unfolding parted
some-piece c [] h = nil≢cons (sym h)
some-piece c (b ∷ f) h = some-on b (eqb b c) (parted c f) h

last-piece : (c : ℕ) (f : List ℕ) → parted c f ≡ [] ∷ [] → f ≡ []
unfolding parted
last-piece c [] h = refl
last-piece c (b ∷ f) h = absurd (last_on c b f (eqb b c) (parted c f) refl (some-piece c f) h)

-- the pieces are clean
clean_on : (c b : ℕ) (t : Bool) → eqb b c ≡ t → (ps : Lines) → AllClean c ps → AllClean c (cond t ([] ∷ ps) (on_first b ps))
clean_on c b true e ps k = (tt, k)
clean_on c b false e [] k = ((e, tt), tt)
clean_on c b false e (t ∷ ts) (k, m) = ((e, k), m)

pub clean_parted : (c : ℕ) (s : List ℕ) → AllClean c (parted c s)
unfolding parted
clean_parted c [] = (tt, tt)
clean_parted c (b ∷ s) = clean_on c b (eqb b c) refl (parted c s) (clean_parted c s)

-- ---- lines

no-piece : (c : ℕ) → parted c [] ≡ [] ∷ []
unfolding parted
no-piece c = refl

pub written-parted : (ls : Lines) → AllClean 0x0A ls → parted 0x0A (written ls) ≡ ls ++ [] ∷ []
unfolding written
written-parted [] k = no-piece 0x0A
written-parted (l ∷ ls) (k, m) = piece 0x0A l (written ls) k ∙ ap (λ (v : Lines). l ∷ v) (written-parted ls m)

joined-on : (ls : Lines) → (x : List ℕ) × (rest : Lines) × (ls ++ [] ∷ [] ≡ x ∷ rest)
joined-on [] = ([], [], refl)
joined-on (l ∷ ls) = (l, ls ++ [] ∷ [], refl)

pub parted-written : (ls : Lines) (s : List ℕ) → parted 0x0A s ≡ ls ++ [] ∷ [] → written ls ≡ s
unfolding written
parted-written [] s h = sym (last-piece 0x0A s h)
parted-written (l ∷ ls) s h =
    let (x, rest, e) = joined-on ls in
    let r = split 0x0A s l x rest (h ∙ ap (λ (v : Lines). l ∷ v) e) in
    ap (λ (v : List ℕ). l ++ 0x0A ∷ v) (parted-written ls r.tail (r.then ∙ sym e)) ∙ sym r.whole

-- ---- what keeps lines clean

module _ (c : ℕ) where
  pub clean_append : (a b : Lines) → AllClean c a → AllClean c b → AllClean c (a ++ b)
  clean_append [] b k m = m
  clean_append (l ∷ a) b (k, n) m = (k, clean_append a b n m)

  pub clean_left : (a b : Lines) → AllClean c (a ++ b) → AllClean c a
  clean_left [] b k = tt
  clean_left (l ∷ a) b (k, n) = (k, clean_left a b n)

  picked-clean : (p : Kind → Bool) (ls : Lines) → AllClean c ls → AllClean c (picked p ls)
  unfolding picked
  picked-clean p [] k = tt
  picked-clean p (l ∷ ls) (a, b) = by (p (kind l)) (picked-clean p ls b)
    where
      by : (t : Bool) → AllClean c (picked p ls) → AllClean c (cond t (l ∷ picked p ls) (picked p ls))
      by true k = (a, k)
      by false k = k

  spread-clean : (ns all : Lines) → AllClean c ns → AllClean c all → AllClean c (spread ns all)
  unfolding spread
  spread-clean [] all k m = tt
  spread-clean (l ∷ ns) all (a, b) m = (a, clean_append (items_at (named (kind l)) all) (spread ns all) (picked-clean _ all m) (spread-clean ns all b m))

  pub reordered-clean : (e : Bool) (ls : Lines) → AllClean c ls → AllClean c (reordered e ls)
  unfolding reordered
  reordered-clean false ls k = spread-clean (nodes_of ls) ls (picked-clean _ ls k) k
  reordered-clean true ls k = clean_append (nodes_of ls) (items_of ls) (picked-clean _ ls k) (picked-clean _ ls k)
