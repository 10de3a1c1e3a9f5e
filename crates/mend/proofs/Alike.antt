-- Demand 3 of the mended file: two files that differ at private places of the first one's mended file alone are mended alike, and the mended files differ exactly where the files do.
-- Assumes nothing.
use mathlib.Core.Path.{◌≡◌, refl, sym, ap, ◌∙◌, subst}
use mathlib.Core.Logic.{inl, inr}
use mathlib.Core.List.{List, [], ◌∷◌, ◌++◌}
use Prim.Native.Nat.{ℕ, zero, suc, ◌+◌, ◌≤◌, ◌<◌}
use native.Mathlib.Decide.{dec_lt}
use native.Mathlib.Omega.{arith}
use lib.ListN.{length, get_or}
use borrow.Author.Tests.{eq-eqb}
use Rattle.machine.specs.Machine.{Event, seen, passed, ok, run, trace, rows_of}
use Rattle.cursor.specs.Rows.{node_row, item_row, plain, Events}
use Rattle.cursor.specs.declared.Node.{Node}
use Rattle.cursor.specs.declared.Item.{Item}
use Rattle.machine.proofs.Stable.{Chain, end_of, Covers, Separate, chain, ends, depends}
use Rattle.machine.proofs.Agree.{AgreeUpTo}
use Rattle.machine.proofs.Wp.{All}
use Rattle.header.specs.Header.{Header, header}
use Rattle.metadata.specs.declared.Limits.{Limits}
use Rattle.metadata.proofs.Ends.{Nothing, Inside}
use Rattle.rows.specs.Rows.{nodes_of, items_of}
use Rattle.file.specs.Reading.{rows, read_file}
use Rattle.file_laws.specs.Private.{HiddenData, InlineData, Private, DifferInPrivate}
use Rattle.tree.proofs.Nodes.{inline_is}
use Rattle.file.proofs.Follow.{read_back}
use Rattle.file.proofs.Shown.{header_of_lem, log-inside}
use Rattle.file_laws.proofs.Demand.{all_sound, demand3}
use Rattle.mend.specs.Fields.{Fields, fields, Hold}
use Rattle.mend.specs.Mend.{set_to, last_of, mended, lines_of, changes, accepted}
use Rattle.mend.proofs.Parts.{Parts, Judged, places, fields-parts, parts_fields, header_for, parts_header, valued, valued-parts}
use Rattle.mend.proofs.Values.{set-length, where_is, set_out, set-valued, set-agree}
use Rattle.mend.proofs.Exact.{Right, right}
use Rattle.mend.proofs.Theorem.{mended-set, mended-is, mended-sound}

-- ---- no place of the header is private

-- events that lie end to end have each byte between
between_covered : {K W : Type 0} (es : List (Event K W)) (at k : ℕ) → Chain at es → at ≤ k → k < end_of at es → Covers es k
between_covered [] at k c l m = absurd (omega arith)
between_covered (seen κ p ∷ es) at k c l m = elim (dec_lt k (at + 1)) [ yes i ↦ inl (omega arith) | no i ↦ inr (between_covered es (at + 1) k c.1 (omega arith) m) ]
between_covered (passed w p n ∷ es) at k c l m = elim (dec_lt k (at + n)) [ yes i ↦ inl (omega arith) | no i ↦ inr (between_covered es (at + n) k c.1 (omega arith) m) ]

covers-behind : {K W : Type 0} (es fs : List (Event K W)) (k : ℕ) → Covers fs k → Covers (es ++ fs) k
covers-behind [] fs k x = x
covers-behind (e ∷ es) fs k x = inr (covers-behind es fs k x)

none-twice : {K W : Type 0} (es fs : List (Event K W)) (k : ℕ) → Separate (es ++ fs) → Covers es k → Covers fs k → ⊥
none-twice [] fs k s x y = elim x [ ]
none-twice (e ∷ es) fs k s (inl x) y = s.0 k x (covers-behind es fs k y)
none-twice (e ∷ es) fs k s (inr x) y = none-twice es fs k s.1 x y

-- hidden data and inline data are bytes of the log
hidden_covered : (es : Events) (end size k : ℕ) → All (Inside Nothing end size).asks es → HiddenData (items_of es) k → Covers es k
unfolding rows_of
hidden_covered [] end size k a (i, l, t, lo, hi) = absurd (omega arith)
hidden_covered (seen κ p ∷ es) end size k a h = inr (hidden_covered es end size k a h)
hidden_covered (passed (node_row r) p n ∷ es) end size k a h = inr (hidden_covered es end size k a.1 h)
hidden_covered (passed (item_row r) p n ∷ es) end size k a (zero, l, t, lo, hi) = let x = a.0.0 in let y = a.0.1 in inl (omega arith, omega arith)
hidden_covered (passed (item_row r) p n ∷ es) end size k a (suc i, l, t, lo, hi) = inr (hidden_covered es end size k a.1 (i, omega arith, t, lo, hi))
hidden_covered (passed (plain x) p n ∷ es) end size k a h = inr (hidden_covered es end size k a.1 h)

inline_covered : (es : Events) (end size k : ℕ) → All (Inside Nothing end size).asks es → InlineData (nodes_of es) k → Covers es k
unfolding rows_of
inline_covered [] end size k a (i, l, z, o, lo, hi) = absurd (omega arith)
inline_covered (seen κ p ∷ es) end size k a h = inr (inline_covered es end size k a h)
inline_covered (passed (node_row r) p n ∷ es) end size k a (zero, l, z, o, lo, hi) =
    let e = a.0.4 (simp (eq-eqb _ _ z, eq-eqb _ _ o) tt) in
    let y : n ≡ r.extent = a.0.3 ∙ inline_is r z o in
    inl (omega arith, omega arith)
inline_covered (passed (node_row r) p n ∷ es) end size k a (suc i, l, z, o, lo, hi) = inr (inline_covered es end size k a.1 (i, omega arith, z, o, lo, hi))
inline_covered (passed (item_row r) p n ∷ es) end size k a h = inr (inline_covered es end size k a.1 h)
inline_covered (passed (plain x) p n ∷ es) end size k a h = inr (inline_covered es end size k a.1 h)

header-public : (lim : Limits) (f : List ℕ) {h : Header} {ns : List Node} {is : List Item} → read_file lim f ≡ rows h ns is → (k : ℕ) → k < h.extent.end → Private h ns is k → ⊥
header-public lim f {h} {ns} {is} e k l =
    let a = read_back lim f e in let es = trace (header (length f)) f 0 in
    let z = ends (header (length f)) f 0 a.header_is in let w = header_of_lem a in
    let c = between_covered es 0 k (chain (header (length f)) f 0) (omega arith) (omega arith) in
    let twice = none-twice es a.log k (all_sound lim f h a).apart c in
    elim [
      | inl x ↦ twice (hidden_covered a.log (length f) (length f) k (log-inside a) (subst (λ v. HiddenData v k) (sym a.items-are) x))
      | inr (inl x) ↦ twice (inline_covered a.log (length f) (length f) k (log-inside a) (subst (λ v. InlineData v k) (sym a.nodes-are) x))
      | inr (inr x) ↦ x (inl l)
    ]

-- ---- both are mended alike

pub record MendedAlike (lim : Limits) (h : Header) (ns : List Node) (is : List Item) (f g : List ℕ) : Type 0 where
  pub reads : read_file lim (mended g) ≡ rows h ns is
  pub differ : DifferInPrivate h ns is (mended f) (mended g)
  pub lines : changes g ≡ changes f
  pub only-there : (k : ℕ) → k < length f → get_or f k 0 ≡ get_or g k 0 → get_or (mended f) k 0 ≡ get_or (mended g) k 0
  pub there : (k : ℕ) → k < length f → get_or (mended f) k 0 ≡ get_or (mended g) k 0 → get_or f k 0 ≡ get_or g k 0

same-header : {x y : Header} {p q : ℕ} → ok x p ≡ ok y q → x ≡ y
same-header e = cc

module _ (lim : Limits) (f g : List ℕ) {h : Header} {ns : List Node} {is : List Item} {w : Fields} (x : Parts (length f) f w)
    (hold : Hold w (length f) (last_of f w)) (judged : Judged (length f) (valued w (length f) (last_of f w)))
    (e : read_file lim (set_to f w (length f) (last_of f w)) ≡ rows h ns is) (d : DifferInPrivate h ns is f g) where
  abbrev copy₁ : List ℕ
  copy₁ = set_to f w (length f) (last_of f w)

  abbrev copy₂ : List ℕ
  copy₂ = set_to g w (length f) (last_of f w)

  header-was : h ≡ header_for w (last_of f w)
  header-was =
      let l = set-length f w (length f) (last_of f w) in let r = (read_back lim copy₁ e).header_is in
      same-header (sym (subst (λ k. run (header k) copy₁ 0 ≡ ok h (read_back lim copy₁ e).next) l r) ∙ parts_header (length f) copy₁
      (valued-parts (length f) f copy₁ x (set-valued (places (length f) f x) f refl (length f) (last_of f w) hold)) judged)

  -- the header is the same
  head-same : AgreeUpTo f g 0 w.last.end
  head-same k lo hi =
      let i = (places (length f) f x).inside in
      d.elsewhere k (omega arith) (header-public lim copy₁ e k (subst (λ (v : Header). k < v.extent.end) (sym header-was) hi))

  same_parts : Parts (length g) g w
  same_parts = (fields-parts (length g) g
      (subst (λ k. run (fields k) g 0 ≡ ok w w.last.end) d.same_length
      (depends (fields (length f)) f g 0 (parts_fields (length f) f x) head-same))).0

  copies_differ : DifferInPrivate h ns is copy₁ copy₂
  copies_differ =
      let l = set-length f w (length f) (last_of f w) in
      record {
        same_length = l ∙ d.same_length ∙ sym (set-length g w (length f) (last_of f w));
        elsewhere = λ k m o. set-agree (places (length f) f x) f g refl (sym d.same_length) (length f) (last_of f w) k (λ _. d.elsewhere k (omega arith) o);
      }

  copy-reads : read_file lim copy₂ ≡ rows h ns is
  copy-reads = demand3 lim copy₁ copy₂ e copies_differ ∙ e

  -- so the right values of the one are the other's
  values_same : Right g w (length f) (last_of f w)
  values_same = right lim g same_parts copy₂ (set-length g w (length f) (last_of f w)) (set-valued (places (length g) g same_parts) g refl (length f) (last_of f w) hold) copy-reads

  second : mended g ≡ copy₂
  second = mended-set g same_parts ∙ rw (← values_same.long, ← values_same.last) refl

  pub alike : MendedAlike lim h ns is f g
  unfolding changes lines_of
  alike =
      let z = places (length f) f x in let first = mended-set f x in let long = sym d.same_length in
      record {
        reads = rw second copy-reads;
        differ = rw (first, second) copies_differ;
        lines = rw (parts_fields (length f) f x, parts_fields (length g) g same_parts, ← values_same.long, ← values_same.last) refl;
        only-there = λ k l s. rw (first, second) (set-agree z f g refl long (length f) (last_of f w) k (λ _. s));
        there = λ k l s. elim (where_is z k) [
          | inl o ↦ sym (set_out z f refl (length f) (last_of f w) k o) ∙ rw (first, second) at s ∙ set_out z g long (length f) (last_of f w) k o
          | inr (inl i) ↦ head-same k (omega arith) (omega (arith, z.types-some, z.start-some, z.last_some, i.1))
          | inr (inr i) ↦ head-same k (omega arith) i.1
        ];
      }

pub mended-alike : (lim : Limits) (f g : List ℕ) {h : Header} {ns : List Node} {is : List Item} → read_file lim (mended f) ≡ rows h ns is →
    DifferInPrivate h ns is f g → MendedAlike lim h ns is f g
mended-alike lim f g e d =
    let a = ap accepted e in let m = mended-is lim f a in let x = (fields-parts (length f) f m.reads).0 in
    let s = mended-sound lim f x a in
    alike lim f g x s.holds (record { long = refl; after = s.after; ordered = s.ordered; inside = s.inside }) (rw (mended-set f x) at e) d
