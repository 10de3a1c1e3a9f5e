-- A node up to its contents spends its bytes so: the three numbers, the metadata, the unpackers, the reference, each from where the one before ends.
-- The places are read off its row and four numbers that are read again.
-- Assumes nothing.
use mathlib.Core.Path.{◌≡◌, refl, ap, ◌∙◌, subst}
use mathlib.Core.Bool.{Bool, true, false, cond, ◌||◌}
use mathlib.Core.List.{List, ◌++◌, append-nil}
use Prim.Native.Nat.{ℕ, ◌+◌, ◌-◌, ◌≤◌, ◌<◌}
use native.Mathlib.Omega.{arith}
use borrow.Author.Tests.{leb-true}
use lib.Dec.{T, eqb}
use Rattle.machine.specs.Machine.{ok, run, trace, ret, ◌>>=◌}
use Rattle.cursor.specs.Rows.{node_frame, meta_frame, item_row, P, Events}
use Rattle.cursor.specs.Leaves.{number, block}
use Rattle.cursor.specs.declared.Node.{Node}
use Rattle.cursor.specs.declared.Item.{Item}
use Rattle.machine.proofs.Laws.{Split, split}
use Rattle.cursor.proofs.Wider.{number-wider}
use Rattle.machine.proofs.Wp.{at_end}
use Rattle.cursor.proofs.Leaves.{number-inside}
use Rattle.metadata.specs.Metadata.{Context, metadata}
use Rattle.metadata.specs.declared.Made.{Made}
use Rattle.metadata.proofs.Uses.{metadata-uses}
use Rattle.metadata.proofs.Ends.{Nothing, inside-free, items-on}
use Rattle.node.specs.Node.{header_length, head, unpackers, reference, Rest, rest, row_of, front}
use Rattle.node.specs.declared.Bounds.{Bounds}
use Rattle.node.specs.declared.Head.{Head}
use Rattle.node.specs.declared.Front.{Front}
use Rattle.node.proofs.Uses.{head-uses, unpackers-use, reference-uses}
use Rattle.node.proofs.Ends.{unpackers-on, head-inside}
use Rattle.file.specs.Hidden.{is_hidden}
use Rattle.account.specs.Account.{kind_of}
use Rattle.account.specs.ByRows.{meta_at, meta_end}
use Rattle.account.proofs.Numbers.{number-ended}
use Rattle.account.proofs.Places.{count}
use Rattle.account.proofs.Spent.{others, spends, spends_none, count-on}
use Rattle.cursor.proofs.Apart.{at_place, at_check, at_ret, block-number}

-- ---- the three numbers, read again

record Numbers (f : List ℕ) (end at : ℕ) (h : Head) (q : ℕ) : Type 0 where
  p₁ : ℕ
  p₂ : ℕ
  first : run (number node_frame 3 end) f at ≡ ok h.size.0 p₁
  second : run (number node_frame 3 end) f p₁ ≡ ok h.contained p₂
  third : run (number node_frame 3 end) f p₂ ≡ ok h.header.0 q

head-numbers : (s : Bounds) (f : List ℕ) (at : ℕ) {h : Head} {q : ℕ} → run (head s) f at ≡ ok h q → Numbers f (at + h.size.0) at h q
unfolding head header_length
head-numbers s f at {h} {q} e =
    let x = split (number node_frame 3 s.end.0) _ f at (at_place f at _ e).0 in
    let c₁ = at_check f x.p _ _ _ _ x.second in let c₂ = at_check f x.p _ _ _ _ c₁.1 in
    let c₃ = at_check f x.p _ _ _ _ c₂.1 in
    let y = split (number node_frame 3 (at + x.a)) _ f x.p c₃.1 in
    let c₄ = at_check f y.p _ _ _ _ y.second in
    let z = split (number node_frame 3 (at + x.a)) _ f y.p (at_place f y.p _ c₄.1).0 in
    let c₅ = at_check f z.p _ _ _ _ (at_place f z.p _ z.second).0 in
    let c₆ = at_check f z.p _ _ _ _ c₅.1 in let r = at_ret f z.p _ c₆.1 in
    let i = number-inside node_frame 3 (at + x.a) f x.p y.first in
    subst (λ v. Numbers f (at + v.size.0) at v q) r.0 (record {
      p₁ = x.p;
      p₂ = y.p;
      first = number-wider node_frame 3 3 s.end.0 (at + x.a) f at x.first (omega arith);
      second = y.first;
      third = subst (λ v. run (number node_frame 3 (at + x.a)) f y.p ≡ ok z.a v) r.1 z.first;
    })

-- ---- the metadata's length, read again

record Meta (f : List ℕ) (at q : ℕ) : Type 0 where
  n : ℕ
  pub p : ℕ
  end : ℕ
  length-is : run (number meta_frame 8 end) f at ≡ ok n p
  ends_at : q ≡ p + n

meta_ends : (x : Context) (node end : ℕ) (m : Made) (f : List ℕ) (at : ℕ) {m' : Made} {q : ℕ} → run (metadata x node end m) f at ≡ ok m' q → Meta f at q
unfolding metadata
meta_ends x node end m f at e =
    let y = split (block meta_frame 8 end) _ f at e in
    let w = at_end (inside-free (y.p + y.a) 0) f (items-on Nothing (y.p + y.a) 0 x node (y.p + y.a) (omega arith) m y.p (omega arith))
    (at_place f y.p _ y.second).0 in
    record { n = y.a; p = y.p; end = end; length-is = block-number f meta_frame 8 end at y.first; ends_at = w.1 }

-- ---- the whole

-- kinds of the metadata: its frames, and visible and hidden data
abbrev pub of_meta : ℕ → Bool
of_meta κ = eqb 2 κ || (eqb 3 κ || eqb 4 κ)

pub item-kind : (t : ℕ → Bool) → T (t 3) → T (t 4) → (r : Item) → T (t (kind_of (item_row r)))
item-kind t a b r = by (is_hidden r)
  where
    by : (c : Bool) → T (t (cond c 4 3))
    by true = b
    by false = a

pub record Spent (f : List ℕ) (r : Node) (q : ℕ) (es : Events) : Type 0 where
  pub frames : r.start + count (eqb 1) es ≡ meta_at f r
  pub metas : meta_at f r + count of_meta es ≡ meta_end f r
  pub unpacks : meta_end f r + count (eqb 5) es ≡ r.start + r.header
  pub refs : r.start + r.header + count (eqb 6) es ≡ q
  pub files : count (eqb 0) es ≡ 0
  pub inlines : count (eqb 7) es ≡ 0

-- ---- the parts

-- what is read last, and then answered
last : {A B : Type 0} (m : P A) (g : A → B) (f : List ℕ) (at : ℕ) {b : B} {q : ℕ} → Split m (λ a. ret (g a)) f at b q → trace (m >>= λ a. ret (g a)) f at ≡ trace m f at
unfolding trace
last m g f at x = x.joined ∙ append-nil (trace m f at)

pub record RestIs (header_end size contained inner stop : ℕ) (f : List ℕ) (at : ℕ) (o : Rest) (q : ℕ) : Type 0 where
  pub p : ℕ
  pub unpacked : run (unpackers contained inner) f at ≡ ok o.unpackers p
  pub reached : inner ≤ p
  pub referred : run (reference header_end size contained stop) f p ≡ ok o.reference q
  pub joined : trace (rest header_end size contained inner stop) f at ≡ trace (unpackers contained inner) f at ++ trace (reference header_end size contained stop) f p

rest-is : (header_end size contained inner stop : ℕ) (f : List ℕ) (at : ℕ) {o : Rest} {q : ℕ} → run
    (rest header_end size contained inner stop) f at ≡ ok o q → RestIs header_end size contained inner stop f at o q
unfolding rest
rest-is header_end size contained inner stop f at {o} {q} e =
    let d = split (unpackers contained inner) _ f at e in let k = at_place f d.p _ d.second in
    let c = at_check f d.p _ _ _ _ k.0 in
    let g = split (reference header_end size contained stop) (λ r. ret (record { unpackers = d.a; reference = r })) f d.p c.1 in
    let r = at_ret f g.p _ g.second in
    record {
      p = d.p;
      unpacked = d.first ∙ ap (λ (v : Rest). ok v.unpackers d.p) r.0;
      reached = leb-true inner d.p c.0;
      referred = g.first ∙ ap (λ (v : Rest). ok v.reference g.p) r.0 ∙ ap (ok o.reference) r.1;
      joined = d.joined ∙ ap (λ v. trace (unpackers contained inner) f at ++ v)
          (k.1 ∙ c.2 ∙ last (reference header_end size contained stop) (λ r. record { unpackers = d.a; reference = r }) f d.p g);
    }

pub record FrontIs (x : Context) (parent depth : ℕ) (s : Bounds) (m : Made) (f : List ℕ) (at : ℕ) (w : Front) (q : ℕ) : Type 0 where
  pub h : Head
  pub p : ℕ
  pub headed : run (head s) f at ≡ ok h p
  pub m' : Made
  pub p' : ℕ
  pub told : run (metadata x m.nodes (at + h.header.0) m) f p ≡ ok m' p'
  pub o : Rest
  pub left : RestIs x.header_end x.size h.contained (at + h.header.0) (at + h.size.0) f p' o q
  pub row_is : row_of at h parent depth s.detached o.reference o.unpackers (m'.items - m.items) ≡ w.row
  pub joined : trace (front x parent depth s m) f at
      ≡ trace (head s) f at ++ (trace (metadata x m.nodes (at + h.header.0) m) f p ++ trace
      (rest x.header_end x.size h.contained (at + h.header.0) (at + h.size.0)) f p')

pub front-is : (x : Context) (parent depth : ℕ) (s : Bounds) (m : Made) (f : List ℕ) (at : ℕ) {w : Front} {q : ℕ} → run
    (front x parent depth s m) f at ≡ ok w q → FrontIs x parent depth s m f at w q
unfolding front
front-is x parent depth s m f at {w} {q} e =
    let k = at_place f at _ e in let a = split (head s) _ f at k.0 in
    let b = split (metadata x m.nodes (at + a.a.header.0) m) _ f a.p a.second in
    let c = split (rest x.header_end x.size a.a.contained (at + a.a.header.0) (at + a.a.size.0))
    (λ o. ret (record { row = row_of at a.a parent depth s.detached o.reference o.unpackers (b.a.items - m.items); made = b.a })) f b.p b.second in
    let r = at_ret f c.p _ c.second in
    record {
      h = a.a;
      p = a.p;
      headed = a.first;
      m' = b.a;
      p' = b.p;
      told = b.first;
      o = c.a;
      left = rest-is x.header_end x.size a.a.contained (at + a.a.header.0) (at + a.a.size.0) f b.p (c.first ∙ ap (ok c.a) r.1);
      row_is = ap (λ (v : Front). v.row) r.0;
      joined =
          let z = last (rest x.header_end x.size a.a.contained (at + a.a.header.0) (at + a.a.size.0))
          (λ o. record { row = row_of at a.a parent depth s.detached o.reference o.unpackers (b.a.items - m.items); made = b.a }) f b.p c in
          k.1 ∙ a.joined ∙ ap (λ v. trace (head s) f at ++ v) (b.joined ∙ ap (λ v. trace (metadata x m.nodes (at + a.a.header.0) m) f a.p ++ v) z);
    }

-- ---- where they are, by the row

pub record Ordered (x : Context) (parent depth : ℕ) (s : Bounds) (m : Made) (f : List ℕ) (at : ℕ) (w : Front) (q : ℕ) : Type 0 where
  pub is : FrontIs x parent depth s m f at w q
  pub begins : w.row.start ≡ at
  pub meta_at : meta_at f w.row ≡ is.p
  pub meta_end : meta_end f w.row ≡ is.p'
  pub header-end : w.row.start + w.row.header ≡ is.left.p
  pub apart : (is.p < is.p') × (is.p' < is.left.p)

pub front_ordered : (x : Context) (parent depth : ℕ) (s : Bounds) (m : Made) (f : List ℕ) (at : ℕ) {w : Front} {q : ℕ} → run
    (front x parent depth s m) f at ≡ ok w q → Ordered x parent depth s m f at w q
unfolding meta_at meta_end
front_ordered x parent depth s m f at {w} {q} e =
    let y = front-is x parent depth s m f at e in let h = y.h in let inner = at + h.header.0 in
    let stop = at + h.size.0 in let n = head-numbers s f at y.headed in
    let t = meta_ends x m.nodes inner m f y.p y.told in
    let l = y.left in let i = head-inside s f at y.headed in
    let u = at_end (inside-free 0 0) f (unpackers-on Nothing 0 0 h.contained inner y.p') l.unpacked in
    let v = l.reached in let k = t.ends_at in
    let b = number-inside meta_frame 8 t.end f y.p t.length-is in
    let again = number-wider meta_frame 8 3 t.end stop f y.p t.length-is (omega arith) in
    let row = row_of at h parent depth s.detached y.o.reference y.o.unpackers (y.m'.items - m.items) in
    let e₁ = number-ended f node_frame 3 stop at n.first in
    let e₂ = number-ended f node_frame 3 stop n.p₁ n.second in
    let e₃ = number-ended f node_frame 3 stop n.p₂ n.third in
    let r₁ : meta_at f row ≡ y.p = rw (e₁, e₂, e₃) refl in
    let r₂ : meta_end f row ≡ y.p' = rw (e₁, e₂, e₃, again) (omega arith) in
    record {
      is = y;
      begins = subst (λ (v : Node). v.start ≡ at) y.row_is refl;
      meta_at = subst (λ (v : Node). meta_at f v ≡ y.p) y.row_is r₁;
      meta_end = subst (λ (v : Node). meta_end f v ≡ y.p') y.row_is r₂;
      header-end = subst (λ (v : Node). v.start + v.header ≡ l.p) y.row_is (omega arith);
      apart = (omega arith, omega arith);
    }

-- ---- what they spend

pub front-spends : (x : Context) (parent depth : ℕ) (s : Bounds) (m : Made) (f : List ℕ) (at : ℕ) {w : Front} {q : ℕ} → run (front x parent depth s m) f at ≡ ok w q
    → Spent f w.row q (trace (front x parent depth s m) f at)
front-spends x parent depth s m f at {w} {q} e =
    let z = front_ordered x parent depth s m f at e in let y = z.is in let l = y.left in let h = y.h in
    let inner = at + h.header.0 in let stop = at + h.size.0 in let meta = metadata x m.nodes inner m in
    let unpack = unpackers h.contained inner in
    let refer = reference x.header_end x.size h.contained stop in
    let others-of = rest x.header_end x.size h.contained inner stop in
    let i = z.begins in let j = z.meta_at in let k = z.meta_end in let n = z.header-end in
    let sum : (t : ℕ → Bool) → count t (trace (front x parent depth s m) f at)
    ≡ count t (trace (head s) f at) + (count t (trace meta f y.p) + (count t (trace unpack f y.p') + count t (trace refer f l.p))) =
    λ t. omega (
      arith,
      ap (count t) y.joined,
      count-on t (trace (head s) f at) (trace meta f y.p ++ trace others-of f y.p'),
      count-on t (trace meta f y.p) (trace others-of f y.p'),
      ap (count t) l.joined,
      count-on t (trace unpack f y.p') (trace refer f l.p),
    ) in
    let no-head : (t : ℕ → Bool) → T (others t 1) → count t (trace (head s) f at) ≡ 0 = λ t a. spends_none t {m = head s} (head-uses a s) f at in
    let no-meta : (t : ℕ → Bool) → T (others t 2) → T (others t 3) → T (others t 4) → count t (trace meta f y.p) ≡ 0 =
    λ t a b c. spends_none t {m = meta} (metadata-uses a a (item-kind (others t) b c) x m.nodes inner m) f y.p in
    let no-unpackers : (t : ℕ → Bool) → T (others t 5) → count t (trace unpack f y.p') ≡ 0 = λ t a. spends_none t {m = unpack}
    (unpackers-use a h.contained inner) f y.p' in
    let no-reference : (t : ℕ → Bool) → T (others t 6) → count t (trace refer f l.p) ≡ 0 =
    λ t a. spends_none t {m = refer} (reference-uses a a x.header_end x.size h.contained stop) f l.p in
    record {
      frames =
          let a = spends (eqb 1) (head-uses tt s) f at y.headed in
          omega (arith, sum (eqb 1), no-meta (eqb 1) tt tt tt, no-unpackers (eqb 1) tt, no-reference (eqb 1) tt);
      metas =
          let a = spends of_meta (metadata-uses tt tt (item-kind of_meta tt tt) x m.nodes inner m) f y.p y.told in
          omega (arith, sum of_meta, no-head of_meta tt, no-unpackers of_meta tt, no-reference of_meta tt);
      unpacks =
          let a = spends (eqb 5) (unpackers-use tt h.contained inner) f y.p' l.unpacked in
          omega (arith, sum (eqb 5), no-head (eqb 5) tt, no-meta (eqb 5) tt tt tt, no-reference (eqb 5) tt);
      refs =
          let a = spends (eqb 6) (reference-uses tt tt x.header_end x.size h.contained stop) f l.p l.referred in
          omega (arith, sum (eqb 6), no-head (eqb 6) tt, no-meta (eqb 6) tt tt tt, no-unpackers (eqb 6) tt);
      files = omega (arith, sum (eqb 0), no-head (eqb 0) tt, no-meta (eqb 0) tt tt tt, no-unpackers (eqb 0) tt, no-reference (eqb 0) tt);
      inlines = omega (arith, sum (eqb 7), no-head (eqb 7) tt, no-meta (eqb 7) tt tt tt, no-unpackers (eqb 7) tt, no-reference (eqb 7) tt);
    }
