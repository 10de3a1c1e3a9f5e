-- Marks that are painted over: a span, spans one after the other, and the rows of a table. At the end each mark is the kind of its place.
-- Assumes nothing.
use Rattle.std.proofs.Common.{Ok, Err}
use Rattle.std.proofs.Common as std
use mathlib.Core.Path.{◌≡◌, refl, sym, ap, ap₂, ◌∙◌, subst}
use mathlib.Core.List.{List, ◌++◌}
use Prim.Native.Nat.{ℕ, zero, suc, ◌+◌, ◌*◌, ◌-◌, ◌≤◌, ◌<◌, ◌%◌, min, max}
use native.Mathlib.Decide.{dec_le, dec_lt}
use native.Mathlib.Nat.{lt_of_not-le}
use native.Mathlib.Omega.{arith}
use borrow.Author.Tests.{le-leb, lt-leb, lt-ltb, le-ltb, eq-eqb, ne_eqb}
use lib.ListN.{length, get_or, take, replicate, set, length-set}
use lib.Seq.{get_or-set_same, get_or-set_other, get_or-take, length-take-le, ext_get_or}
use Rattle.cursor.specs.Rows.{inline_size, Events}
use Rattle.refusals.specs.Reasons.{number_of}
use Rattle.refusals.specs.declared.Refusal.{Refusal}
use Rattle.cursor.specs.declared.Node.{Node}
use Rattle.cursor.specs.declared.Item.{Item}
use Rattle.rows.specs.Rows.{node_width, item_width, rows_from, node_from, item_from, nodes_in, items_in}
use Rattle.metadata.specs.Tables.{limits}
use Rattle.room.specs.Counts.{too_many}
use Rattle.room.specs.Room.{Result, good, bad, padded, fitting, counted, kept}
use Rattle.refusals.specs.Told.{told}
use Rattle.file.specs.Hidden.{is_hidden}
use Rattle.file.specs.Reading.{Reading, read_file, read_of, node_table, item_table}
use Rattle.file.specs.Asking.{ask, kept_nodes, kept_items}
use Rattle.file.specs.declared.Summary.{Summary}
use Rattle.file.proofs.Rows.{Standing, standing}
use Rattle.file.proofs.Exits as exits
use Rattle.account.specs.Account.{kind_at, kinds_from, events_of}
use Rattle.account.specs.ByRows.{meta_at, meta_end, contents_at, folded}
use Rattle.account.specs.ByPlace.{over_node, over_item, kind_by_rows}
use Rattle.account.specs.Marks.{marks_of, Shows, Becomes, spanned}
use Rattle.account.proofs.Folding.{Folding, folding_begun, folding_on, folding_done}
use Rattle.account.proofs.ByPlace.{by_place}

-- ---- a span

module _ (m : ℕ → ℕ) (from to kind : ℕ) {k : ℕ} where
  in_span : from ≤ k → k < to → spanned from to kind m k ≡ kind
  unfolding spanned
  in_span l h = simp (le-leb _ _ l, lt-ltb _ _ h)

  before-span : k < from → spanned from to kind m k ≡ m k
  unfolding spanned
  before-span l = simp (lt-leb _ _ l)

  behind-span : from ≤ k → to ≤ k → spanned from to kind m k ≡ m k
  unfolding spanned
  behind-span l h = simp (le-leb _ _ l, le-ltb _ _ h)

-- two spans say the same of a place that is in both or in neither, if what is below says the same
same_span : (m m' : ℕ → ℕ) (from to to' kind k : ℕ) → m k ≡ m' k → (from ≤ k → k < to → k < to') → (from ≤ k → k < to' → k < to) → spanned
    from to kind m k ≡ spanned from to' kind m' k
same_span m m' from to to' kind k e a b = elim (dec_le from k) [
  | yes l ↦ elim (dec_lt k to) [
    | yes h ↦ in_span m from to kind l h ∙ sym (in_span m' from to' kind l (a l h))
    | no h ↦ behind-span m from to kind l (omega arith) ∙ e ∙ sym (behind-span m' from to' kind l (behind l h))
  ]
  | no l ↦ (let l' : k < from = lt_of_not-le l in before-span m from to kind l' ∙ e ∙ sym (before-span m' from to' kind l'))
]
  where
    behind : from ≤ k → (k < to → ⊥) → to' ≤ k
    behind l n = elim (dec_lt k to') [ yes y ↦ absurd (n (b l y)) | no y ↦ omega arith ]

-- ---- a loop that marks the places from `from` on, so far up to `at`

pub record Filling (t : List ℕ) (from kind at : ℕ) (t' : List ℕ) : Type 0 where
  pub begun : from ≤ at
  pub same : length t' ≡ length t
  pub marks : (k : ℕ) → k < length t → get_or t' k 0 ≡ spanned from at kind (λ k. get_or t k 0) k

module _ (t : List ℕ) (from kind : ℕ) where
  abbrev was : ℕ → ℕ
  was k = get_or t k 0

  pub filling_none : Filling t from kind from t
  filling_none = record {
    begun = omega arith;
    same = refl;
    marks = λ k l. elim (dec_le from k) [ yes h ↦ sym (behind-span was from from kind h h) | no h ↦ sym (before-span was from from kind (lt_of_not-le h)) ];
  }

  pub filling_more : (at : ℕ) (t' : List ℕ) → at < length t' → Filling t from kind at t' → Filling t from kind (at + 1) (set t' at kind)
  filling_more at t' l w = let b = w.begun in record {
    begun = omega arith;
    same = length-set t' at kind ∙ w.same;
    marks = λ k h. elim (dec_lt k at) [
      | yes x ↦ other k h (λ e. omega arith)
      | no x ↦ elim (dec_lt at k) [
        | yes y ↦ other k h (λ e. omega arith)
        | no y ↦ (
            let e : k ≡ at = omega arith in
            ap (λ i. get_or (set t' at kind) i 0) e ∙ get_or-set_same t' at kind 0 l ∙ sym (in_span was from (at + 1) kind (omega arith) (omega arith)))
      ]
    ];
  }
    where
      other : (k : ℕ) → k < length t → (k ≡ at → ⊥) → get_or (set t' at kind) k 0 ≡ spanned from (at + 1) kind was k
      other k h n = get_or-set_other t' at k kind 0 n ∙ w.marks k h ∙ same_span was was from at (at + 1) kind k refl (λ x y. omega arith) (λ x y. omega arith)

  pub filling_all : (at to : ℕ) (t' : List ℕ) → at ≤ max from (min to (length t)) → min to (length t) ≤ at → Filling t from kind at t' → Becomes t t' (spanned from to kind)
  filling_all at to t' u l w = let b = w.begun in let s = w.same in record {
    same = w.same;
    shows = λ m h k i. let j : k < length t = omega arith in w.marks k j ∙ same_span was m from at to kind k (h k j) (λ x y. omega arith) (λ x y. omega arith);
  }

-- ---- changes one after the other

pub becomes_then : {t t₁ t₂ : List ℕ} {a b : (ℕ → ℕ) → ℕ → ℕ} → Becomes t t₁ a → Becomes t₁ t₂ b → Becomes t t₂ (λ m. b (a m))
becomes_then {a = a} x y = record { same = y.same ∙ x.same; shows = λ m h. y.shows (a m) (x.shows m h) }

-- an end that is past every mark
pub past : {t t' : List ℕ} (from to kind : ℕ) → length t < too_many → Becomes t t' (spanned from (min to too_many) kind) → Becomes t t' (spanned from to kind)
past from to kind l x = let s = x.same in record {
  same = x.same;
  shows = λ m h k i. x.shows m h k i ∙ same_span m m from (min to too_many) to kind k refl (λ y z. omega arith) (λ y z. omega arith);
}

module _ (f : List ℕ) (r : Node) where
  pub node-spans : {t t₁ t₂ t₃ t₄ t₅ : List ℕ} {a b c : ℕ} → a ≡ meta_at f r → b ≡ meta_end f r → c ≡ contents_at r → Becomes t t₁
      (spanned r.start a 1) → Becomes t₁ t₂ (spanned a b 2)
      → Becomes t₂ t₃ (spanned b (r.start + r.header) 5) → Becomes t₃ t₄ (spanned (r.start + r.header) c 6) → Becomes t₄ t₅
      (spanned c (c + inline_size r) 7) → Becomes t t₅ (λ m. over_node f m r)
  unfolding folded spanned
  node-spans ea eb ec v w x y z = rw (← ea, ← eb, ← ec) (becomes_then (becomes_then (becomes_then (becomes_then v w) x) y) z)

module _ (r : Item) {t t' : List ℕ} where
  pub hidden_span : r.format % 2 ≡ 1 → Becomes t t' (spanned r.place (r.place + r.size) 4) → Becomes t t' (λ m. over_item m r)
  unfolding is_hidden spanned
  hidden_span e x = rw (eq-eqb (r.format % 2) 1 e) x

  pub visible-span : ((r.format % 2 ≡ 1) → ⊥) → Becomes t t' (spanned r.place (r.place + r.size) 3) → Becomes t t' (λ m. over_item m r)
  unfolding is_hidden spanned
  visible-span e x = rw (ne_eqb (r.format % 2) 1 e) x

-- ---- a loop over the rows of a table

module _ {A : Type 0} (add : (ℕ → ℕ) → A → ℕ → ℕ) (width : ℕ) (row : List ℕ → ℕ → A) (ws : List ℕ) (n : ℕ) (t : List ℕ) where
  pub record Painting (i : ℕ) (t' : List ℕ) : Type 0 where
    pub same : length t' ≡ length t
    pub reached : (m : ℕ → ℕ) → Shows t m → (m' : ℕ → ℕ) × Folding add width row ws n m i m' × Shows t' m'

  pub painting_begun : Painting 0 t
  painting_begun = record { same = refl; reached = λ m h. (m, folding_begun add width row ws n m, h) }

  pub painting_on : {i : ℕ} {t₁ t₂ : List ℕ} → i < n → Painting i t₁ → {r : A} → r ≡ row ws (i * width) → Becomes t₁ t₂ (λ m. add m r) → Painting (i + 1) t₂
  painting_on l w {r} e x = record {
    same = x.same ∙ w.same;
    reached = λ m h. let (m', g, s) = w.reached m h in (add m' r, folding_on add width row ws n m l g e refl, x.shows m' s);
  }

  pub painting_done : {i : ℕ} {t' : List ℕ} → n ≤ i → Painting i t' → Becomes t t' (λ m. folded add m (rows_from width row 0 n ws))
  painting_done {t' = t'} l w = record { same = w.same; shows = λ m h. let (m', g, s) = w.reached m h in subst (Shows t') (folding_done add width row ws n m l g) s }

pub nodes-painted : (f ws : List ℕ) (n : ℕ) {t t' : List ℕ} {i : ℕ} → n ≤ i → Painting (over_node f) node_width node_from ws n t i t' → Becomes
    t t' (λ m. folded (over_node f) m (nodes_in n ws))
unfolding nodes_in
nodes-painted f ws n l w = painting_done (over_node f) node_width node_from ws n _ l w

pub items-painted : (ws : List ℕ) (n : ℕ) {t t' : List ℕ} {i : ℕ} → n ≤ i → Painting over_item item_width item_from ws n t i t' → Becomes t t' (λ m. folded over_item m (items_in n ws))
unfolding items_in
items-painted ws n l w = painting_done over_item item_width item_from ws n _ l w

-- ---- all marks

pub all-painted : (f : List ℕ) (end : ℕ) (ns : List Node) (is : List Item) {t t₁ t₂ t₃ t₄ : List ℕ} → Becomes t t₁ (spanned 0 (length t) 8) → Becomes t₁ t₂ (spanned 0 end 0)
    → Becomes t₂ t₃ (λ m. folded (over_node f) m ns) → Becomes t₃ t₄ (λ m. folded over_item m is) → Shows t₄ (kind_by_rows f end ns is)
unfolding spanned
all-painted f end ns is {t} {t₁} w x y z =
    let s = w.same in
    let none : Shows t₁ (λ k. 8) = λ k l. w.shows (λ k. get_or t k 0) (λ k l. refl) k l ∙ in_span (λ k. get_or t k 0) 0 (length t) 8 {k = k} (omega arith) (omega arith) in
    z.shows _ (y.shows _ (x.shows (λ k. 8) none))

kinds-length : (es : Events) (k n : ℕ) → length (kinds_from es k n) ≡ n
unfolding kinds_from
kinds-length es k zero = refl
kinds-length es k (suc n) = ap suc (kinds-length es (k + 1) n)

kinds-at : (es : Events) (k n i : ℕ) → i < n → get_or (kinds_from es k n) i 0 ≡ kind_at es (k + i)
unfolding kinds_from
kinds-at es k zero i l = absurd (omega arith)
kinds-at es k (suc n) zero l = let e : k + 0 ≡ k = omega arith in ap (kind_at es) (sym e)
kinds-at es k (suc n) (suc i) l = let e : k + 1 + i ≡ k + suc i = omega arith in kinds-at es (k + 1) n i (omega arith) ∙ ap (kind_at es) e

-- marks that are the kinds of their places are what the file's places are in order, and zeros
marks_are : (es : Events) (size : ℕ) (t : List ℕ) → size ≤ length t → ((k : ℕ) → k < size → get_or t k 0 ≡ kind_at es k) → {t' : List ℕ} → t' ≡
    take size t ++ replicate (length t - size) 0
    → t' ≡ padded (length t) (kinds_from es 0 size)
unfolding padded
marks_are es size t l h e =
    let n = length-take-le size t l in let z = kinds-length es 0 size in
    let same : take size t ≡ kinds_from es 0 size = ext_get_or 0 _ _ (n ∙ sym z)
    (λ i m. let j : i < size = omega arith in let o : 0 + i ≡ i = omega arith in get_or-take size t i 0 j ∙ h i j ∙ ap (kind_at es) (sym o) ∙
    sym (kinds-at es 0 size i j)) in
    e ∙ rw (same, z)

-- ---- the ways out of the call: the reader's refusal, too few marks, and the marks

fitting-good : (room : ℕ) (w : List ℕ) → length w ≤ room → fitting room (good w) ≡ good w
unfolding fitting
fitting-good room w l = simp (le-leb (length w) room l)

fitting-bad : (room : ℕ) (w : List ℕ) → room < length w → fitting room (good w) ≡ bad 22 0
unfolding fitting
fitting-bad room w l = simp (lt-leb (length w) room l)

module _ (f : List ℕ) (nsize isize room : ℕ) where
  abbrev o : Reading
  o = read_file (limits nsize isize) f

  abbrev asked : Result (List ℕ)
  asked = ask o (marks_of (limits nsize isize) room f)

  -- the answer, both tables, and the marks
  abbrev pub Ends : Result ℕ → (u v marks : List ℕ) → Type 0
  Ends a u v marks = (a ≡ counted asked) × ((u ≡ kept_nodes nsize o asked) × ((v ≡ kept_items isize o asked) × (marks ≡ kept room asked)))

  ends_by : {a : Result ℕ} {x : Result (List ℕ)} {u v marks : List ℕ} → exits.Says nsize isize o (marks_of (limits nsize isize) room f) x u v →
      a ≡ counted x → marks ≡ kept room x → Ends a u v marks
  ends_by w e z = (e ∙ ap counted w.0, (w.1, (w.2, z ∙ ap (kept room) w.0)))

  module _ {r : std.Result Summary Refusal} {u v : List ℕ} (e : told r ≡ read_of o) (a : u ≡ node_table nsize o) (b : v ≡ item_table isize o) where
    pub ends_unread : {q : Refusal} → r ≡ Err q → {marks : List ℕ} → marks ≡ replicate room 0 → Ends (bad (number_of q.0) q.1) u v marks
    unfolding counted kept
    ends_unread k z = ends_by (exits.says-unread nsize isize o (marks_of (limits nsize isize) room f) e k a b) refl z

    module _ {s : Summary} (k : r ≡ Ok s) where
      st : Standing f o s u v
      st = standing f (limits nsize isize) nsize isize e a b k

      abbrev es : Events
      es = events_of (limits nsize isize) f st.h

      pub ends_few : room < length f → {u' v' marks : List ℕ} → u' ≡ replicate nsize 0 → v' ≡ replicate isize 0 → marks ≡ replicate room 0 → Ends (bad 22 0) u' v' marks
      unfolding counted kept marks_of
      ends_few l x y z =
          let c = kinds-length es 0 (length f) in
          ends_by (exits.says-refused nsize isize o (marks_of (limits nsize isize) room f) st.reads (fitting-bad room _ (omega arith)) x y) refl z

      pub ends_marked : length f ≤ room → (t : List ℕ) → length t ≡ room → Shows t (kind_by_rows f s.header_end.0 (nodes_in s.nodes u) (items_in s.items v))
          → {marks : List ℕ} → marks ≡ take (length f) t ++ replicate (length t - length f) 0 → Ends (good (length f)) u v marks
      unfolding counted kept marks_of
      ends_marked l t n w c =
          let z = kinds-length es 0 (length f) in
          let at : (i : ℕ) → i < length f → get_or t i 0 ≡ kind_at es i = λ i h. w i (omega arith)
          ∙ ap (λ (y : Summary). kind_by_rows f y.header_end.0 (nodes_in s.nodes u) (items_in s.items v) i) st.summed
          ∙ ap₂ (λ (ns : List Node) (is : List Item). kind_by_rows f st.h.extent.end ns is i) st.nodes-are st.items-are ∙ sym
          (by_place (limits nsize isize) f st.reads i) in
          let y = marks_are es (length f) t (omega arith) at c in
          ends_by (exits.says-answer nsize isize o (marks_of (limits nsize isize) room f) st.reads (fitting-good room _ (omega arith)) a b)
          (ap good (sym z)) (y ∙ ap (λ v. padded v (kinds_from es 0 (length f))) n)

-- zeros of a length that was kept
pub zeros : {n m : ℕ} {t : List ℕ} → t ≡ replicate m 0 → m ≡ n → t ≡ replicate n 0
zeros e l = e ∙ ap (λ n. replicate n 0) l
