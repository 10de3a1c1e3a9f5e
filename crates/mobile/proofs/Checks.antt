-- The later checks, the verdict and the question's answer, from what the code's calls give.
-- Assumes nothing.
use mathlib.Core.Path.{◌≡◌, sym, ap, ap₂, ◌∙◌}
use mathlib.Core.Bool.{Bool, true, false, not, ◌&&◌}
use mathlib.Core.List.{List}
use Prim.Native.Nat.{ℕ, ◌+◌, ◌*◌, ◌≤◌, ◌<◌}
use lib.Dec.{ltb, eqb}
use borrow.Author.Tests.{not-true, not-false}
use Rattle.cursor.specs.declared.Node.{Node}
use Rattle.cursor.specs.declared.Item.{Item}
use Rattle.header.specs.Header.{Header}
use Rattle.rows.specs.Rows.{item_width, nodes_in, items_in, item_from, item_at}
use Rattle.file.specs.Reading.{Reading, summary, node_table, item_table}
use Rattle.file.specs.Asking.{good}
use Rattle.file.specs.Own.{those, part}
use Rattle.file.specs.declared.Summary.{Summary}
use Rattle.rows.proofs.Rows.{item-at, items-in_length}
use Rattle.file.proofs.Rows.{Standing}
use Rattle.file.proofs.Exits.{Says, says-answer}
use Rattle.file.proofs.Own.{part-all}
use Rattle.description.specs.Row.{is_field}
use Rattle.mobile.specs.Mobile.{all, is_empty, right_edition, files_only, plain_references, no_unpackers, is_need, are_needs, small_fields, check, verdict, mobile}
use Rattle.mobile.specs.Pass.{children, one_tune_of, tune_needs_of, later_by, later, verdict_by}
use Rattle.mobile.specs.Told.{NextRow}
use Rattle.mobile.proofs.Counts.{by_pass}
use Rattle.mobile.specs.declared.Children.{Children}
use Rattle.mobile.specs.declared.Few.{Few}
use Rattle.mobile.specs.declared.Few.TheVariants as few

-- ---- check 6

module _ (ts ks : Few) where
  pub tunes_none : ts ≡ few.None → false ≡ one_tune_of ts ks
  unfolding one_tune_of
  tunes_none e = rw e

  pub tunes_more : ts ≡ few.More → false ≡ one_tune_of ts ks
  unfolding one_tune_of
  tunes_more e = rw e

  module _ {t : ℕ} (e : ts ≡ few.One t) where
    pub tune_alone : ks ≡ few.None → true ≡ one_tune_of ts ks
    unfolding one_tune_of
    tune_alone h = rw (e, h)

    pub tune_after : {k : ℕ} → ks ≡ few.One k → ltb k t ≡ one_tune_of ts ks
    unfolding one_tune_of
    tune_after h = rw (e, h)

    pub tune_beside : ks ≡ few.More → false ≡ one_tune_of ts ks
    unfolding one_tune_of
    tune_beside h = rw (e, h)

-- ---- check 7

module _ (f : List ℕ) (tune : ℕ) (ws : List ℕ) (m : ℕ) where
  abbrev needs : ℕ → List Item
  needs from = those (is_field 13) (part (items_in m ws) from m)

  abbrev whole : Bool
  whole = are_needs f tune (those (is_field 13) (items_in m ws))

  all-needs : those (is_field 13) (items_in m ws) ≡ needs 0
  all-needs = ap (those (is_field 13)) (sym (part-all (items_in m ws) m (items-in_length ws m)))

  -- what is left at row i, of field 13, or at the end
  pub record NeedsLeft (i : ℕ) : Type 0 where
    pub here : i < m → whole ≡ (is_need f tune (item_at (items_in m ws) i) && all (is_need f tune) (needs (i + 1)))
    pub none : m ≤ i → whole ≡ true

  pub needs-none : {i : ℕ} → NextRow 13 (items_in m ws) 0 m i → m ≤ i → false ≡ whole
  unfolding are_needs is_empty
  needs-none a l = sym (ap (are_needs f tune) (all-needs ∙ a.none l))

  needs-from : {from i : ℕ} → NextRow 13 (items_in m ws) from m i → whole ≡ all (is_need f tune) (needs from) → NeedsLeft i
  unfolding all
  needs-from a h = record { here = λ l. h ∙ ap (all (is_need f tune)) (a.here l); none = λ l. h ∙ ap (all (is_need f tune)) (a.none l) }

  pub needs-begin : {i : ℕ} → NextRow 13 (items_in m ws) 0 m i → i < m → NeedsLeft i
  unfolding are_needs is_empty
  needs-begin a l = needs-from a (ap (are_needs f tune) (all-needs ∙ a.here l) ∙ ap (all (is_need f tune)) (sym (a.here l)))

  module _ {i : ℕ} (h : NeedsLeft i) (l : i < m) {r : Item} (e : r ≡ item_from ws (i * item_width)) {b : Bool} (k : b ≡ is_need f tune r) where
    step : whole ≡ (b && all (is_need f tune) (needs (i + 1)))
    step = h.here l ∙ ap (λ x. x && all (is_need f tune) (needs (i + 1))) (ap (is_need f tune) (item-at ws m i l ∙ sym e) ∙ sym k)

    pub needs-no : b ≡ false → false ≡ whole
    needs-no t = sym (step ∙ ap (λ x. x && all (is_need f tune) (needs (i + 1))) t)

    pub needs-on : b ≡ true → {j : ℕ} → NextRow 13 (items_in m ws) (i + 1) m j → NeedsLeft j
    needs-on t a = needs-from a (step ∙ ap (λ x. x && all (is_need f tune) (needs (i + 1))) t)

module _ (f : List ℕ) (ts : Few) (is : List Item) where
  pub needs-of_none : ts ≡ few.None → false ≡ tune_needs_of f ts is
  unfolding tune_needs_of
  needs-of_none e = rw e

  pub needs-of_more : ts ≡ few.More → false ≡ tune_needs_of f ts is
  unfolding tune_needs_of
  needs-of_more e = rw e

  pub needs-of_one : {t : ℕ} → ts ≡ few.One t → {b : Bool} → b ≡ are_needs f t (those (is_field 13) is) → b ≡ tune_needs_of f ts is
  unfolding tune_needs_of
  needs-of_one e h = rw e h

-- ---- the verdict: the first check that fails

pub stop : (n later : ℕ) {b d : Bool} → b ≡ d → not b ≡ true → n ≡ check n d later
unfolding check
stop n later {b} e t = sym (ap (λ x. check n x later) (sym e ∙ not-true b t))

pub skip : (n : ℕ) {later r : ℕ} {b d : Bool} → b ≡ d → not b ≡ false → r ≡ later → r ≡ check n d later
unfolding check
skip n {later} {r} {b} e t k = k ∙ sym (ap (λ x. check n x later) (sym e ∙ not-false b t))

-- c is what the code says of the children
pub later-by : (f : List ℕ) (ns : List Node) (is : List Item) {c : Children} → c ≡ children f ns is
    → {r : ℕ} → r ≡ check 5 c.typed (check 6 (one_tune_of c.tunes c.instruments) (check 7 (tune_needs_of f c.tunes is) (check 8 (small_fields ns is) 0)))
    → r ≡ later f ns is
unfolding later_by
later-by f ns is e t = t ∙ ap (λ (c : Children). later_by f c ns is) e

-- b is what the code says of the header
pub verdict-by : (f : List ℕ) (h : Header) (ns : List Node) (is : List Item) {s : Summary} → s ≡ summary h ns is
    → {b : Bool} → b ≡ (eqb s.version 200 && (eqb s.edition.kind 2 && eqb s.edition.revision 1))
    → {r : ℕ} → r ≡ check 1 b (check 2 (files_only ns) (check 3 (plain_references ns) (check 4 (no_unpackers ns) (later f ns is))))
    → r ≡ verdict f h ns is
unfolding verdict_by right_edition
verdict-by f h ns is e k t =
    let d = k ∙ ap (λ (x : Summary). eqb x.version 200 && (eqb x.edition.kind 2 && eqb x.edition.revision 1)) e in
    (rw d at t) ∙ by_pass f h ns is

-- ---- the answer

module _ {f : List ℕ} {o : Reading} {s : Summary} {t u : List ℕ} (st : Standing f o s t u) where
  module _ {v : ℕ} (h : (h : Header) → s ≡ summary h (nodes_in s.nodes t) (items_in s.items u) → v ≡ verdict f h (nodes_in s.nodes t) (items_in s.items u)) where
    answer : mobile f st.h st.ns st.is ≡ good v
    unfolding mobile
    answer =
        let e : s ≡ summary st.h (nodes_in s.nodes t) (items_in s.items u) = st.summed ∙ sym (ap₂ (summary st.h) st.nodes-are st.items-are) in
        sym (ap (λ x. good x) (h st.h e ∙ ap₂ (verdict f st.h) st.nodes-are st.items-are))

    pub judged : (nsize isize : ℕ) → t ≡ node_table nsize o → u ≡ item_table isize o → Says nsize isize o (mobile f) (good v) t u
    judged nsize isize a b = says-answer nsize isize o (mobile f) st.reads answer a b
