-- The ways out of the question: what each exit of the code comes to, answer and both tables.
-- Assumes nothing.
use mathlib.Core.Path.{◌≡◌, sym, ap, ◌∙◌}
use mathlib.Core.Bool.{Bool, true, false, not}
use mathlib.Core.Logic.{◌⊎◌, inl, inr}
use mathlib.Core.List.{List}
use Prim.Native.Nat.{ℕ, ◌+◌, ◌*◌, ◌≤◌, ◌<◌}
use lib.ListN.{length, replicate}
use Rattle.std.proofs.lemmas.Bool.{false≢true}
use borrow.Author.Tests.{lt-ltb, le-ltb, not-true, not-false}
use Rattle.machine.specs.Machine.{run}
use Rattle.std.proofs.Common.{Ok, Err}
use Rattle.std.proofs.Common as std
use Rattle.std.specs.Result.{is_err}
use Rattle.refusals.specs.Reasons.{number_of}
use Rattle.refusals.specs.declared.Refusal.{Refusal}
use Rattle.cursor.specs.declared.Item.{Item}
use Rattle.rows.specs.Rows.{item_width, item_from, items_in, ItemRows}
use Rattle.metadata.specs.Tables.{limits}
use Rattle.file.specs.Reading.{read_file, read_of, node_table, item_table}
use Rattle.file.specs.Asking.{Result, bad}
use Rattle.file.specs.declared.Summary.{Summary}
use Rattle.rows.proofs.Rows.{item-at, items-in_length}
use Rattle.file.proofs.Rows.{Standing, standing}
use Rattle.file.proofs.Exits.{Says, says-unread, says-refused, says-answer}
use Rattle.file.proofs.Own.{item-rows}
use Rattle.description.specs.Row.{is_field, is_binary, is_description}
use Rattle.description.specs.Description.{description}
use Rattle.description.specs.Count.{data_read, count_of, count_in, count_row, count_for}
use Rattle.description.specs.Told.{told}

-- ---- one row

module _ (f : List ℕ) (channel resource : ℕ) (x : Item) where
  abbrev In : Result ℕ → Type 0
  In a = a ≡ count_in f channel resource x

  module _ {b : Bool} (e : b ≡ is_field 13 x) where
    pub row_other : not b ≡ true → In (bad 23 0)
    unfolding count_in is_description
    row_other t = let w : is_field 13 x ≡ false = sym e ∙ not-true b t in simp w

    module _ (t : not b ≡ false) {c : Bool} (k : c ≡ is_binary x) where
      pub row-text : not c ≡ true → In (bad 23 0)
      unfolding count_in is_description
      row-text u = let w : is_field 13 x ≡ true = sym e ∙ not-false b t in let y : is_binary x ≡ false = sym k ∙ not-true c u in simp (w, y)

      pub row_count : not c ≡ false → {a : Result ℕ} → a ≡ count_of channel resource (run (description (x.place + x.size)) f x.place) → In a
      unfolding count_in is_description data_read
      row_count u h = let w : is_field 13 x ≡ true = sym e ∙ not-false b t in let y : is_binary x ≡ true = sym k ∙ not-false c u in simp (w, y) h

module _ (f ws : List ℕ) (count row channel resource : ℕ) where
  pub row-none : count ≤ row → bad 18 0 ≡ count_row f row channel resource (items_in count ws)
  unfolding count_row
  row-none l = simp (items-in_length, le-ltb _ _ l)

  pub row-there : row < count → {x : Item} → x ≡ item_from ws (row * item_width) → {a : Result ℕ} → a ≡ count_in f channel resource x → a ≡
      count_row f row channel resource (items_in count ws)
  unfolding count_row
  row-there l e k = simp (items-in_length, lt-ltb _ _ l, item-at ws count row l) (k ∙ ap (count_in f channel resource) e)

-- ---- the question

-- the answer, and both tables
abbrev pub Ends : (f : List ℕ) (nsize isize row channel resource : ℕ) → Result ℕ → (t u : List ℕ) → Type 0
Ends f nsize isize row channel resource a t u = Says nsize isize (read_file (limits nsize isize) f) (count_for row channel resource f) a t u

module _ (f : List ℕ) (nsize isize row channel resource : ℕ) {r : std.Result Summary Refusal} {t u : List ℕ} (e : told r ≡ read_of (read_file (limits nsize isize) f))
    (a : t ≡ node_table nsize (read_file (limits nsize isize) f)) (b : u ≡ item_table isize (read_file (limits nsize isize) f)) where
  pub ends_unread : {x : Refusal} → r ≡ Err x → Ends f nsize isize row channel resource (bad (number_of x.0) x.1) t u
  ends_unread k = says-unread nsize isize _ (count_for row channel resource f) e k a b

  module _ {s : Summary} (k : r ≡ Ok s) where
    stands : Standing f (read_file (limits nsize isize) f) s t u
    stands = standing f (limits nsize isize) nsize isize e a b k

    pub rows_inside : ItemRows (length f) s.items u
    rows_inside = item-rows stands

    -- the tables are kept, or cleared where the count is refused
    pub ends_counted : (x : std.Result ℕ Refusal) → told x ≡ count_row f row channel resource (items_in s.items u) → {t' u' : List ℕ} →
        ((is_err x ≡ true) × (t' ≡ replicate nsize 0) × (u' ≡ replicate isize 0)) ⊎ ((is_err x ≡ false) × (t' ≡ t) × (u' ≡ u)) →
        Ends f nsize isize row channel resource (told x) t' u'
    unfolding count_for
    ends_counted x y = by x (counted y)
      where
        counted : {q : Result ℕ} → q ≡ count_row f row channel resource (items_in s.items u) → count_for row channel resource f stands.h stands.ns stands.is ≡ q
        counted y = sym (y ∙ ap (count_row f row channel resource) stands.items-are)

        by : (x : std.Result ℕ Refusal) → count_for row channel resource f stands.h stands.ns stands.is ≡ told x → {t' u' : List ℕ} →
            ((is_err x ≡ true) × (t' ≡ replicate nsize 0) × (u' ≡ replicate isize 0)) ⊎ ((is_err x ≡ false) × (t' ≡ t) × (u' ≡ u)) →
            Ends f nsize isize row channel resource (told x) t' u'
        by (Err z) q (inl (h, c, d)) = says-refused nsize isize _ (count_for row channel resource f) stands.reads q c d
        by (Err z) q (inr (h, c, d)) = absurd (false≢true (sym h))
        by (Ok n) q (inl (h, c, d)) = absurd (false≢true h)
        by (Ok n) q (inr (h, c, d)) = says-answer nsize isize _ (count_for row channel resource f) stands.reads q (c ∙ a) (d ∙ b)
