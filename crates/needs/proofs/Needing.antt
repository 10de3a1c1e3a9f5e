-- The counts of content descriptions, as the code comes to them.
-- Assumes nothing.
use mathlib.Core.Path.{◌≡◌, refl, sym, ap, ◌∙◌}
use mathlib.Core.Bool.{Bool, true, false}
use mathlib.Core.List.{List, [], ◌∷◌, ◌++◌, append_assoc, append-nil}
use Prim.Native.Nat.{ℕ, zero, suc, ◌+◌, ◌*◌, ◌-◌, ◌/◌, ◌%◌, ◌≤◌, ◌<◌}
use native.Mathlib.Omega.{arith}
use lib.ListN.{length, length-append, replicate}
use borrow.Author.Tests.{le-leb, lt-leb, eq-eqb, ne_eqb}
use Rattle.machine.specs.Machine.{Out, ok, refused, run}
use Rattle.cursor.specs.Rows.{meta_frame}
use Rattle.cursor.specs.Leaves.{number}
use Rattle.machine.proofs.Laws.{running, and_then}
use Rattle.std.proofs.Common as std
use Rattle.std.proofs.Common.{Ok, Err}
use Rattle.refusals.specs.Reasons.{number_of}
use Rattle.refusals.specs.declared.Refusal.{Refusal}
use Rattle.cursor.specs.declared.Item.{Item}
use Rattle.metadata.specs.Tables.{full_nodes, full_items, limits}
use Rattle.rows.specs.Rows.{item_width, item_from, items_in, item_at, rows_from}
use Rattle.room.specs.Room.{Result, good, bad}
use Rattle.room.specs.Counts.{Counts, too_many}
use Rattle.room.proofs.Counting.{counts-none, counts-then, counts-as}
use Rattle.file.specs.Reading.{read_file}
use Rattle.file.specs.Hidden.{is_hidden}
use Rattle.file.specs.Asking.{ask}
use Rattle.file.specs.declared.Summary.{Summary}
use Rattle.file.proofs.Rows.{Standing}
use Rattle.text.specs.Text as text
use Rattle.description.specs.Row.{is_description}
use Rattle.description.specs.Description.{numbers, lists, table, description}
use Rattle.description.specs.Count.{data_read, count_in}
use Rattle.lines.specs.Answer.{Answer, plainly, nothing, refused_by, fitted, printed, reads, Gives}
use Rattle.needs.specs.Needed.{described, count_line, count_lines, needs_in, item_needs, row_needs, both, needs_from, needs, needs_answer, answers, shown_needs, shown_count, of_row, Puts}
use Rattle.refusals.specs.declared.Reason.TheVariants as reason
use Rattle.lines.proofs.Ending.{padded-none, printed-bad}
use Rattle.lines.proofs.Reading.{known, count-is as items-count, row_is}

pub count-is : (row channel resource count : ℕ) → (0x43 ∷ []) ++ text.number row ++ text.number channel ++ text.number resource ++
    text.number count ++ (0x0A ∷ []) ≡ count_line row channel resource count
unfolding count_line
count-is row channel resource count = refl

-- ---- a fault of a field

module _ {A : Type 0} {B : Type 0} (tells : std.Result A Refusal → B) {q r : std.Result A Refusal} {y : B} (t : tells q ≡ y) (d : r ≡ described q) where
  pub described-good : {a : A} → r ≡ Ok a → y ≡ tells (Ok a)
  described-good {a} e = by q refl (sym d ∙ e)
    where
      by : (p : std.Result A Refusal) → q ≡ p → described p ≡ Ok a → y ≡ tells (Ok a)
      by (Ok b) k h = sym t ∙ ap tells (k ∙ h)
      by (Err x) k h = cc

  pub described-bad : {e : Refusal} → r ≡ Err e → (k : Refusal) × (y ≡ tells (Err k)) × (e ≡ record { 0 = reason.BadDescription; 1 = k.1 })
  described-bad {e} h = by q refl (sym d ∙ h)
    where
      by : (p : std.Result A Refusal) → q ≡ p → described p ≡ Err e → (k : Refusal) × (y ≡ tells (Err k)) × (e ≡ record { 0 = reason.BadDescription; 1 = k.1 })
      by (Ok b) k h = cc
      by (Err x) k h = (x, sym t ∙ ap tells k, cc)

-- ---- the count table, number after number

-- what was read before, and the numbers that are left
abbrev behind : List ℕ → Out (List ℕ) → Out (List ℕ)
behind done (ok vs q) = ok (done ++ vs) q
behind done (refused n p) = refused n p

none-behind : (o : Out (List ℕ)) → behind [] o ≡ o
none-behind (ok vs q) = refl
none-behind (refused n p) = refl

run-numbers : (f : List ℕ) (end n at : ℕ) → run (numbers (suc n) end) f at ≡ and_then (run (number meta_frame 3 end) f at) (λ v q. behind (v ∷ []) (run (numbers n end) f q))
unfolding numbers
run-numbers f end n at = simp running (by (run (number meta_frame 3 end) f at))
  where
    rest : (v : ℕ) (o : Out (List ℕ)) → and_then o (λ vs p. ok (v ∷ vs) p) ≡ behind (v ∷ []) o
    rest v (ok vs q) = refl
    rest v (refused m p) = refl

    by : (o : Out ℕ) → and_then o (λ v q. and_then (run (numbers n end) f q) (λ vs p. ok (v ∷ vs) p)) ≡ and_then o (λ v q. behind (v ∷ []) (run (numbers n end) f q))
    by (ok v q) = rest v (run (numbers n end) f q)
    by (refused m p) = refl

more-behind : (done : List ℕ) (v : ℕ) (o : Out (List ℕ)) → behind done (behind (v ∷ []) o) ≡ behind (done ++ (v ∷ [])) o
more-behind done v (ok vs q) = ap (λ w. ok w q) (sym (append_assoc done (v ∷ []) vs))
more-behind done v (refused n p) = refl

lines_more : (row resources j : ℕ) (xs : List ℕ) (v : ℕ) → count_lines row resources j (xs ++ (v ∷ [])) ≡ count_lines row resources j xs ++
    count_line row ((j + length xs) / resources) ((j + length xs) % resources) v
unfolding count_lines
lines_more row resources j [] v = let z : j + 0 ≡ j = omega arith in rw (z, append-nil)
lines_more row resources j (x ∷ xs) v =
    let z : j + 1 + length xs ≡ j + suc (length xs) = omega arith in
    let w = lines_more row resources (j + 1) xs v in
    ap (λ u. count_line row (j / resources) (j % resources) x ++ u) (rw z at w) ∙ sym
    (append_assoc (count_line row (j / resources) (j % resources) x) (count_lines row resources (j + 1) xs)
    (count_line row ((j + suc (length xs)) / resources) ((j + suc (length xs)) % resources) v))

-- of `count` numbers from `from` on, i were read, up to `at`, and their lines were put
pub record Listing (f : List ℕ) (end count from row resources : ℕ) (o o' : List ℕ) (to next i at : ℕ) : Type 0 where
  pub done : List ℕ
  pub many : length done ≡ i
  pub same : run (numbers count end) f from ≡ behind done (run (numbers (count - i) end) f at)
  pub puts : Counts o o' to (count_lines row resources 0 done) next

pub some : (a b i : ℕ) → i < a * b → 1 ≤ b
some a zero i l = let z : a * 0 ≡ 0 = omega arith in absurd (omega arith)
some a (suc b) i l = omega arith

pub listing_begun : (f : List ℕ) (end count from row resources : ℕ) (o : List ℕ) (to : ℕ) → to ≤ too_many → Listing f end count from row resources o o to to 0 from
unfolding count_lines
listing_begun f end count from row resources o to l = let e : count - 0 ≡ count = omega arith in record
    { done = []; many = refl; same = rw e (sym (none-behind (run (numbers count end) f from))); puts = counts-none o l }

module _ {f : List ℕ} {end from : ℕ} (channels resources row : ℕ) {o : List ℕ} {to : ℕ} where
  module _ {o' : List ℕ} {next i at : ℕ} (g : Listing f end (channels * resources) from row resources o o' to next i at) where
    module _ (l : i < channels * resources) where
      first : run (numbers (channels * resources - i) end) f at ≡ and_then (run (number meta_frame 3 end) f at)
          (λ v q. behind (v ∷ []) (run (numbers (channels * resources - (i + 1)) end) f q))
      first = let e : channels * resources - i ≡ suc (channels * resources - (i + 1)) = omega arith in rw e (run-numbers f end (channels * resources - (i + 1)) at)

      pub listing_cut : {n p : ℕ} → run (number meta_frame 3 end) f at ≡ refused n p → needs_in row (run (table channels resources end) f from) ≡ bad 25 p
      unfolding table needs_in
      listing_cut {n} {p} e =
          let w : run (numbers (channels * resources - i) end) f at ≡ refused n p = first ∙ rw e refl in
          let x : run (numbers (channels * resources) end) f from ≡ refused n p = g.same ∙ rw w refl in
          simp (running, x)

      pub listing_on : {v q : ℕ} → run (number meta_frame 3 end) f at ≡ ok v q → {o'' : List ℕ} {r : ℕ} → Counts o' o'' next (count_line row (i / resources) (i % resources) v) r
          → Listing f end (channels * resources) from row resources o o'' to r (i + 1) q
      listing_on {v} {q} e p =
          let w : run (numbers (channels * resources - i) end) f at ≡ behind (v ∷ []) (run (numbers (channels * resources - (i + 1)) end) f q) = first ∙ rw e refl in
          let x = g.many in
          let y = length-append g.done (v ∷ []) in
          let z : 0 + length g.done ≡ i = omega arith in let lm = lines_more row resources 0 g.done v in
          record {
            done = g.done ++ (v ∷ []);
            many = omega arith;
            same = g.same ∙ rw w (more-behind g.done v (run (numbers (channels * resources - (i + 1)) end) f q));
            puts = counts-as (sym (rw z at lm)) (counts-then g.puts p);
          }

    module _ (l : channels * resources ≤ i) where
      all : run (numbers (channels * resources) end) f from ≡ ok g.done at
      unfolding numbers
      all =
          let e : channels * resources - i ≡ 0 = omega arith in
          let w : run (numbers (channels * resources - i) end) f at ≡ ok [] at = rw e (simp running) in
          g.same ∙ rw w (ap (λ v. ok v at) (append-nil g.done))

      pub listing_left : at < end → needs_in row (run (table channels resources end) f from) ≡ bad 25 at
      unfolding table needs_in
      listing_left h = simp (running, all, lt-leb _ _ h)

      pub listing_done : end ≤ at → needs_in row (run (table channels resources end) f from) ≡ good (count_lines row resources 0 g.done)
      unfolding table needs_in
      listing_done h = simp (running, all, le-leb _ _ h)

-- ---- the whole item

module _ (end : ℕ) (f : List ℕ) (at row : ℕ) where
  abbrev Whole : Result (List ℕ) → Type 0
  Whole a = needs_in row (run (description end) f at) ≡ a

  pub whole-message : {n p : ℕ} → run (number meta_frame 3 end) f at ≡ refused n p → Whole (bad 25 p)
  unfolding description needs_in
  whole-message e = simp (running, e)

  module _ {message q : ℕ} (e₁ : run (number meta_frame 3 end) f at ≡ ok message q) where
    pub whole-channels : {n p : ℕ} → run (number meta_frame 3 end) f q ≡ refused n p → Whole (bad 25 p)
    unfolding description needs_in
    whole-channels e = simp (running, e₁, e)

    module _ {channels r : ℕ} (e₂ : run (number meta_frame 3 end) f q ≡ ok channels r) where
      pub whole-resources : {n p : ℕ} → run (number meta_frame 3 end) f r ≡ refused n p → Whole (bad 25 p)
      unfolding description needs_in
      whole-resources e = simp (running, e₁, e₂, e)

      module _ {resources s : ℕ} (e₃ : run (number meta_frame 3 end) f r ≡ ok resources s) where
        pub whole-lists : {n p : ℕ} → run (lists resources end) f s ≡ refused n p → Whole (bad 25 p)
        unfolding description needs_in
        whole-lists e = simp (running, e₁, e₂, e₃, e)

        pub whole-table : {t : ℕ} → run (lists resources end) f s ≡ ok tt t → Whole (needs_in row (run (table channels resources end) f t))
        unfolding description
        whole-table e = simp (running, e₁, e₂, e₃, e)

-- ---- what was put

pub puts-as : (o o' : List ℕ) (to : ℕ) {x y : Result (List ℕ)} (r : std.Result ℕ Refusal) → x ≡ y → Puts o o' to x r → Puts o o' to y r
puts-as o o' to r e p = rw e at p

module _ (o o' : List ℕ) (to : ℕ) (x : Result (List ℕ)) (p : std.Result ℕ Refusal) (h : Puts o o' to x p) where
  pub puts-bad : {e : Refusal} → p ≡ Err e → (x ≡ bad (number_of e.0) e.1) × (length o' ≡ length o)
  puts-bad e = rw e at h

  pub puts-good : {r : ℕ} → p ≡ Ok r → (w : List ℕ) × (x ≡ good w) × Counts o o' to w r
  puts-good e = rw e at h

-- ---- the rows one after the other

-- what was put, of the rows before, and the rows from row i on
pub record Needing (o o' : List ℕ) (next : ℕ) (whole rest : Result (List ℕ)) : Type 0 where
  pub done : List ℕ
  pub puts : Counts o o' 0 done next
  pub left : whole ≡ both (good done) rest

both-none : (x : Result (List ℕ)) → both (good []) x ≡ x
unfolding both
both-none (good a) = refl
both-none (bad n p) = refl

both-more : (a b : List ℕ) (x : Result (List ℕ)) → both (good a) (both (good b) x) ≡ both (good (a ++ b)) x
unfolding both
both-more a b (good c) = ap good (sym (append_assoc a b c))
both-more a b (bad n p) = refl

-- the rows from row i on
abbrev rest : (f ws : List ℕ) → (count i : ℕ) → Result (List ℕ)
rest f ws count i = needs_from f i (rows_from item_width item_from i (count - i) ws)

module _ (f ws : List ℕ) (count : ℕ) where
  pub needing-start : (o : List ℕ) → Needing o o 0 (needs_from f 0 (items_in count ws)) (rest f ws count 0)
  unfolding items_in
  needing-start o = let e : count - 0 ≡ count = omega arith in record
      { done = []; puts = counts-none o (omega arith); left = rw e (sym (both-none (needs_from f 0 (rows_from item_width item_from 0 count ws)))) }

  module _ {o o' : List ℕ} {next i : ℕ} {whole : Result (List ℕ)} (g : Needing o o' next whole (rest f ws count i)) where
    module _ (l : i < count) {r : Item} (z : r ≡ item_from ws (i * item_width)) where
      next_row : rest f ws count i ≡ both (row_needs f i r) (rest f ws count (i + 1))
      unfolding needs_from rows_from
      next_row = let e : count - i ≡ suc (count - (i + 1)) = omega arith in rw (e, z)

      pub needing-no : {m q : ℕ} → row_needs f i r ≡ bad m q → whole ≡ bad m q
      unfolding both
      needing-no e = g.left ∙ rw (next_row, e)

      pub needing-on : {w : List ℕ} → row_needs f i r ≡ good w → {o'' : List ℕ} {next' : ℕ} → Counts o' o'' next w next' → Needing o o'' next' whole (rest f ws count (i + 1))
      needing-on {w} e p = record { done = g.done ++ w; puts = counts-then g.puts p; left = g.left ∙ rw (next_row, e) (both-more g.done w (rest f ws count (i + 1))) }

    pub needing-end : count ≤ i → whole ≡ good g.done
    unfolding needs_from rows_from both
    needing-end l = let e : count - i ≡ 0 = omega arith in g.left ∙ rw e (ap good (append-nil g.done))

-- ---- the tests of a row

pub hidden_is : (r : Item) → r.format % 2 ≡ 1 → is_hidden r ≡ true
unfolding is_hidden
hidden_is r e = eq-eqb (r.format % 2) 1 e

pub visible-is : (r : Item) → (r.format % 2 ≡ 1 → ⊥) → is_hidden r ≡ false
unfolding is_hidden
visible-is r n = ne_eqb (r.format % 2) 1 n

module _ (f : List ℕ) (row : ℕ) (r : Item) where
  pub row-hidden : r.format % 2 ≡ 1 → row_needs f row r ≡ good []
  unfolding row_needs
  row-hidden e = rw (hidden_is r e)

  pub needs-hidden : r.format % 2 ≡ 1 → shown_needs f row r ≡ good nothing
  unfolding shown_needs
  needs-hidden e = rw (hidden_is r e)

  module _ (v : r.format % 2 ≡ 1 → ⊥) {b : Bool} (d : b ≡ is_description r) where
    pub row_other : b ≡ false → row_needs f row r ≡ good []
    unfolding row_needs
    row_other k = rw (visible-is r v, sym d ∙ k)

    pub row_told : b ≡ true → needs_in row (run (description (r.place + r.size)) f r.place) ≡ row_needs f row r
    unfolding row_needs item_needs data_read
    row_told k = rw (visible-is r v, sym d ∙ k)

    pub needs-other : b ≡ false → shown_needs f row r ≡ bad 23 0
    unfolding shown_needs
    needs-other k = rw (visible-is r v, sym d ∙ k)

    pub needs-told : b ≡ true → shown_needs f row r ≡ answers plainly (needs_in row (run (description (r.place + r.size)) f r.place))
    unfolding shown_needs item_needs data_read
    needs-told k = rw (visible-is r v, sym d ∙ k)

  module _ (channel resource : ℕ) where
    pub count-hidden : r.format % 2 ≡ 1 → shown_count f row channel resource r ≡ good nothing
    unfolding shown_count
    count-hidden e = rw (hidden_is r e)

    module _ (v : r.format % 2 ≡ 1 → ⊥) where
      pub count-bad : {m p : ℕ} → count_in f channel resource r ≡ bad m p → shown_count f row channel resource r ≡ bad m p
      unfolding shown_count answers
      count-bad e = rw (visible-is r v, e)

      pub count-good : {n : ℕ} → count_in f channel resource r ≡ good n → shown_count f row channel resource r ≡ good (plainly (count_line row channel resource n))
      unfolding shown_count answers
      count-good e = rw (visible-is r v, e)

pub nothing-given : (room : ℕ) {t : List ℕ} → t ≡ replicate room 0 → Gives room (record { status = 1; size = 0 }) t nothing
nothing-given room e = record { status-is = refl; size_is = refl; text-is = e ∙ padded-none room }

pub nothing-printed : (room : ℕ) {x : Result Answer} → x ≡ good nothing → nothing ≡ printed room [] (λ a. a) x
unfolding printed fitted
nothing-printed room e = rw (e, le-leb 0 room (omega arith))

printed-same : (room : ℕ) (y : Result (List ℕ)) → printed room [] plainly y ≡ printed room [] (λ a. a) (answers plainly y)
unfolding printed answers
printed-same room (good a) = refl
printed-same room (bad n p) = refl

pub told-printed : (room : ℕ) {x : Result Answer} (y : Result (List ℕ)) → x ≡ answers plainly y → printed room [] plainly y ≡ printed room [] (λ a. a) x
told-printed room y e = printed-same room y ∙ ap (printed room [] (λ a. a)) (sym e)

-- ---- with full tables

module _ (f : List ℕ) {n i : ℕ} (en : full_nodes ≡ n) (ei : full_items ≡ i) (room : ℕ) where
  pub needs-good : {s : Summary} {t u : List ℕ} → Standing f (read_file (limits n i) f) s t u → printed room [] plainly (needs_from f 0 (items_in s.items u)) ≡ needs_answer room f
  unfolding needs_answer needs
  needs-good st = rw st.items-are (ap (printed room [] plainly) (sym (known f en ei st (needs f))))

  module _ (row : ℕ) (shows : List ℕ → ℕ → Item → Result Answer) where
    module _ {s : Summary} {t u : List ℕ} (st : Standing f (read_file (limits n i) f) s t u) where
      pub of_past : s.items ≤ row → refused_by room [] 18 0 ≡ printed room [] (λ a. a) (ask (reads f) (of_row row shows f))
      unfolding of_row
      of_past l = let c = items-count st in printed-bad (λ a. a) _ _ (known f en ei st (of_row row shows f) ∙ rw (le-leb (length st.is) row (omega arith)))

      pub of_row_lem : row < s.items → {x : Item} → x ≡ item_from u (row * item_width) → printed room [] (λ a. a) (shows f row x) ≡ printed room []
          (λ a. a) (ask (reads f) (of_row row shows f))
      unfolding of_row
      of_row_lem l {x} z =
          let c = items-count st in
          let y : x ≡ item_at st.is row = z ∙ sym (row_is st row l) in
          ap (printed room [] (λ a. a)) (sym (known f en ei st (of_row row shows f) ∙ rw (lt-leb (length st.is) row (omega arith), y)))
