-- The ways through an item, through versions, and through items end to end: what each exit of the code comes to.
-- Assumes nothing.
use mathlib.Core.Path.{◌≡◌, refl, sym, ◌∙◌, subst}
use mathlib.Core.List.{List}
use Prim.Native.Nat.{ℕ, ◌+◌, ◌-◌, ◌*◌, ◌≤◌, ◌<◌}
use native.Mathlib.Omega.{arith}
use lib.ListN.{length}
use lib.Seq.{sets}
use borrow.Author.Tests.{lt-ltb, eq-eqb, ne_eqb}
use Rattle.std.proofs.Common.{Result, Ok, Err, Option, Some}
use Rattle.machine.specs.Machine.{ok, refused, run, exec, turns, times}
use Rattle.refusals.specs.declared.Refusal.{Refusal}
use Rattle.cursor.specs.Rows.{meta_frame}
use Rattle.cursor.specs.Leaves.{number, block}
use Rattle.cursor.specs.Told.{ByteTold}
use Rattle.cursor.specs.declared.Byte.{Byte}
use Rattle.cursor.specs.declared.Cursor.{Cursor}
use Rattle.cursor.specs.declared.Item.{Item}
use Rattle.machine.proofs.Laws.{running, executing, and_then, ran, exec-turn, exec-turned, exec-many, exec-times, exec-timed}
use Rattle.machine.proofs.Wp.{at_end}
use Rattle.cursor.proofs.Leaves.{Any, any_free, block_inside, number_short, block-all}
use Rattle.cursor.proofs.Quiet.{exec-number, exec-block}
use Rattle.rows.specs.Rows.{item_width, item_words}
use Rattle.metadata.specs.Tables.{State, state, put, plus_item}
use Rattle.metadata.specs.Metadata.{Context, field, contents, item_frame, row_of, universal, version, rows_for, item, Count, next_item, meta_items, metadata}
use Rattle.metadata.specs.Told.{Reads, CommonTold, Gives}
use Rattle.metadata.specs.declared.Made.{Made}
use Rattle.metadata.specs.declared.Label.{Label}
use Rattle.metadata.specs.declared.Field.{Field}
use Rattle.metadata.specs.declared.Field.TheVariants.{Standard}
use Rattle.metadata.specs.declared.Contents.{Contents}
use Rattle.metadata.specs.declared.Contents.TheVariants.{Universal, Versions}
use Rattle.metadata.specs.declared.MetaItem.{MetaItem}
use Rattle.metadata.proofs.Quiet.{exec-frame}
use Rattle.metadata.proofs.Ends.{Nothing, inside-free, version-on, item_on}
use Rattle.metadata.proofs.Gives.{done, stopped, fitting, no, yes}

-- ---- field and contents

module _ (end : ℕ) (f : List ℕ) (at : ℕ) where
  module _ {n q : ℕ} (e₁ : run (number meta_frame 3 end) f at ≡ ok n q) where
    pub contents-universal : n ≡ 0 → ok Universal q ≡ run (contents end) f at
    unfolding contents
    contents-universal z = simp (running, e₁, eq-eqb _ _ z)

    pub contents-versions : ((n ≡ 0) → ⊥) → ok (Versions n) q ≡ run (contents end) f at
    unfolding contents
    contents-versions some = simp (running, e₁, ne_eqb _ _ some)

  pub frame-all : {g : Field} {q : ℕ} → run (field end) f at ≡ ok g q → {k : Contents} {r : ℕ} → run (contents end) f q ≡ ok k r
      → ok (record { field = g; contents = k }) r ≡ run (item_frame end) f at
  unfolding item_frame
  frame-all e₁ e = simp (running, e₁, e)

-- ---- versions one after the other

module _ (x : Context) (l : Label) (s u₀ : List ℕ) (end at count : ℕ) (made : Made) where
  -- at i, after k versions, with the rows m made and the table u: what is left comes to what the whole comes to
  pub record Going (u : List ℕ) (i k : ℕ) (m : Made) : Type 0 where
    pub long : length u ≡ length u₀
    pub nodes-fit : m.nodes ≤ x.limits.nodes
    pub items-fit : m.items ≤ x.limits.items
    pub since : made.items ≤ m.items
    pub same : (t : List ℕ) → exec put (times count (version x l end made.items) made) s at (state t u₀ made) ≡ exec put
        (times (count - k) (version x l end made.items) m) s i (state t u m)

  pub versions_begun : made.nodes ≤ x.limits.nodes → made.items ≤ x.limits.items → Going u₀ at 0 made
  versions_begun h k =
      let e : count - 0 ≡ count = omega arith in
      record { long = refl; nodes-fit = h; items-fit = k; since = omega arith; same = λ t. rw e refl }

  pub versions_done : {u : List ℕ} {c : Cursor} {k : ℕ} {m : Made} → Going u c.at.0 k m → count ≤ k
      → (t : List ℕ) → Gives x.limits (Ok (m, c)) t u (exec put (times count (version x l end made.items) made) s at (state t u₀ made))
  versions_done {u} {c} {k} {m} g z t = yes (sym (g.same t ∙ exec-timed put s (count - k) c.at.0 _ m (state t u m) (omega arith))) (g.nodes-fit, g.items-fit)

  module _ {u : List ℕ} {i k : ℕ} {m : Made} (g : Going u i k m) (some : k < count) {u' : List ℕ} {r : Result (Made × Cursor) Refusal}
      (d : (t : List ℕ) → Gives x.limits r t u' (exec put (version x l end made.items m) s i (state t u m))) where
    turn : (t : List ℕ) → exec put (times count (version x l end made.items) made) s at (state t u₀ made)
        ≡ and_then (exec put (version x l end made.items m) s i (state t u m)) (λ y p. exec put (times (count - (k + 1)) (version x l end made.items) y.0) s p y.1)
    turn t =
        let e : count - k - 1 ≡ count - (k + 1) = omega arith in
        rw (← e) (g.same t ∙ exec-times put s (count - k) i _ m (state t u m) (λ z. omega arith))

    pub versions_no : {e : Refusal} → r ≡ Err e → (t : List ℕ) → Gives x.limits (Err e) t u' (exec put (times count (version x l end made.items) made) s at (state t u₀ made))
    versions_no h t = no (sym (turn t ∙ rw (stopped (d t) h) refl))

    pub versions_on : {n : Made} {c : Cursor} → r ≡ Ok (n, c) → length u' ≡ length u → Going u' c.at.0 (k + 1) n
    versions_on {n} {c} h e =
        let b = fitting (d u) h in
        let w = at_end any_free s (version-on {U = Any} x l end (λ v d f p n h. tt) made.items m i) (ran put _ s i (state u u m) (done (d u) h)) in
        let v = g.since in
        record { long = e ∙ g.long; nodes-fit = b.0; items-fit = b.1; since = omega arith; same = λ t. turn t ∙ rw (done (d t) h) refl }

-- ---- the rows of contents

module _ (x : Context) (l : Label) (end : ℕ) (m : Made) (s : List ℕ) (at : ℕ) (σ : State) {k : Contents} where
  pub rows-universal : k ≡ Universal → exec put (rows_for x l end k m) s at σ ≡ exec put (universal x l end m) s at σ
  unfolding rows_for
  rows-universal e = rw e

  pub rows-versions : {n : ℕ} → k ≡ Versions n → exec put (rows_for x l end k m) s at σ ≡ exec put (times n (version x l end m.items) m) s at σ
  unfolding rows_for
  rows-versions e = rw e

-- ---- an item

module _ (x : Context) (node index end : ℕ) (m : Made) (s : List ℕ) (at : ℕ) (σ : State) where
  pub item-rows : {i : MetaItem} {q : ℕ} → run (item_frame end) s at ≡ ok i q
      → exec put (item x node index end m) s at σ ≡ exec put (rows_for x (record { node = node; item = index; field = i.field }) end i.contents m) s q σ
  unfolding item
  item-rows e = simp (executing, exec-frame, e)

-- ---- an item in the common form

-- the place after a byte
abbrev after : Byte → ℕ
after b = b.next.at.0

-- five bytes that are such an item
pub common_read : (end : ℕ) (f : List ℕ) (at : ℕ) {name k versions size format : Byte}
    → ByteTold name f at → ByteTold k f (after name) → ByteTold versions f (after k) → ByteTold size f (after versions) → ByteTold format f (after size)
    → name.value ≡ 0 → k.value ≤ 127 → versions.value ≡ 0 → ((size.value ≡ 0) → ⊥) → size.value ≤ 127 → format.value ≤ 127 → after size + size.value ≤ end
    → Reads f end at (record { field = Standard k.value; contents = Universal }) size.value format.value
unfolding item_frame field contents
common_read end f at {name} {k} {versions} {size} {format} b₀ b₁ b₂ b₃ b₄ none l₁ universally some l₃ l₄ inside =
    let q₃ : after versions ≡ at + 3 = omega (arith, b₀.on, b₁.on, b₂.on) in
    let q₄ : after size ≡ at + 4 = omega (arith, b₃.on) in
    let q₅ : after format ≡ at + 5 = omega (arith, b₄.on) in
    let e₀ = sym (block-all meta_frame 3 end f at (number_short meta_frame 3 end f at (omega arith) b₀.is (omega arith) b₀.on) (omega (arith, b₀.on))) in
    let e₁ = number_short meta_frame 3 end f (after name) (omega (arith, b₀.on)) b₁.is (omega arith) b₁.on in
    let e₂ = number_short meta_frame 3 end f (after k) (omega (arith, b₀.on, b₁.on)) b₂.is (omega arith) b₂.on in
    let e₃ = sym (block-all meta_frame 3 end f (after versions) (number_short meta_frame 3 end f (after versions) (omega arith) b₃.is (omega arith) b₃.on) (omega arith)) in
    let e₄ = number_short meta_frame 3 (after size + size.value) f (after size) (omega arith) b₄.is (omega arith) b₄.on in
    record {
      frame = rw (← q₃) (simp (running, e₀, eq-eqb _ _ none, e₁, e₂, eq-eqb _ _ universally));
      universal = refl;
      some = some;
      covers = rw (← q₃, ← q₄) e₃;
      coded = rw (← q₄, ← q₅) e₄;
    }

pub common_was : (end : ℕ) (f : List ℕ) (at : ℕ) {r : Option (MetaItem × ℕ × ℕ)} → CommonTold r f end at → {is : MetaItem} {size format : ℕ} → r ≡ Some (is, size, format) → Reads f end at is size format
common_was end f at told e = subst (λ r. CommonTold r f end at) e told

pub common_inside : (end : ℕ) (f : List ℕ) (at : ℕ) {is : MetaItem} {size format : ℕ} → Reads f end at is size format → (0 < size) × (at + 4 + size ≤ end)
common_inside end f at r = (omega (arith, r.some), omega (arith, block_inside meta_frame 3 end f (at + 3) r.covers))

-- the row that is made of it at once is the one that `item` makes
pub common_row : (x : Context) (node index end : ℕ) (m : Made) (s : List ℕ) (at : ℕ) (σ : State) {is : MetaItem} {size format : ℕ} → Reads s
    end at is size format → m.items < x.limits.items
    → {place : ℕ} → place ≡ at + 5 → {row : Item} → row ≡ row_of (record { node = node; item = index; field = is.field }) 0 0 format place (size - 1)
    → {u' : List ℕ} → u' ≡ sets σ.items (σ.made.items * item_width) (item_words row) → {p : ℕ} → p ≡ at + (4 + size)
    → ok (plus_item m, state σ.nodes u' (plus_item σ.made)) p ≡ exec put (item x node index end m) s at σ
unfolding item rows_for universal
common_row x node index end m s at σ {is} {size} {format} r l {place} e₁ {row} w h {p} e₂ =
    let z : 0 < size = omega (arith, r.some) in
    let e₃ : p ≡ at + 4 + size = omega arith in
    let e₄ : size - 1 ≡ at + 4 + size - (at + 5) = omega arith in
    let e₅ : at + 5 + (at + 4 + size - (at + 5)) ≡ at + 4 + size = omega arith in
    rw (h, w, e₁, e₄, e₃) (simp (executing, exec-frame, exec-block, exec-number, lt-ltb _ _ l, r.frame, r.universal, r.covers, lt-ltb _ _ z, r.coded, e₅))

-- ---- items end to end

module _ (x : Context) (s u₀ : List ℕ) (node end at : ℕ) (made : Made) where
  abbrev count : Made → ℕ → Count
  count m k = record { made = m; index = k }

  -- at i, after k items, with the rows m made and the table u: what is left comes to what the whole comes to
  pub record Reading (u : List ℕ) (i k : ℕ) (m : Made) : Type 0 where
    pub left : ℕ
    pub enough : end ≤ i + left
    pub few : k ≤ i
    pub long : length u ≡ length u₀
    pub nodes-fit : m.nodes ≤ x.limits.nodes
    pub items-fit : m.items ≤ x.limits.items
    pub same : (t : List ℕ) → exec put (meta_items x node end made) s at (state t u₀ made)
        ≡ and_then (exec put (turns left end (next_item x node end) (count m k)) s i (state t u m)) (λ y p. ok (y.0.made, y.1) p)

  pub items-begun : made.nodes ≤ x.limits.nodes → made.items ≤ x.limits.items → Reading u₀ at 0 made
  unfolding meta_items
  items-begun h k = record {
    left = end - at;
    enough = omega arith;
    few = omega arith;
    long = refl;
    nodes-fit = h;
    items-fit = k;
    same = λ t. simp (executing, exec-many);
  }

  pub items-done : {u : List ℕ} {c : Cursor} {i k : ℕ} {m : Made} → c.at.0 ≡ i → Reading u i k m → end ≤ i
      → (t : List ℕ) → Gives x.limits (Ok (m, c)) t u (exec put (meta_items x node end made) s at (state t u₀ made))
  items-done {u} {c} {i} {k} {m} e g l t =
      yes (sym (g.same t ∙ rw (exec-turned put s g.left end i (next_item x node end) (count m k) (state t u m) l, e) refl)) (g.nodes-fit, g.items-fit)

  module _ {u : List ℕ} {i k : ℕ} {m : Made} (g : Reading u i k m) (l : i < end) {u' : List ℕ} {r : Result (Made × Cursor) Refusal}
      (d : (t : List ℕ) → Gives x.limits r t u' (exec put (item x node k end m) s i (state t u m))) where
    turn_no : {n p : ℕ} (t : List ℕ) → exec put (item x node k end m) s i (state t u m) ≡ refused n p → refused n p ≡ exec put (meta_items x node end made) s at (state t u₀ made)
    unfolding next_item
    turn_no t e = sym (g.same t ∙ rw (exec-turn put s g.left end i (next_item x node end) (count m k) (state t u m) l g.enough) (simp (executing, e)))

    turn_ok : {n : Made} {τ : State} {p : ℕ} (t : List ℕ) → exec put (item x node k end m) s i (state t u m) ≡ ok (n, τ) p
        → exec put (meta_items x node end made) s at (state t u₀ made) ≡ and_then
        (exec put (turns (g.left - 1) end (next_item x node end) (count n (k + 1))) s p τ) (λ y p. ok (y.0.made, y.1) p)
    unfolding next_item
    turn_ok t e = g.same t ∙ rw (exec-turn put s g.left end i (next_item x node end) (count m k) (state t u m) l g.enough) (simp (executing, e))

    pub items-no : {e : Refusal} → r ≡ Err e → (t : List ℕ) → Gives x.limits (Err e) t u' (exec put (meta_items x node end made) s at (state t u₀ made))
    items-no h t = no (turn_no t (stopped (d t) h))

    pub items-further : {n : Made} {c : Cursor} → r ≡ Ok (n, c) → (i < c.at.0) × (c.at.0 ≤ end)
    items-further h = let w = at_end (inside-free end (length s)) s (item_on Nothing end (length s) x node k end (omega arith) m i)
        (ran put _ s i (state u u m) (done (d u) h)) in (w.1, w.2)

    pub items-on : {n : Made} {c : Cursor} → r ≡ Ok (n, c) → length u' ≡ length u → Reading u' c.at.0 (k + 1) n
    items-on {n} {c} h e =
        let w = items-further h in let b = fitting (d u) h in
        record {
          left = g.left - 1;
          enough = let y = g.enough in omega arith;
          few = let y = g.few in omega arith;
          long = e ∙ g.long;
          nodes-fit = b.0;
          items-fit = b.1;
          same = λ t. turn_ok t (done (d t) h);
        }

-- ---- metadata

module _ (x : Context) (node end : ℕ) (m : Made) (s : List ℕ) (at : ℕ) (σ : State) where
  pub metadata-items : {n q : ℕ} → run (block meta_frame 8 end) s at ≡ ok n q → {stop : ℕ} → stop ≡ q + n → exec put (metadata x node end m) s
      at σ ≡ exec put (meta_items x node stop m) s q σ
  unfolding metadata
  metadata-items e is = rw is (simp (executing, exec-block, e))
