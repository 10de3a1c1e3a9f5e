-- The nine counts of an accepted file by its rows, and by four numbers of each node that are read again.
-- Assumes nothing.
use mathlib.Core.Path.{◌≡◌, refl, sym, ap, ap₂, ◌∙◌, subst}
use mathlib.Core.Bool.{Bool, true, false, cond}
use mathlib.Core.List.{List, [], ◌∷◌, ◌++◌}
use Prim.Native.Nat.{ℕ, ◌+◌, ◌*◌, ◌-◌, ◌%◌, ◌<◌}
use native.Mathlib.Omega.{arith}
use borrow.Author.Tests.{eqb-true, eqb-false}
use lib.Dec.{T, eqb}
use lib.ListN.{length}
use Rattle.machine.specs.Machine.{Event, seen, passed, trace, rows_of}
use Rattle.cursor.specs.Rows.{Frame, file_frame, node_frame, meta_frame, unpack_frame, reference_frame, language, name, uri, Part, node_row, item_row, plain, inline_size, Events}
use Rattle.cursor.specs.declared.Node.{Node}
use Rattle.cursor.specs.declared.Item.{Item}
use Rattle.machine.proofs.Wp.{All}
use Rattle.header.specs.Header.{Header, header}
use Rattle.metadata.specs.declared.Limits.{Limits}
use Rattle.metadata.proofs.Ends.{Nothing, Inside}
use Rattle.rows.specs.Rows.{items_of}
use Rattle.file.specs.Reading.{rows, read_file}
use Rattle.file.specs.Hidden.{is_hidden}
use Rattle.file.proofs.Follow.{read_back}
use Rattle.file.proofs.Shown.{header_of_lem, log-inside}
use Rattle.account.specs.Account.{kind, size, places_of, counts, events_of, sum_over}
use Rattle.account.specs.ByRows.{meta_at, meta_end, contents_at}
use Rattle.account.specs.declared.Kinds.{Kinds}
use Rattle.account.proofs.Places.{count, Counted}
use Rattle.header.proofs.Uses.{header-uses}
use Rattle.account.proofs.Spent.{others, spends, spends_none, count-on}
use Rattle.account.proofs.Front.{of_meta}
use Rattle.account.proofs.ByRows.{by_rows}
use Rattle.account.proofs.File.{events-are, file-counted}

-- ---- data, by item rows

-- visible or hidden data of a row
unfoldable pub data_of : (hidden : Bool) → Item → ℕ
data_of true r = cond (is_hidden r) r.size 0
data_of false r = cond (is_hidden r) 0 r.size

-- what an event that is no item's data has of kinds 3 and 4: nothing; what an item's has
data_sums : (es : Events) (top : ℕ) → All (Inside Nothing top top).asks es
    → (count (eqb 3) es ≡ sum_over (data_of false) (items_of es)) × (count (eqb 4) es ≡ sum_over (data_of true) (items_of es))
unfolding count rows_of data_of
data_sums [] top a = (refl, refl)
data_sums (seen file_frame p ∷ es) top a = let (x, y) = data_sums es top a in (omega arith, omega arith)
data_sums (seen node_frame p ∷ es) top a = let (x, y) = data_sums es top a in (omega arith, omega arith)
data_sums (seen meta_frame p ∷ es) top a = let (x, y) = data_sums es top a in (omega arith, omega arith)
data_sums (seen unpack_frame p ∷ es) top a = let (x, y) = data_sums es top a in (omega arith, omega arith)
data_sums (seen reference_frame p ∷ es) top a = let (x, y) = data_sums es top a in (omega arith, omega arith)
data_sums (passed (node_row r) p n ∷ es) top a = let (x, y) = data_sums es top a.1 in (omega arith, omega arith)
data_sums (passed (item_row r) p n ∷ es) top a = let (x, y) = data_sums es top a.1 in by (is_hidden r) a.0.1 x y
  where
    by : (b : Bool) → r.size ≡ n → count (eqb 3) es ≡ sum_over (data_of false) (items_of es) → count (eqb 4) es ≡ sum_over (data_of true) (items_of es)
        → ((cond (eqb 3 (cond b 4 3)) n 0) + count (eqb 3) es ≡ (cond b 0 r.size) + sum_over (data_of false) (items_of es))
        × ((cond (eqb 4 (cond b 4 3)) n 0) + count (eqb 4) es ≡ (cond b r.size 0) + sum_over (data_of true) (items_of es))
    by true z x y = (omega arith, omega arith)
    by false z x y = (omega arith, omega arith)
data_sums (passed (plain language) p n ∷ es) top a = let (x, y) = data_sums es top a.1 in (omega arith, omega arith)
data_sums (passed (plain name) p n ∷ es) top a = let (x, y) = data_sums es top a.1 in (omega arith, omega arith)
data_sums (passed (plain uri) p n ∷ es) top a = let (x, y) = data_sums es top a.1 in (omega arith, omega arith)

-- both are all of it; hidden is that of an odd format
pub both-data : (is : List Item) → sum_over (λ r. r.size) is ≡ sum_over (data_of false) is + sum_over (data_of true) is
unfolding data_of
both-data [] = refl
both-data (r ∷ is) = let h = both-data is in by (is_hidden r) h
  where
    by : (b : Bool) → sum_over (λ r. r.size) is ≡ sum_over (data_of false) is + sum_over (data_of true) is
        → r.size + sum_over (λ r. r.size) is ≡ (cond b 0 r.size) + sum_over (data_of false) is + ((cond b r.size 0) + sum_over (data_of true) is)
    by true h = omega arith
    by false h = omega arith

odd_data : (r : Item) → r.format % 2 * r.size ≡ data_of true r
unfolding data_of is_hidden
odd_data r = by (eqb (r.format % 2) 1) refl
  where
    by : (b : Bool) → eqb (r.format % 2) 1 ≡ b → r.format % 2 * r.size ≡ (cond b r.size 0)
    by true e = rw (eqb-true (r.format % 2) 1 e) (omega arith)
    by false e = let z : r.format % 2 ≡ 0 = omega (arith, eqb-false (r.format % 2) 1 e) in rw z (omega arith)

pub hidden_data_lem : (is : List Item) → sum_over (λ r. r.format % 2 * r.size) is ≡ sum_over (data_of true) is
hidden_data_lem [] = refl
hidden_data_lem (r ∷ is) = ap₂ ◌+◌ (odd_data r) (hidden_data_lem is)

-- the metadata's three kinds
three : (e : Event Frame Part) (s : ℕ) → (cond (eqb 2 (kind e)) s 0) + (cond (eqb 3 (kind e)) s 0) + (cond (eqb 4 (kind e)) s 0) ≡ (cond (of_meta (kind e)) s 0)
three (seen file_frame p) s = omega arith
three (seen node_frame p) s = omega arith
three (seen meta_frame p) s = omega arith
three (seen unpack_frame p) s = omega arith
three (seen reference_frame p) s = omega arith
three (passed (node_row r) p n) s = omega arith
three (passed (item_row r) p n) s = by (is_hidden r)
  where
    by : (b : Bool) → (cond (eqb 2 (cond b 4 3)) s 0) + (cond (eqb 3 (cond b 4 3)) s 0) + (cond (eqb 4 (cond b 4 3)) s 0) ≡ (cond (of_meta (cond b 4 3)) s 0)
    by true = omega arith
    by false = omega arith
three (passed (plain language) p n) s = omega arith
three (passed (plain name) p n) s = omega arith
three (passed (plain uri) p n) s = omega arith

three_kinds : (es : Events) → count (eqb 2) es + count (eqb 3) es + count (eqb 4) es ≡ count of_meta es
unfolding count
three_kinds [] = refl
three_kinds (e ∷ es) = let h = three_kinds es in let k = three e (size e) in omega arith

pub no-sum : {A : Type 0} (rs : List A) → sum_over (λ r. 0) rs ≡ 0
no-sum [] = refl
no-sum (r ∷ rs) = let h = no-sum rs in omega arith

-- ---- the whole

module _ (lim : Limits) (f : List ℕ) {h : Header} {ns : List Node} {is : List Item} (r : read_file lim f ≡ rows h ns is) where
  pub record RowsCount (c : Kinds) : Type 0 where
    pub headers : c.header ≡ h.extent.end
    pub frames : c.nodes ≡ sum_over (λ r. meta_at f r - r.start) ns
    pub metas : c.metadata + c.visible + c.hidden ≡ sum_over (λ r. meta_end f r - meta_at f r) ns
    pub visible : c.visible ≡ sum_over (data_of false) is
    pub hidden : c.hidden ≡ sum_over (data_of true) is
    pub unpacks : c.unpackers ≡ sum_over (λ r. r.start + r.header - meta_end f r) ns
    pub refs : c.references ≡ sum_over (λ r. contents_at r - (r.start + r.header)) ns
    pub inlines : c.inline ≡ sum_over inline_size ns
    pub total : c.header + c.nodes + c.metadata + c.visible + c.hidden + c.unpackers + c.references + c.inline + c.rest ≡ length f

  pub rows-count : RowsCount (counts (length f) (events_of lim f h))
  rows-count =
      let a = read_back lim f r in let b = by_rows f lim a in let d = data_sums a.log (length f) (log-inside a) in
      let v = d.0 ∙ ap (sum_over (data_of false)) a.items-are in
      let u = d.1 ∙ ap (sum_over (data_of true)) a.items-are in
      let t = three_kinds a.log in let y = no-sum ns in
      let x = spends (eqb 0) (header-uses tt tt (length f)) f 0 a.header_is in
      let top = trace (header (length f)) f 0 in
      let on : (s : ℕ → Bool) → count s (top ++ a.log) ≡ count s top + count s a.log = λ s. count-on s top a.log in
      let no_header : (t : ℕ → Bool) → T (others t 0) → count t top ≡ 0 = λ t i. spends_none t {m = header (length f)} (header-uses i i (length f)) f 0 in
      let c : Counted (length f) (top ++ a.log) = subst (Counted (length f)) (events-are lim f r) (file-counted lim f r) in
      let each : (κ : ℕ) → κ < 8 → count (eqb κ) (top ++ a.log) ≡ places_of κ (top ++ a.log) (length f) = c.each in
      let e₀ = each 0 (omega arith) in let e₁ = each 1 (omega arith) in let e₂ = each 2 (omega arith) in let e₃ = each 3 (omega arith) in
      let e₄ = each 4 (omega arith) in let e₅ = each 5 (omega arith) in let e₆ = each 6 (omega arith) in let e₇ = each 7 (omega arith) in
      subst (λ es. RowsCount (counts (length f) es)) (sym (events-are lim f r)) (record {
        headers = omega (arith, on (eqb 0), b.files, (header_of_lem a).0);
        frames = omega (arith, on (eqb 1), no_header (eqb 1) tt, b.frames);
        metas = omega (arith, on (eqb 2), on (eqb 3), on (eqb 4), no_header (eqb 2) tt, no_header (eqb 3) tt, no_header (eqb 4) tt, b.metas);
        visible = omega (arith, on (eqb 3), no_header (eqb 3) tt);
        hidden = omega (arith, on (eqb 4), no_header (eqb 4) tt);
        unpacks = omega (arith, on (eqb 5), no_header (eqb 5) tt, b.unpacks);
        refs = omega (arith, on (eqb 6), no_header (eqb 6) tt, b.refs);
        inlines = omega (arith, on (eqb 7), no_header (eqb 7) tt, b.inlines);
        total = omega (arith, c.all-else, c.total);
      })
