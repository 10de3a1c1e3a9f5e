-- The sheet of an accepted file is well formed, and the mover takes either edition of it to the other.
-- Assumes nothing.
use mathlib.Core.Path.{◌≡◌, refl, sym, ap, ap₂, ◌∙◌, subst}
use mathlib.Core.Logic.{inl, inr}
use mathlib.Core.Bool.{Bool, true, false, cond, not, ◌&&◌}
use mathlib.Core.List.{List, [], ◌∷◌, ◌++◌, map, append_assoc}
use Prim.{tt}
use Prim.Native.Nat.{ℕ, ◌+◌, ◌/◌, ◌%◌, ◌^◌, ◌≤◌, ◌<◌}
use native.Mathlib.Omega.{arith}
use lib.Dec.{eqb, leb}
use lib.ListN.{length, get_or, take, drop, replicate, length-append, length-take}
use lib.Seq.{get_or-take, get_or-drop}
use borrow.Author.Tests.{eq-eqb, ne_eqb, eqb-true, eqb-false, le-leb}
use Rattle.room.specs.Parts.{part}
use Rattle.cursor.specs.declared.Node.{Node}
use Rattle.cursor.specs.declared.Item.{Item}
use Rattle.room.proofs.Counting.{part_length}
use Rattle.room.specs.Room.{Result, good, bad}
use Rattle.room.specs.Decimal.{digits, decimal}
use Rattle.header.specs.Header.{Header}
use Rattle.rows.specs.Rows.{node_words, item_words}
use Rattle.metadata.specs.declared.Limits.{Limits}
use Rattle.file.specs.Hidden.{is_hidden}
use Rattle.file.specs.Reading.{rows, read_file}
use Rattle.file.proofs.Order.{spread, in_row_order}
use Rattle.utf16.specs.Unicode.{bytes_all, to_utf8}
use Rattle.utf16.proofs.Walk.{Bytes}
use Rattle.text.specs.Text.{plain, hexed, escaped, escaped_part, shown_or, unicode_text, tabbed, number, version_text}
use Rattle.sheet.specs.Sheet.{first_line, first_line2, node_line, label, text_of, item_line, visible_line, lines_of, lines2_of, sheet_of, fitting, lines_in, write, write2, write_in}
use Rattle.sheet.specs.Sheet as sheet
use Rattle.editions.specs.declared.State.{State}
use Rattle.editions.specs.Sheets.{Lines, same, value, is_version, fits, parted, fields, field, word, written, lead, kind, item, judged, WellFormed, move}
use Rattle.editions.proofs.Order.{Items}
use Rattle.editions.proofs.Bytes.{Clean, AllClean, written-parted}
use Rattle.editions.proofs.Bytes as pieces
use Rattle.editions.proofs.Back.{FirstBody, tests, first-third, first-fourth, renamed-is, first-is, first_says, judged-well, moved_on, move-is, moves}
use Rattle.file_laws.proofs.Small.{Each, IsVersion}
use Rattle.file_laws.proofs.Words.{each-by, Below, Named, SmallRows, small-rows}
use Rattle.editions.proofs.Spelled.{value-decimal, spelled, clean_decimal, clean_append, tabs, clean_tabs, fields-are, node-text, node-ended, node-kind, Text, escaped-text, shown-text, item-text, standard-ended, standard-kind, custom-ended, custom-kind}
use Rattle.editions.proofs.Rows.{node_lines, item_lines, group_lines, owners, NodesAre, ItemsAre, first_body, first-to_second}

-- ---- bytes of the file

-- a text, converted or not
converted : (r : Result (List ℕ)) (old : List ℕ) → Text true old → Text true (shown_or r old)
unfolding shown_or
converted (good t) old h = shown-text t
converted (bad n p) old h = h

two_is : (m : ℕ) → m ≡ 2 → same (decimal m) (0x32 ∷ []) ≡ true
unfolding same decimal digits
two_is m e = rw e refl

some-text : (bs : List ℕ) → 0 < length bs → same (bytes_all escaped bs) [] ≡ false
unfolding bytes_all escaped hexed same
some-text [] l = absurd (omega arith)
some-text (b ∷ bs) l = by (plain b)
  where
    by : (p : Bool) → same (cond p (b ∷ []) (hexed b) ++ bytes_all escaped bs) [] ≡ false
    by true = refl
    by false = refl

module _ (f : List ℕ) (bytes : Bytes f) where
  part_bytes : (at n : ℕ) → Each (λ b. b < 0x100) (part f at n)
  part_bytes at n = each-by _ 0 (part f at n)
      (λ i l. let k = length-take n (drop at f) in let b = bytes (at + i) in rw (get_or-take n (drop at f) i 0 (omega arith), get_or-drop at f i 0) b)

  escaped-is : (two : Bool) (at n : ℕ) → Text two (escaped_part f at n)
  unfolding escaped_part
  escaped-is two at n = escaped-text two (part f at n) (part_bytes at n)

  -- the text of a row
  text-is : (r : Item) → Text (same (decimal r.format) (0x32 ∷ [])) (text_of f r)
  unfolding text_of unicode_text
  text-is r = by (eqb r.format 2) refl
    where
      by : (b : Bool) → eqb r.format 2 ≡ b → Text (same (decimal r.format) (0x32 ∷ []))
          (cond b (shown_or (to_utf8 (part f r.place r.size)) (escaped_part f r.place r.size)) (escaped_part f r.place r.size))
      by true e = rw (two_is r.format (eqb-true r.format 2 e)) (converted (to_utf8 (part f r.place r.size)) _ (escaped-is true r.place r.size))
      by false e = escaped-is (same (decimal r.format) (0x32 ∷ [])) r.place r.size

-- a name that is not empty
some-name : (f : List ℕ) (at n : ℕ) → 0 < n → at + n ≤ length f → same (escaped_part f at n) [] ≡ false
unfolding escaped_part
some-name f at n l k = let z = part_length f at n k in some-text (part f at n) (omega arith)

-- ---- the line of a row

abbrev rows_of : Node → ℕ
rows_of r = r.rows

abbrev node_of : Item → ℕ
node_of r = r.node

abbrev node_text : ℕ → Node → List ℕ
node_text k r = node-text k r.parent r.depth r.reference r.target r.extent

node-line : (k : ℕ) (r : Node) → node_line k r ≡ node_text k r ++ 0x0A ∷ []
unfolding node_line number tabbed
node-line k r = simp append_assoc

-- an item's line, of a custom field or of a standard one
abbrev item_text_by : Bool → List ℕ → Item → List ℕ
item_text_by true f r = item-text r.node 0x43 (escaped_part f r.field r.name_length) r.version r.format (text_of f r)
item_text_by false f r = item-text r.node 0x53 (decimal r.field) r.version r.format (text_of f r)

abbrev item_text : List ℕ → Item → List ℕ
item_text f r = item_text_by (eqb r.kind 1) f r

item-line : (f : List ℕ) (r : Item) → item_line f r ≡ item_text f r ++ 0x0A ∷ []
unfolding item_line label number tabbed
item-line f r = by (eqb r.kind 1)
  where
    by : (b : Bool)
        → 0x4D ∷ (0x09 ∷ decimal r.node) ++ cond b (0x09 ∷ 0x43 ∷ 0x09 ∷ escaped_part f r.field r.name_length)
        (0x09 ∷ 0x53 ∷ 0x09 ∷ decimal r.field) ++ (0x09 ∷ decimal r.version) ++ (0x09 ∷ decimal r.format) ++ (0x09 ∷ text_of f r) ++
        0x0A ∷ []
        ≡ item_text_by b f r ++ 0x0A ∷ []
    by true = simp append_assoc
    by false = simp append_assoc

-- no line for a hidden content
abbrev item_texts : List ℕ → Item → Lines
item_texts f r = cond (is_hidden r) [] (item_text f r ∷ [])

-- ---- what these lines are

even : (r : Item) → is_hidden r ≡ false → r.format % 2 ≡ 0
unfolding is_hidden
even r e = let z = eqb-false (r.format % 2) 1 e in omega (arith, z)

abbrev SmallItem : List ℕ → Item → Type 0
SmallItem f r = Below (item_words r) × Named (length f) r

module _ (f : List ℕ) where
  abbrev the_nodes : ℕ → List Node → Lines
  the_nodes k ns = node_lines rows_of node_of node_text (item_texts f) k ns

  abbrev the_items : List Item → Lines
  the_items is = item_lines rows_of node_of node_text (item_texts f) is

  abbrev the_groups : ℕ → List Node → List Item → Lines
  the_groups k ns is = group_lines rows_of node_of node_text (item_texts f) k ns is

  nodes-are : (k : ℕ) (ns : List Node) → k + length ns < 2 ^ 28 → Each (λ r. Below (node_words r)) ns → NodesAre rows_of node_of node_text (item_texts f) k ns
  nodes-are k [] l p = tt
  nodes-are k (r ∷ ns) l ((_, (_, (_, (_, (a, (b, (c, (d, (e, _))))))))), ps) =
      (node-kind k r.parent r.depth r.reference r.target r.extent (omega arith) a b c d e, nodes-are (k + 1) ns (omega arith) ps)

  nodes-clean : (k : ℕ) (ns : List Node) → AllClean 0x0A (the_nodes k ns)
  nodes-clean k [] = tt
  nodes-clean k (r ∷ ns) = (node-ended k r.parent r.depth r.reference r.target r.extent, nodes-clean (k + 1) ns)

  module _ (bytes : Bytes f) where
    -- its kind, and no 0Ah in it
    item-is : (r : Item) → SmallItem f r → is_hidden r ≡ false → (kind (item_text f r) ≡ item r.node) × Clean 0x0A (item_text f r)
    item-is r ((n, (_, (_, (l, (_, (v, (_, (m, _)))))))), inl k) e =
        rw (ne_eqb r.kind 1 (λ z. omega arith)) (
          standard-kind r.node r.version r.format n v m (even r e) (text_of f r) (text-is f bytes r) r.field l,
          standard-ended r.node
              r.version r.format n v m (even r e) (text_of f r) (text-is f bytes r) r.field l,
        )
    item-is r ((n, (_, (_, (_, (_, (v, (_, (m, _)))))))), inr (k, l, i)) e =
        let t = escaped-is f bytes false r.field r.name_length in
        let s = some-name f r.field r.name_length l i in
        rw (eq-eqb r.kind 1 k) (
          custom-kind r.node r.version r.format n v m (even r e) (text_of f r) (text-is f bytes r) _ t s,
          custom-ended r.node r.version
              r.format n v m (even r e) (text_of f r) (text-is f bytes r) _ t s,
        )

    item-are : (r : Item) → SmallItem f r → Items r.node (r.node + 1) (item_texts f r) × AllClean 0x0A (item_texts f r)
    item-are r p = by (is_hidden r) refl
      where
        by : (b : Bool) → is_hidden r ≡ b → Items r.node (r.node + 1) (cond b [] (item_text f r ∷ [])) × AllClean 0x0A (cond b [] (item_text f r ∷ []))
        by true e = (tt, tt)
        by false e = let (k, c) = item-is r p e in ((r.node, k, omega arith, omega arith, tt), (c, tt))

    items-are : (is : List Item) → Each (SmallItem f) is → ItemsAre rows_of node_of node_text (item_texts f) is × AllClean 0x0A (the_items is)
    items-are [] p = (tt, tt)
    items-are (r ∷ is) (p, ps) = let (a, c) = item-are r p in let (b, d) = items-are is ps in ((a, b), pieces.clean_append 0x0A (item_texts f r) (the_items is) c d)

-- ---- the lines as bytes

written-append : (a b : Lines) → written (a ++ b) ≡ written a ++ written b
unfolding written
written-append [] b = refl
written-append (l ∷ a) b = ap (λ (v : List ℕ). l ++ 0x0A ∷ v) (written-append a b) ∙ sym (append_assoc l (0x0A ∷ written a) (written b))

written-cons : (l : List ℕ) (ls : Lines) → written (l ∷ ls) ≡ (l ++ 0x0A ∷ []) ++ written ls
unfolding written
written-cons l ls = sym (append_assoc l (0x0A ∷ []) (written ls))

module _ (f : List ℕ) where
  nodes-written : (k : ℕ) (ns : List Node) → sheet.node_lines k ns ≡ written (the_nodes f k ns)
  unfolding sheet.node_lines written
  nodes-written k [] = refl
  nodes-written k (r ∷ ns) = ap₂ (λ (a b : List ℕ). a ++ b) (node-line k r) (nodes-written (k + 1) ns) ∙ append_assoc (node_text k r) (0x0A ∷ []) _

  item-written : (r : Item) → visible_line f r ≡ written (item_texts f r)
  unfolding visible_line written
  item-written r = by (is_hidden r)
    where
      by : (b : Bool) → cond b [] (item_line f r) ≡ written (cond b [] (item_text f r ∷ []))
      by true = refl
      by false = item-line f r

  items-written : (is : List Item) → sheet.item_lines f is ≡ written (the_items f is)
  unfolding sheet.item_lines written
  items-written [] = refl
  items-written (r ∷ is) = ap₂ (λ (a b : List ℕ). a ++ b) (item-written r) (items-written is) ∙ sym (written-append (item_texts f r) (the_items f is))

  groups-written : (k : ℕ) (ns : List Node) (is : List Item) → sheet.group_lines f k ns is ≡ written (the_groups f k ns is)
  unfolding sheet.group_lines written
  groups-written k [] is = refl
  groups-written k (r ∷ ns) is =
      append_assoc (node_line k r) (sheet.item_lines f (take r.rows is)) (sheet.group_lines f (k + 1) ns (drop r.rows is))
      ∙ ap₂ (λ (a b : List ℕ). a ++ b) (node-line k r)
      (ap₂ (λ (a b : List ℕ). a ++ b) (items-written (take r.rows is)) (groups-written (k + 1) ns (drop r.rows is)) ∙ sym
      (written-append (the_items f (take r.rows is)) (the_groups f (k + 1) ns (drop r.rows is))))
      ∙ append_assoc (node_text k r) (0x0A ∷ []) _

  -- no more lines than rows
  few-lines : (is : List Item) → length (the_items f is) ≤ length is
  few-lines [] = omega arith
  few-lines (r ∷ is) = let a = length-append (item_texts f r) (the_items f is) in let b = by (is_hidden r) in let c = few-lines is in omega arith
    where
      by : (b : Bool) → length (cond b [] (item_text f r ∷ [])) ≤ 1
      by true = omega arith
      by false = omega arith

-- ---- the first line

module _ (v size n m : ℕ) where
  abbrev counts : List ℕ
  counts = version_text v ++ tabs (decimal size ∷ decimal n ∷ decimal m ∷ [])

  abbrev first : Bool → List ℕ
  first e = word e ++ 0x09 ∷ counts

  first-line : first_line v size n m ≡ first false ++ 0x0A ∷ []
  unfolding first_line number tabbed
  first-line = simp append_assoc

  second-line : first_line2 v size n m ≡ first true ++ 0x0A ∷ []
  unfolding first_line2 number tabbed
  second-line = simp append_assoc

  version-clean : (c : ℕ) → c < 0x20 → Clean c (version_text v)
  unfolding version_text
  version-clean c l =
      let t : (n : ℕ) → Clean c (decimal n) = clean_decimal c (omega arith) in
      clean_append c (decimal (v / 100) ++ 0x2E ∷ decimal (v / 10 % 10)) (decimal (v % 10))
      (clean_append c (decimal (v / 100)) (0x2E ∷ decimal (v / 10 % 10)) (t (v / 100)) (ne_eqb 0x2E c (λ e. omega arith), t (v / 10 % 10)))
      (t (v % 10))

  numbers-clean : (c : ℕ) → c < 0x20 → AllClean c (decimal size ∷ decimal n ∷ decimal m ∷ [])
  numbers-clean c l = let t : (n : ℕ) → Clean c (decimal n) = clean_decimal c (omega arith) in (t size, (t n, (t m, tt)))

  first-clean : Clean 0x0A (first false)
  first-clean = (
    refl,
    (
      refl,
      (
        refl,
        (
          refl,
          clean_append 0x0A (version_text v) _ (version-clean 0x0A (omega arith))
              (clean_tabs 0x0A refl (decimal size ∷ decimal n ∷ decimal m ∷ []) (numbers-clean 0x0A (omega arith))),
        ),
      ),
    ),
  )

  counts-parted : parted 0x09 counts ≡ version_text v ∷ decimal size ∷ decimal n ∷ decimal m ∷ []
  unfolding fields
  counts-parted = fields-are (version_text v) (decimal size ∷ decimal n ∷ decimal m ∷ []) (version-clean 0x09 (omega arith)) (numbers-clean 0x09 (omega arith))

  is-version : IsVersion v → is_version (version_text v) ≡ true
  unfolding is_version version_text decimal digits same
  is-version (inl e) = rw e refl
  is-version (inr (inl e)) = rw e refl
  is-version (inr (inr e)) = rw e refl

  module _ (hv : IsVersion v) (hs : size < 2 ^ 28) (hn : n < 2 ^ 28) (hm : m < 2 ^ 28) where
    counts-fit : fits tests (parted 0x09 counts) ≡ true
    unfolding fits
    counts-fit = rw counts-parted (rw (is-version hv, spelled size hs, spelled n hn, spelled m hm) refl)

    counts-agree : (k : ℕ) → k ≤ m → (eqb n (value 0 (field 3 (first false))) && leb k (value 0 (field 4 (first false)))) ≡ true
    counts-agree k l =
        let a : field 3 (first false) ≡ decimal n = first-third false counts ∙ ap (λ (ps : Lines). get_or ps 2 []) counts-parted in
        let b : field 4 (first false) ≡ decimal m = first-fourth false counts ∙ ap (λ (ps : Lines). get_or ps 3 []) counts-parted in
        rw (a, b, value-decimal n hn, value-decimal m hm, eq-eqb n n refl, le-leb k m l) refl

-- ---- rows whose words are small, in node order

module _ (f : List ℕ) (bytes : Bytes f) (h : Header) (ns : List Node) (is : List Item) (p : SmallRows f h ns is) (order : map node_of is ≡ spread 0 ns) where
  abbrev body : Lines
  body = the_nodes f 0 ns ++ the_items f is

  abbrev first_of : Bool → List ℕ
  first_of e = first h.version (length f) (length ns) (length is) e

  first-written : lines_of h.version f ns is ≡ written (first_of false ∷ body)
  unfolding lines_of
  first-written =
      append_assoc (first_line h.version (length f) (length ns) (length is)) (sheet.node_lines 0 ns) (sheet.item_lines f is)
      ∙ ap₂ (λ (a b : List ℕ). a ++ b) (first-line h.version (length f) (length ns) (length is))
      (ap₂ (λ (a b : List ℕ). a ++ b) (nodes-written f 0 ns) (items-written f is) ∙ sym (written-append (the_nodes f 0 ns) (the_items f is)))
      ∙ sym (written-cons (first_of false) body)

  second-written : lines2_of h.version f ns is ≡ written (first_of true ∷ the_groups f 0 ns is)
  unfolding lines2_of
  second-written =
      ap₂ (λ (a b : List ℕ). a ++ b) (second-line h.version (length f) (length ns) (length is)) (groups-written f 0 ns is)
      ∙ sym (written-cons (first_of true) (the_groups f 0 ns is))

  spread_same : (k : ℕ) (ns : List Node) → spread k ns ≡ owners rows_of node_of node_text (item_texts f) k ns
  spread_same k [] = refl
  spread_same k (r ∷ ns) = ap (λ (v : List ℕ). replicate r.rows k ++ v) (spread_same (k + 1) ns)

  parted-is : parted 0x0A (lines_of h.version f ns is) ≡ first_of false ∷ body ++ [] ∷ []
  parted-is =
      ap (parted 0x0A) first-written
      ∙ written-parted (first_of false ∷ body) (
        first-clean h.version (length f) (length ns) (length is),
        pieces.clean_append 0x0A (the_nodes f 0 ns) (the_items f is)
            (nodes-clean f 0 ns) (items-are f bytes is p.items).1,
      )

  abbrev texts : List ℕ
  texts = counts h.version (length f) (length ns) (length is)

  texts-fit : fits tests (parted 0x09 texts) ≡ true
  texts-fit = counts-fit h.version (length f) (length ns) (length is) p.version p.size p.node-count p.item_count

  kinds-nodes : NodesAre rows_of node_of node_text (item_texts f) 0 ns
  kinds-nodes = let few = p.node-count in nodes-are f 0 ns (omega arith) p.nodes

  kinds-items : ItemsAre rows_of node_of node_text (item_texts f) is
  kinds-items = (items-are f bytes is p.items).0

  owned : map node_of is ≡ owners rows_of node_of node_text (item_texts f) 0 ns
  owned = order ∙ spread_same 0 ns

  -- the first edition is well formed
  first-well : (t : State) × (judged false (first_of false ∷ body ++ [] ∷ []) ≡ good t)
  first-well =
      let m = length (the_items f is) in let z : 0 + length ns ≡ length ns = omega arith in
      let b = subst (λ k. FirstBody body k m) z (first_body rows_of node_of node_text (item_texts f) ns is kinds-nodes kinds-items owned) in
      let a = counts-agree h.version (length f) (length ns) (length is) p.version p.size p.node-count p.item_count m (few-lines f is) in
      judged-well false (first_of false) body (length ns) m (first-is false texts texts-fit) b a

  well : WellFormed false (lines_of h.version f ns is)
  well = (first-well.0, ap (judged false) parted-is ∙ first-well.1)

  -- and moves to the second
  over : move (lines_of h.version f ns is) ≡ good (lines2_of h.version f ns is)
  unfolding lead
  over =
      let groups = first-to_second rows_of node_of node_text (item_texts f) ns is kinds-nodes kinds-items owned in
      let there = moved_on false (first_of false) body ∙ ap₂ (λ (x : List ℕ) (y : Lines). x ∷ y) (renamed-is false texts) groups in
      move-is (lines_of h.version f ns is) false (first_of false ∷ body ++ [] ∷ []) parted-is (first_says false texts texts-fit) ∙ rw
      first-well.1 (ap good (ap written there ∙ sym second-written))

-- ---- The sheet of an accepted file is well formed, in either edition, and the mover takes it to the other edition that is written of the file.

module _ (lim : Limits) (f : List ℕ) (bytes : Bytes f) {h : Header} {ns : List Node} {is : List Item} (e : read_file lim f ≡ rows h ns is) where
  abbrev edition : Bool → List ℕ
  edition second = lines_in second h.version f ns is

  -- both editions, the first moved over and back
  both : WellFormed false (edition false) × WellFormed true (edition true) × (move (edition false) ≡ good (edition true)) × (move (edition true) ≡ good (edition false))
  both =
      let small = small-rows lim f e in let order = (in_row_order lim f e).items-follow in
      let w = well f bytes h ns is small order in
      let (t, there, o, back) = moves false (edition false) w in
      let there' = over f bytes h ns is small order in let q : t ≡ edition true = cc in
      (w, subst (WellFormed true) q o.is, there', rw q at back)

  pub file-well : (second : Bool) → WellFormed second (edition second)
  file-well false = both.0
  file-well true = both.1

  -- with any room, the mover answers to one edition what the writer of the other answers to the file
  pub moved-as_written : (second : Bool) (room : ℕ) → fitting room (move (edition second)) ≡ write_in (not second) room f h ns is
  unfolding write write2 sheet_of
  moved-as_written false room = ap (fitting room) both.2
  moved-as_written true room = ap (fitting room) both.3
