-- The two passes, row by row.
-- Assumes nothing.
use mathlib.Core.Path.{◌≡◌, refl, sym, ap, ap₂, ◌∙◌, subst}
use mathlib.Core.Bool.{Bool, false}
use mathlib.Core.List.{List, [], ◌∷◌, ◌++◌, append_assoc}
use Prim.Native.Nat.{ℕ, zero, suc, ◌+◌, ◌-◌, ◌≤◌, ◌<◌, min}
use native.Mathlib.Decide.{dec_le, dec_lt}
use native.Mathlib.Omega.{arith}
use lib.ListN.{length, get_or, take, drop, set, drop_of_length-le, length-append, length-drop, length-set}
use lib.Seq.{drop-cons, drop-length, drop-drop, take_all, get_or-set_same, get_or-set_other}
use Rattle.room.specs.Parts.{part, joined}
use Rattle.cursor.specs.declared.Node.{Node}
use Rattle.metadata.specs.Tables.{most_nodes}
use Rattle.rows.specs.Rows.{ItemRows}
use Rattle.title_text.specs.Description.{Content, shape}
use Rattle.title_text.specs.Text.{items_text, node_text, whole_text}
use Rattle.title_text.proofs.Nodes.{whole_length}
use Rattle.room.specs.Counts.{Counts, too_many}
use Rattle.room.proofs.Counting.{Going, going_start, going_on, going_end}
use Rattle.title_items.specs.Contents.{contents_from}
use Rattle.title_parts.specs.Told.{PackedAs}
use Rattle.title_parts.specs.declared.Packed.{Packed}
use Rattle.title_nodes.specs.Passes.{size_stop, sum_of, Task, first_item, node_of, shape_of, contents_of, outer_from, inner_of, Outside, Leaf, Sound, Laid, Measured, Framed}
use Rattle.title_nodes.specs.Told.{Appends}
use Rattle.title_nodes.specs.declared.Frame.{Frame}
use Rattle.title_nodes.specs.declared.Run.{Run}
use Rattle.title_nodes.proofs.Rows.{first_on, first-start, rows_fit, outer-end, outer-on, text-on, inner_within}
use Rattle.title_nodes.proofs.Nodes.{texts-within}

-- ---- a sum that stops

-- what was added of the first i words, and what is left
pub record Adding (ws : List ℕ) (r i : ℕ) : Type 0 where
  pub few : r ≤ size_stop
  pub same : min (r + sum_of (drop i ws)) size_stop ≡ min (sum_of ws) size_stop

pub adding_start : (ws : List ℕ) → Adding ws 0 0
adding_start ws = record { few = omega arith; same = omega arith }

pub adding_on : {ws : List ℕ} {r i : ℕ} → Adding ws r i → i < length ws → {q : ℕ} → q ≡ min (r + get_or ws i 0) size_stop → Adding ws q (i + 1)
adding_on {ws} {r} {i} a l e =
    let j : suc i ≡ i + 1 = omega arith in
    let p : drop i ws ≡ get_or ws i 0 ∷ drop (i + 1) ws = rw (drop-cons ws i 0 (omega arith), j) refl in
    let t = ap sum_of p in let u = a.same in
    record { few = omega arith; same = omega arith }

pub adding_end : {ws : List ℕ} {r i : ℕ} → Adding ws r i → length ws ≤ i → r ≡ min (sum_of ws) size_stop
adding_end {ws} {r} {i} a l =
    let t : sum_of (drop i ws) ≡ 0 = ap sum_of (drop_of_length-le ws {i = i} (omega arith)) in
    let u = a.same in let v = a.few in
    omega arith

-- ---- lengths that stop

abbrev pub stops : List (List ℕ) → List ℕ
stops [] = []
stops (s ∷ ss) = min (length s) size_stop ∷ stops ss

stops-length : (ss : List (List ℕ)) → length (stops ss) ≡ length ss
stops-length [] = refl
stops-length (s ∷ ss) = ap suc (stops-length ss)

take-stops : (n : ℕ) (ss : List (List ℕ)) → take n (stops ss) ≡ stops (take n ss)
take-stops zero ss = refl
take-stops (suc n) [] = refl
take-stops (suc n) (s ∷ ss) = ap (λ v. min (length s) size_stop ∷ v) (take-stops n ss)

drop-stops : (n : ℕ) (ss : List (List ℕ)) → drop n (stops ss) ≡ stops (drop n ss)
drop-stops zero ss = refl
drop-stops (suc n) [] = refl
drop-stops (suc n) (s ∷ ss) = drop-stops n ss

sum-stops : (ss : List (List ℕ)) → min (sum_of (stops ss)) size_stop ≡ min (length (joined ss)) size_stop
sum-stops [] = refl
sum-stops (s ∷ ss) = let e = sum-stops ss in omega (arith, length-append s (joined ss))

drop-set : (l : List ℕ) (k a : ℕ) → k < length l → drop k (set l k a) ≡ a ∷ drop (k + 1) l
drop-set [] k a h = absurd (omega arith)
drop-set (x ∷ l) zero a h = refl
drop-set (x ∷ l) (suc k) a h = let e : suc k + 1 ≡ suc (k + 1) = omega arith in rw e (drop-set l k a (omega arith))

-- ---- the first pass

-- the rows from row i on are measured; `end` is the first item row of row i, and the stack's words from `top` on are the sizes of the nodes that no other of these holds
pub record Measuring (x : Task) (i end top : ℕ) (sizes metadata packed : List ℕ) (same : List Bool) (headers lengths : List ℕ) : Type 0 where
  pub within : i ≤ x.count
  pub first : end ≡ first_item x.nodes i
  pub room : (top ≤ most_nodes) × (most_nodes ≤ top + (x.count - i))
  pub stacked : length sizes ≡ most_nodes
  pub long : (length metadata ≡ most_nodes) × (length packed ≡ most_nodes) × (length same ≡ most_nodes) × (length headers ≡ most_nodes) × (length lengths ≡ most_nodes)
  pub stack : drop top sizes ≡ stops (outer_from x i)
  pub measured : Measured x i metadata packed same headers lengths

gone : (l : List ℕ) {n : ℕ} → length l ≡ n → drop n l ≡ []
gone l e = rw e at (drop-length l)

pub measuring_start : {x : Task} → Sound x → {sizes metadata packed : List ℕ} {same : List Bool} {headers lengths : List ℕ} → length sizes ≡ most_nodes
    → (length metadata ≡ most_nodes) × (length packed ≡ most_nodes) × (length same ≡ most_nodes) × (length headers ≡ most_nodes) × (length lengths ≡ most_nodes)
    → Measuring x x.count x.total most_nodes sizes metadata packed same headers lengths
measuring_start s {sizes} a b = record {
  within = omega arith;
  first = sym s.all-items;
  room = (omega arith, omega arith);
  stacked = a;
  long = b;
  stack = gone sizes a ∙ sym (ap stops (outer-end s));
  measured = record { laid = λ j l m. absurd (omega arith) };
}

module _ {x : Task} (s : Sound x) {i end top : ℕ} {sizes metadata packed : List ℕ} {same : List Bool} {headers lengths : List ℕ}
    (w : Measuring x i end top sizes metadata packed same headers lengths) (some : 0 < i) where
  -- the row before row i
  abbrev j : ℕ
  j = i - 1

  abbrev contained : ℕ
  contained = (node_of x j).contained

  abbrev below : List (List ℕ)
  below = outer_from x (j + 1)

  back : i ≡ j + 1
  back = omega arith

  pub here : j < x.count
  here = omega (arith, w.within)

  first-is : end ≡ first_item x.nodes j + (node_of x j).rows
  first-is = w.first ∙ ap (first_item x.nodes) back ∙ first_on x.nodes j

  stack_is : drop top sizes ≡ stops below
  stack_is = w.stack ∙ ap (λ v. stops (outer_from x v)) back

  -- the stack has the nodes that this one holds, and room for one more
  stack_has : top + contained ≤ most_nodes
  stack_has =
      let l = w.stacked in let r = w.room.0 in
      omega (arith, length-drop top sizes, ap length stack_is, stops-length below, s.nodes-follow j here)

  pub stack_room : 1 ≤ top
  stack_room = let r = w.room.1 in omega (arith, here, s.few)

  pub items-here : ItemRows (length x.file) end x.items
  items-here =
      let e = rows_fit s j here in let f = first-is in
      (omega (arith, s.items-inside.0), λ k l. s.items-inside.1 k (omega arith))

  -- what is known of the row
  module _ {m n : ℕ} {p : Packed} {f : Frame} (em : m ≡ min
      (length (items_text (contents_from x.file x.row x.title x.items (end - (node_of x j).rows) (end - (end - (node_of x j).rows)))))
      size_stop)
      (en : n ≡ min (sum_of (part sizes top (top + contained - top))) size_stop)
      (ep : PackedAs x.file (node_of x j) p)
      (ef : (cs : List Content) → m ≡ min (length (items_text cs)) size_stop → Framed (shape_of x j) cs n f) where
    texts-are : m ≡ min (length (items_text (contents_of x j))) size_stop
    texts-are =
        let e = first-is in
        let a : end - (node_of x j).rows ≡ first_item x.nodes j = omega arith in
        let b : end - (end - (node_of x j).rows) ≡ (node_of x j).rows = omega arith in
        em ∙ ap₂ (λ (k c : ℕ). min (length (items_text (contents_from x.file x.row x.title x.items k c))) size_stop) a b

    inner_is : n ≡ min (inner_of x j) size_stop
    inner_is =
        let a : top + contained - top ≡ contained = omega arith in
        let b : part sizes top (top + contained - top) ≡ stops (take contained below) = rw a (ap (take contained) stack_is ∙ take-stops contained below) in
        en ∙ ap (λ v. min (sum_of v) size_stop) b ∙ sum-stops (take contained below)

    size_is : f.size ≡ min (length (whole_text (shape_of x j) (contents_of x j) (joined (take contained below)))) size_stop
    size_is =
        let a = (ef (contents_of x j) texts-are).stops in
        let b = whole_length (shape_of x j) (contents_of x j) (joined (take contained below)) in
        let c = inner_is in
        elim (dec_lt (inner_of x j) size_stop) [
          | yes l ↦ let d : n ≡ inner_of x j = omega arith in rw d at a ∙ sym (ap (λ v. min v size_stop) b)
          | no l ↦ omega arith
        ]

    laid-here : Laid x j m p.size p.same f.header f.size
    laid-here = record { texts = texts-are; unpackers = ep; framed = subst (λ v. Framed (shape_of x j) (contents_of x j) v f) inner_is (ef (contents_of x j) texts-are) }

    here_in : {n : ℕ} → n ≡ most_nodes → j < n
    here_in e = omega (arith, here, s.few)

    laid_on : (k : ℕ) → j ≤ k → k < x.count → Laid x k (get_or (set metadata j m) k 0) (get_or (set packed j p.size) k 0) (get_or (set same j p.same) k false)
        (get_or (set headers j f.header) k 0) (get_or (set lengths j f.size) k 0)
    laid_on k a b = elim (dec_le i k) [
      | yes c ↦
          let o : (k ≡ j) → ⊥ = λ z. omega arith in
          rw (
            get_or-set_other metadata j k m 0 o,
            get_or-set_other packed j k p.size 0 o,
            get_or-set_other same j k p.same false o,
            get_or-set_other headers j k f.header 0 o,
            get_or-set_other lengths j k f.size 0 o,
          ) (w.measured.laid k c b)
      | no c ↦
          let z : k ≡ j = omega arith in let l = w.long in
          rw z (rw (
            get_or-set_same metadata j m 0 (here_in l.0),
            get_or-set_same packed j p.size 0 (here_in l.1),
            get_or-set_same same j p.same false (here_in l.2),
            get_or-set_same headers j f.header 0 (here_in l.3),
            get_or-set_same lengths j f.size 0 (here_in l.4),
          ) laid-here)
    ]

    measuring_on : Measuring x j (end - (node_of x j).rows) (top + contained - 1) (set sizes (top + contained - 1) f.size) (set metadata j m) (set packed j p.size)
        (set same j p.same) (set headers j f.header) (set lengths j f.size)
    measuring_on =
        let e = first-is in let l = w.long in let t = w.stacked in let h = stack_has in let o = stack_room in
        let r = w.room.1 in
        let q : top + contained - 1 + 1 ≡ top + contained = omega arith in
        record {
          within = omega (arith, here);
          first = omega arith;
          room = (omega arith, omega arith);
          stacked = length-set sizes (top + contained - 1) f.size ∙ t;
          long = (
            length-set metadata j m ∙ l.0,
            length-set packed j p.size ∙ l.1,
            length-set same j p.same ∙ l.2,
            length-set headers j f.header ∙ l.3,
            length-set lengths j f.size ∙ l.4,
          );
          stack =
              drop-set sizes (top + contained - 1) f.size (omega arith)
              ∙ ap₂ (λ (v : ℕ) (vs : List ℕ). v ∷ vs) size_is
              (ap (λ k. drop k sizes) q ∙ sym (drop-drop contained top sizes) ∙ ap (drop contained) stack_is ∙ drop-stops contained below)
              ∙ sym (ap stops (outer-on s j here));
          measured = record { laid = laid_on };
        }

  -- by the row that was read
  module _ {r : Node} (er : r ≡ node_of x j) where
    pub first-row : end ≡ first_item x.nodes j + r.rows
    first-row = rw er first-is

    pub stack_row : top + r.contained ≤ most_nodes
    stack_row = rw er stack_has

    pub inside-row : r.target + r.extent ≤ length x.file
    inside-row = rw er (s.bodies_inside j here)

    pub measuring_row : {m n : ℕ} {p : Packed} {f : Frame} → m ≡ min
        (length (items_text (contents_from x.file x.row x.title x.items (end - r.rows) (end - (end - r.rows))))) size_stop → n ≡ min
        (sum_of (part sizes top (top + r.contained - top))) size_stop → PackedAs x.file r p
        → ((cs : List Content) → m ≡ min (length (items_text cs)) size_stop → Framed (shape x.file r) cs n f) → Measuring x j (end - r.rows)
        (top + r.contained - 1) (set sizes (top + r.contained - 1) f.size) (set metadata j m) (set packed j p.size) (set same j p.same)
        (set headers j f.header) (set lengths j f.size)
    measuring_row em en ep ef = rw er (measuring_on (rw er at em) (rw er at en) (rw er at ep) (rw er at ef))

-- all rows are measured
module _ {x : Task} {i end top : ℕ} {sizes metadata packed : List ℕ} {same : List Bool} {headers lengths : List ℕ}
    (w : Measuring x i end top sizes metadata packed same headers lengths) (none : i ≤ 0) where
  at_first : i ≡ 0
  at_first = omega arith

  pub measured_all : Measured x 0 metadata packed same headers lengths
  measured_all = subst (λ k. Measured x k metadata packed same headers lengths) at_first w.measured

  pub tree-size : {r : ℕ} → r ≡ min (sum_of (part sizes top (most_nodes - top))) size_stop → r ≡ min (length (joined (outer_from x 0))) size_stop
  tree-size e =
      let l = w.stacked in
      let a : part sizes top (most_nodes - top) ≡ stops (outer_from x 0) = take_all (most_nodes - top) (drop top sizes)
      (omega (arith, length-drop top sizes)) ∙ w.stack ∙ ap (λ k. stops (outer_from x k)) at_first in
      e ∙ ap (λ v. min (sum_of v) size_stop) a ∙ sum-stops (outer_from x 0)

-- ---- the second pass

-- the rows before row i are appended, and `first` is the first item row of row i
pub record Putting (x : Task) (o o' : List ℕ) (to : ℕ) (r : Run) (first i : ℕ) : Type 0 where
  pub within : i ≤ x.count
  pub first-is : first ≡ first_item x.nodes i
  pub inside : r.from + r.size ≤ length x.file
  pub going : Going o o' to r.next (joined (outer_from x 0)) (part x.file r.from r.size ++ joined (outer_from x i))

pub putting-start : {x : Task} (o : List ℕ) {to : ℕ} → to ≤ too_many → Putting x o o to (record { next = to; from = 0; size = 0 }) 0 0
putting-start {x} o l = record { within = omega arith; first-is = sym (first-start x.nodes); inside = omega arith; going = going_start o l refl }

module _ {x : Task} (s : Sound x) {o o' : List ℕ} {to : ℕ} {run : Run} {first i : ℕ} (w : Putting x o o' to run first i) (l : i < x.count)
    {m u : ℕ} {b : Bool} {h z : ℕ} (laid : Laid x i m u b h z) (small : length (joined (outer_from x 0)) < size_stop) where
  -- the contents by the code's numbers
  abbrev contents : List Content
  contents = contents_from x.file x.row x.title x.items first (first + (node_of x i).rows - first)

  contents-are : contents ≡ contents_of x i
  contents-are =
      let e : first + (node_of x i).rows - first ≡ (node_of x i).rows = omega arith in
      ap₂ (λ (k n : ℕ). contents_from x.file x.row x.title x.items k n) w.first-is e

  -- a node and all after it have fewer bytes than the whole
  node-small : length (node_text (shape_of x i) (contents_of x i) (inner_of x i)) + inner_of x i < size_stop
  node-small =
      let g = w.going in
      let t : List ℕ = node_text (shape_of x i) (contents_of x i) (inner_of x i) in
      let p : List ℕ = part x.file run.from run.size in
      omega (
        arith,
        length-append g.done (p ++ joined (outer_from x i)),
        length-append p (joined (outer_from x i)),
        ap length g.left,
        ap length (text-on s i l),
        length-append t (joined (outer_from x (i + 1))),
        inner_within s i l,
      )

  texts-here : m ≡ length (items_text contents)
  texts-here =
      let e = laid.texts in let k = node-small in
      let t = texts-within (shape_of x i) (contents_of x i) (inner_of x i) in
      rw contents-are (omega arith)

  framed-here : Framed (shape_of x i) contents (inner_of x i) (record { header = h; size = z })
  framed-here =
      let k = node-small in
      let e : min (inner_of x i) size_stop ≡ inner_of x i = omega arith in
      rw contents-are (rw e at laid.framed)

  small-here : length (node_text (shape_of x i) contents (inner_of x i)) + inner_of x i < size_stop
  small-here = rw contents-are node-small

  leaf_here : Leaf x.file (node_of x i) contents (Outside x.row first (first + (node_of x i).rows))
  leaf_here = rw (contents-are, w.first-is) (s.leaves i l)

  -- one that holds no nodes
  inner_none : (node_of x i).contained ≡ 0 → inner_of x i ≡ 0
  inner_none e = ap (λ v. length (joined (take v (outer_from x (i + 1))))) e

  putting-on : {o'' : List ℕ} {r : Run} → Appends x.file o' o'' run (node_text (shape_of x i) contents (inner_of x i)) r → Putting x o o'' to r (first + (node_of x i).rows) (i + 1)
  putting-on {r = r} a =
      let p : List ℕ = part x.file run.from run.size in
      let q : List ℕ = part x.file r.from r.size in
      let t : List ℕ = node_text (shape_of x i) (contents_of x i) (inner_of x i) in
      let rest : List ℕ = joined (outer_from x (i + 1)) in
      let e : node_text (shape_of x i) contents (inner_of x i) ≡ t = ap (λ v. node_text (shape_of x i) v (inner_of x i)) contents-are in
      record {
        within = omega arith;
        first-is = ap (λ n. n + (node_of x i).rows) w.first-is ∙ sym (first_on x.nodes i);
        inside = a.inside;
        going = going_on
            (ap (λ v. p ++ v) (text-on s i l) ∙ sym (append_assoc p t rest) ∙ ap (λ v. (p ++ v) ++ rest) (sym e) ∙ ap (λ v. v ++ rest) (sym a.text) ∙
            append_assoc a.put q rest)
            w.going a.counts;
      }

-- by the row that was read
module _ {x : Task} (s : Sound x) {o o' : List ℕ} {to : ℕ} {run : Run} {first i : ℕ} (w : Putting x o o' to run first i) (l : i < x.count) {r : Node} (er : r ≡ node_of x i) where
  pub rows-room : first + r.rows ≤ x.total
  rows-room = rw (er, w.first-is) (rows_fit s i l)

  pub inside-here : r.target + r.extent ≤ length x.file
  inside-here = rw er (s.bodies_inside i l)

  pub node-here : r.start + r.size ≤ length x.file
  node-here = rw er (s.nodes-inside i l)

  pub items-room : ItemRows (length x.file) (first + r.rows) x.items
  items-room = let e = rows-room in (omega (arith, s.items-inside.0), λ k m. s.items-inside.1 k (omega arith))

  module _ {m u : ℕ} {b : Bool} {h z : ℕ} (laid : Laid x i m u b h z) (small : length (joined (outer_from x 0)) < size_stop) where
    pub texts-row : m ≡ length (items_text (contents_from x.file x.row x.title x.items first (first + r.rows - first)))
    texts-row = rw er (texts-here s w l laid small)

    pub packed-row : PackedAs x.file r (record { size = u; same = b })
    packed-row = rw er laid.unpackers

    pub leaf_row : Leaf x.file r (contents_from x.file x.row x.title x.items first (first + r.rows - first)) (Outside x.row first (first + r.rows))
    leaf_row = rw er (leaf_here s w l laid small)

    pub putting-row : {o'' : List ℕ} {q : Run}
        → ((inner : ℕ) → (r.contained ≡ 0 → inner ≡ 0)
        → Framed (shape x.file r) (contents_from x.file x.row x.title x.items first (first + r.rows - first)) inner (record { header = h; size = z })
        → length (node_text (shape x.file r) (contents_from x.file x.row x.title x.items first (first + r.rows - first)) inner) + inner < size_stop
        → Appends x.file o' o'' run (node_text (shape x.file r) (contents_from x.file x.row x.title x.items first (first + r.rows - first)) inner) q)
        → Putting x o o'' to q (first + r.rows) (i + 1)
    putting-row p = rw er (putting-on s w l laid small
        ((rw er at p) (inner_of x i) (inner_none s w l laid small) (framed-here s w l laid small) (small-here s w l laid small)))

pub putting-end : {x : Task} (s : Sound x) {o o' : List ℕ} {to : ℕ} {r : Run} {first i : ℕ} → Putting x o o' to r first i → x.count ≤ i → {o'' : List ℕ} {n : ℕ}
    → Counts o' o'' r.next (part x.file r.from r.size) n → Counts o o'' to (joined (outer_from x 0)) n
putting-end {x} s {i = i} w l p =
    let k = w.within in let e : i ≡ x.count = omega arith in
    going_end (ap (λ v. joined (outer_from x v)) e ∙ ap joined (outer-end s)) (going_on refl w.going p)
