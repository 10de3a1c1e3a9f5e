-- The rows of a file that was read are as the passes want them, and what they put is the file with that title.
-- Assumes nothing.
use mathlib.Core.Path.{◌≡◌, refl, sym, ap, ◌∙◌, subst}
use mathlib.Core.Logic.{◌⊎◌, inl, inr}
use mathlib.Core.Bool.{false}
use mathlib.Core.List.{List, [], ◌∷◌, ◌++◌, append_assoc, append-nil, map}
use Prim.Native.Nat.{ℕ, zero, suc, ◌+◌, ◌-◌, ◌*◌, ◌≤◌, ◌<◌}
use native.Mathlib.Omega.{arith}
use lib.ListN.{length, drop, length-append, length-map}
use lib.Seq.{drop_at}
use borrow.Author.Tests.{eq-eqb, ne_eqb}
use Rattle.room.specs.Parts.{part, joined}
use Rattle.cursor.specs.declared.Node.{Node}
use Rattle.room.proofs.Lies.{lies_part}
use Rattle.header.specs.Types.{Declared}
use Rattle.metadata.specs.declared.Limits.{Limits}
use Rattle.metadata.specs.declared.Made.{Made}
use Rattle.rows.specs.Rows.{item_width, nodes_from, item_from, items_from, nodes_in, items_in, node_at, rows_from}
use Rattle.file.proofs.Rows.{accepted}
use Rattle.rows.proofs.Rows.{node_at_lem, item-at, nodes-in_length, items-in_length}
use Rattle.title_text.specs.Description.{Content, content, Shape, shape, titled, titled_at}
use Rattle.title_text.specs.Text.{node_text, whole_text, outer}
use Rattle.title_text.specs.Title.{elsewhere}
use Rattle.title_text.proofs.Nodes.{Nodes, none, more, nodes-length, nodes-outer, AllStay}
use Rattle.title_text.proofs.Follows.{all_stay}
use Rattle.title_text.proofs.Theorem.{grammar}
use Rattle.title_text.proofs.Covers.{Covers, covers-as}
use Rattle.title_text.proofs.Levels.{Whole, Each}
use Rattle.title_text.proofs.Shortest.{rows-stand}
use Rattle.title_items.specs.Contents.{content_at, contents_from}
use Rattle.title_nodes.specs.Passes.{Task, task, first_item, node_of, shape_of, contents_of, outer_from, Outside, Leaf, Sound}
use Rattle.title_file.specs.Stands.{Stands}
use Rattle.title_nodes.proofs.Rows.{contents-take, contents-drop, nodes-on, first_on, first-start}

-- ---- node rows and item rows one after the other

-- each node has its contents and its nodes among those that follow
abbrev Follows : List Shape → List Content → Type 0
Follows [] cs = length cs ≡ 0
Follows (r ∷ rs) cs = (r.rows ≤ length cs) × (r.contained ≤ length (outer rs (drop r.rows cs))) × Follows rs (drop r.rows cs)

module _ {lim : Limits} {types : List Declared} where
  nodes-follow : {d parent n : ℕ} {m : Made} {rs : List Shape} {cs : List Content} {bs : List (List ℕ)} → Nodes lim types d parent m n rs cs
      bs → (ss : List Shape) (ds : List Content) → Follows ss ds → Follows (rs ++ ss) (cs ++ ds)
  nodes-follow none ss ds w = w
  nodes-follow (more {r = r} {rs = rs} {ss = ts} {cs = cs} {ds = es} {es = fs} {inner = inner} {bs = bs} f ys xs) ss ds w =
      let e = f.counted in let l = nodes-length ys in let i = nodes-outer ys (ts ++ ss) (fs ++ ds) in
      let k = nodes-follow ys (ts ++ ss) (fs ++ ds) (nodes-follow xs ss ds w) in
      rw (append_assoc (cs ++ es) fs ds, append_assoc cs es (fs ++ ds), append_assoc rs ts ss, drop_at cs (es ++ (fs ++ ds)) r.rows e)
      (omega (arith, length-append cs (es ++ (fs ++ ds))), omega (arith, ap length i, length-append inner (outer (ts ++ ss) (fs ++ ds))), k)

  nodes-few : {d parent n : ℕ} {m : Made} {rs : List Shape} {cs : List Content} {bs : List (List ℕ)} → Nodes lim types d parent m n rs cs bs →
      m.nodes ≤ lim.nodes → m.nodes + length rs ≤ lim.nodes
  nodes-few none l = omega arith
  nodes-few (more {rs = rs} {ss = ss} f ys xs) l = omega (arith, nodes-few xs (omega (arith, nodes-few ys (omega (arith, f.node-room)))), length-append rs ss)

-- ---- by their rows

module _ (x : Task) where
  abbrev shapes : ℕ → List Shape
  shapes i = map (shape x.file) (nodes_from i (x.count - i) x.nodes)

  abbrev contents : ℕ → List Content
  contents k = contents_from x.file x.row x.title x.items k (x.total - k)

  contents-count : (k n : ℕ) → length (contents_from x.file x.row x.title x.items k n) ≡ n
  unfolding contents_from
  contents-count k zero = refl
  contents-count k (suc n) = ap suc (contents-count (k + 1) n)

  -- the rows from row i on
  pub record From (i : ℕ) : Type 0 where
    pub fits : first_item x.nodes i ≤ x.total
    pub follow : Follows (shapes i) (contents (first_item x.nodes i))

  module _ (i : ℕ) (l : i < x.count) (w : From i) where
    first-row : Follows (shape_of x i ∷ shapes (i + 1)) (contents (first_item x.nodes i))
    first-row = subst (λ v. Follows v (contents (first_item x.nodes i))) (ap (map (shape x.file)) (nodes-on x.nodes x.count i l)) w.follow

    rows-within : (node_of x i).rows ≤ x.total - first_item x.nodes i
    unfolding shape
    rows-within = let a = first-row.0 in omega (arith, contents-count (first_item x.nodes i) (x.total - first_item x.nodes i))

    contents-on : drop (node_of x i).rows (contents (first_item x.nodes i)) ≡ contents (first_item x.nodes (i + 1))
    contents-on =
        let a : ℕ = first_item x.nodes i in let n : ℕ = (node_of x i).rows in
        let e : x.total - a - n ≡ x.total - (a + n) = omega arith in
        contents-drop x.file x.row x.title x.items a n (x.total - a) rows-within ∙ rw (first_on x.nodes i, e) refl

    nodes-there : (node_of x i).contained ≤ length (outer_from x (i + 1))
    unfolding outer_from shape
    nodes-there = let a = first-row.1 in rw contents-on at a

    from_next : From (i + 1)
    unfolding shape
    from_next = record {
      fits = omega (arith, first_on x.nodes i, rows-within, w.fits);
      follow = let a = first-row.2 in rw contents-on at a;
    }

  from_row : From 0 → (i : ℕ) → i ≤ x.count → From i
  from_row w zero l = w
  from_row w (suc i) l = let e : i + 1 ≡ suc i = omega arith in subst From e (from_next i (omega arith) (from_row w i (omega arith)))

  from_end : From x.count → first_item x.nodes x.count ≡ x.total
  unfolding rows_from
  from_end w =
      let e : x.count - x.count ≡ 0 = omega arith in
      let a : Follows (shapes x.count) (contents (first_item x.nodes x.count)) = w.follow in
      let b : length (contents (first_item x.nodes x.count)) ≡ 0 = rw e at a in
      omega (arith, w.fits, contents-count (first_item x.nodes x.count) (x.total - first_item x.nodes x.count))

-- ---- the contents with that title

module _ (f : List ℕ) (row : ℕ) (title us : List ℕ) where
  other-contents : (k n : ℕ) → row < k → contents_from f row title us k n ≡ map (content f) (items_from k n us)
  unfolding contents_from content_at rows_from
  other-contents k zero l = refl
  other-contents k (suc n) l = rw (ne_eqb k row (λ e. omega arith)) (ap (λ v. content f (item_from us (k * item_width)) ∷ v) (other-contents (k + 1) n (omega arith)))

  titled-contents : (k n i : ℕ) → row ≡ k + i → contents_from f row title us k n ≡ titled_at i title (map (content f) (items_from k n us))
  unfolding contents_from content_at rows_from titled_at
  titled-contents k zero i e = refl
  titled-contents k (suc n) zero e = rw (eq-eqb k row (omega arith)) (ap (λ v. titled title (content f (item_from us (k * item_width))) ∷ v) (other-contents (k + 1) n (omega arith)))
  titled-contents k (suc n) (suc i) e = rw (ne_eqb k row (λ z. omega arith)) (ap (λ v. content f (item_from us (k * item_width)) ∷ v) (titled-contents (k + 1) n i (omega arith)))

  -- where the title is behind them, or before
  plain-contents : (k n : ℕ) → k + n ≤ row → contents_from f row title us k n ≡ map (content f) (items_from k n us)
  unfolding contents_from content_at rows_from
  plain-contents k zero l = refl
  plain-contents k (suc n) l = rw (ne_eqb k row (λ e. omega arith)) (ap (λ v. content f (item_from us (k * item_width)) ∷ v) (plain-contents (k + 1) n (omega arith)))

  outside-contents : (k n : ℕ) → Outside row k (k + n) → contents_from f row title us k n ≡ map (content f) (items_from k n us)
  outside-contents k n (inl l) = other-contents k n l
  outside-contents k n (inr l) = plain-contents k n l

  pub contents-titled : (n : ℕ) → contents_from f row title us 0 n ≡ titled_at row title (map (content f) (items_in n us))
  unfolding items_in
  contents-titled n = titled-contents 0 n row (omega arith)

-- ---- no reference 3

stay_at : (f : List ℕ) (ns : List Node) → AllStay (map (shape f) ns) → (i : ℕ) → i < length ns → ((node_at ns i).reference ≡ 3) → ⊥
unfolding shape
stay_at f [] a i l = absurd (omega arith)
stay_at f (r ∷ ns) a zero l = a.0.1
stay_at f (r ∷ ns) a (suc i) l = stay_at f ns a.1 i (omega arith)

other : {A : Type 0} {B : Type 0} → A ⊎ B → (A → ⊥) → B
other (inl a) h = absurd (h a)
other (inr b) h = b

-- ---- a file that was read

module _ {f t u : List ℕ} {count total : ℕ} (w : Stands f t u count total) (here : elsewhere (nodes_in count t) ≡ false) (row : ℕ) (title : List ℕ) where
  abbrev x : Task
  x = task f t u count total row title

  abbrev ns : List Node
  ns = nodes_in count t

  rows-here : length ns ≡ count
  rows-here = nodes-in_length t count

  shapes-are : shapes x 0 ≡ map (shape f) ns
  unfolding nodes_in
  shapes-are = let e : count - 0 ≡ count = omega arith in rw e refl

  contents-are : contents x 0 ≡ titled_at row title (map (content f) (items_in total u))
  contents-are = let e : total - 0 ≡ total = omega arith in rw e (contents-titled f row title u total)

  begin : From x 0
  begin =
      let g = grammar w.limits f w.reads here row title in
      let a = nodes-follow g.nodes [] [] refl in
      let b : Follows (map (shape f) ns) (titled_at row title (map (content f) (items_in total u))) = rw (append-nil, append-nil) at a in
      let c : Follows (shapes x 0) (contents x 0) = rw (shapes-are, contents-are) b in
      record { fits = rw (first-start t) (omega arith); follow = rw (first-start t) c }

  node-inside : (i : ℕ) → i < count → (node_of x i).target + (node_of x i).extent ≤ length f
  node-inside i l =
      let e = node_at_lem t count i l in let k : i < length ns = rw rows-here l in
      let a = ((accepted w.limits f w.reads).nodes-inside i k).2 in
      let b = stay_at f ns (all_stay f ns here) i k in
      rw e at (other a b)

  -- ---- each node by itself

  -- the contents of the file: no row gets the title
  abbrev plain : ℕ → ℕ → List Content
  plain k n = contents_from f total title u k n

  abbrev EachFrom : ℕ → Type 0
  EachFrom i = Each f (nodes_from i (count - i) t) (plain (first_item t i) (total - first_item t i))

  each-begin : EachFrom 0
  unfolding nodes_in items_in
  each-begin =
      let a = rows-stand w.limits f w.reads (all_stay f ns here) in
      let e₁ : total - 0 ≡ total = omega arith in let e₂ : count - 0 ≡ count = omega arith in
      rw (first-start t, e₁, e₂, plain-contents f total title u 0 total (omega arith)) a

  module _ (i : ℕ) (l : i < count) (e : EachFrom i) where
    rows_left : (node_of x i).rows ≤ total - first_item t i
    rows_left = rows-within x i l (from_row x begin i (omega arith))

    each-here : Each f (node_of x i ∷ nodes_from (i + 1) (count - (i + 1)) t) (plain (first_item t i) (total - first_item t i))
    each-here = subst (λ v. Each f v (plain (first_item t i) (total - first_item t i))) (nodes-on t count i l) e

    whole_here : Whole f (node_of x i) (plain (first_item t i) (node_of x i).rows)
    whole_here = subst (Whole f (node_of x i)) (contents-take f total title u (first_item t i) (node_of x i).rows (total - first_item t i) rows_left) each-here.0

    each_next : EachFrom (i + 1)
    each_next =
        let a : ℕ = first_item t i in let n : ℕ = (node_of x i).rows in
        let k : total - a - n ≡ total - (a + n) = omega arith in
        rw (first_on t i, ← k, ← contents-drop f total title u a n (total - a) rows_left) each-here.1

  each_row : (i : ℕ) → i ≤ count → EachFrom i
  each_row zero l = each-begin
  each_row (suc i) l = let e : i + 1 ≡ suc i = omega arith in subst EachFrom e (each_next i (omega arith) (each_row i (omega arith)))

  whole_row : (i : ℕ) → i < count → Whole f (node_of x i) (plain (first_item t i) (node_of x i).rows)
  whole_row i l = whole_here i l (each_row i (omega arith))

  leaf_covers : (i : ℕ) → i < count → (node_of x i).contained ≡ 0 → Covers f (node_of x i).start (node_text (shape_of x i) (plain (first_item t i) (node_of x i).rows) 0)
      ((node_of x i).start + (node_of x i).size)
  unfolding whole_text
  leaf_covers i l z =
      let h = whole_row i l in
      let cs : List Content = plain (first_item t i) (node_of x i).rows in
      covers-as (ap (whole_text (shape_of x i) cs) (h.alone z) ∙ append-nil (node_text (shape_of x i) cs 0)) h.covers

  leaf : (i : ℕ) → i < count → Leaf f (node_of x i) (contents_of x i) (Outside row (first_item t i) (first_item t i + (node_of x i).rows))
  leaf i l bytes z own e =
      let a : ℕ = first_item t i in let n : ℕ = (node_of x i).rows in let fit = (from_row x begin i (omega arith)).fits in
      let k = rows-within x i l (from_row x begin i (omega arith)) in
      let same : contents_of x i ≡ plain a n = outside-contents f row title u a n own ∙ sym (plain-contents f total title u a n (omega arith)) in
      let size : length (node_text (shape_of x i) (plain a n) 0) ≡ (node_of x i).size = sym (ap (λ v. length (node_text (shape_of x i) v 0)) same) ∙ e in
      let h = leaf_covers i l z in let inside = (whole_row i l).inside in
      ap (λ v. node_text (shape_of x i) v 0) same
      ∙ sym (lies_part {g = f} {p = (node_of x i).start} (record { inside = omega arith; same = (h.tight bytes (omega arith)).byte }))
      ∙ ap (part f (node_of x i).start) size

  pub ready : Sound x
  ready =
      let a = accepted w.limits f w.reads in
      let g = grammar w.limits f w.reads here row title in
      record {
        small = a.small;
        few = omega (arith, nodes-few g.nodes (omega arith), length-map ns (shape f), rows-here, w.few);
        node-room = w.node-room;
        items-inside = (w.item_room, λ k l. rw (item-at u total k l) at (a.items-inside k (rw (items-in_length u total) l)));
        bodies_inside = node-inside;
        all-items = from_end x (from_row x begin count (omega arith));
        nodes-follow = λ i l. nodes-there x i l (from_row x begin i (omega arith));
        nodes-inside = λ i l. (whole_row i l).inside;
        leaves = leaf;
      }

  pub tree_is : joined (outer (map (shape f) ns) (titled_at row title (map (content f) (items_in total u)))) ≡ joined (outer_from x 0)
  unfolding outer_from
  tree_is = rw (first-start t, ← shapes-are, ← contents-are) refl
