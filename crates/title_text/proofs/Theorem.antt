-- The file with another title is accepted with the same tables, and says what the old file says with that title; the same title again changes nothing further.
-- Assumes nothing.
use mathlib.Core.Path.{◌≡◌, refl, sym, ap, ◌∙◌, subst}
use mathlib.Core.Bool.{Bool, true, false, cond}
use mathlib.Core.List.{List, [], ◌∷◌, map}
use Prim.Native.Nat.{ℕ, zero, suc, ◌+◌, ◌-◌, ◌^◌, ◌<◌}
use native.Mathlib.Omega.{arith}
use lib.Dec.{eqb}
use lib.ListN.{length, take, drop, length-append}
use lib.Seq.{get_or-take, length-take-le}
use borrow.Author.Tests.{eq-eqb, ne_eqb}
use Rattle.machine.specs.Machine.{Out, ok, refused, run, trace, exec}
use Rattle.cursor.specs.Rows.{Events, P}
use Rattle.room.specs.Parts.{part, joined}
use Rattle.vlq.specs.Vlq.{vlq, sized}
use Rattle.cursor.specs.declared.Node.{Node}
use Rattle.cursor.specs.declared.Item.{Item}
use Rattle.machine.proofs.Wp.{at_end}
use Rattle.cursor.proofs.Leaves.{any_free}
use Rattle.vlq.proofs.Least.{vlq-some}
use Rattle.room.proofs.Lies.{lies_at, lies_part, lies_end, joined_length}
use Rattle.cursor.proofs.Post.{holds}
use Rattle.header.specs.Types.{Declared}
use Rattle.header.specs.Header.{Edition, Header, header}
use Rattle.header.proofs.Ends.{header-on}
use Rattle.metadata.specs.declared.Limits.{Limits}
use Rattle.metadata.specs.declared.Made.{Made}
use Rattle.tree.specs.Tree.{tree}
use Rattle.rows.specs.Rows.{nodes_of, items_of}
use Rattle.file.specs.Reading.{rows, read_file, context}
use Rattle.file.proofs.Follow.{tree_of, read_back}
use Rattle.title_text.specs.Description.{Content, content, Shape, shape, Description, described, titled, titled_at, retitled, opening_size, table_text, answer}
use Rattle.title_text.specs.Text.{items_text, header_of, framed, own_text, node_text, whole_text, outer, file_of, file_text}
use Rattle.title_text.specs.Title.{Says, elsewhere, titled_file}
use Rattle.title_text.proofs.Sizes.{S, front}
use Rattle.title_text.proofs.Collecting.{Collected, collect_as, collect, said_from, said_plain, after_rows, collects}
use Rattle.title_text.proofs.ItemsSay.{Like, Keeps}
use Rattle.title_text.proofs.Nodes.{Nodes, more, AllStay, tree-text, tree-back}
use Rattle.title_text.proofs.NodesSay.{tree-says}
use Rattle.title_text.proofs.Tables.{table-back, table-again}
use Rattle.title_text.proofs.Headers.{Opened, size-least, opened_same, HeaderSays, header-says, header-back, length_back, extent-back}
use Rattle.title_text.proofs.Places.{FileStands, file-stands}
use Rattle.title_text.proofs.Follows.{all_stay, stay_elsewhere, log-is_tree, read_whole}

-- ---- the contents, one with another title

abbrev retitling : List ℕ → ℕ → List ℕ → ℕ → Item → Content
retitling f i text k r = cond (eqb k i) (titled text (content f r)) (content f r)

like_titled : (text : List ℕ) (c : Content) (b : Bool) → Like c (cond b (titled text c) c)
unfolding titled
like_titled text c true = record { node = refl; item = refl; kind = refl; field = refl; name = refl; version = refl; declared = refl; format = refl }
like_titled text c false = record { node = refl; item = refl; kind = refl; field = refl; name = refl; version = refl; declared = refl; format = refl }

retitling-keeps : (f : List ℕ) (i : ℕ) (text : List ℕ) → Keeps f (retitling f i text)
retitling-keeps f i text k r = like_titled text (content f r) (eqb k i)

said-past : (f : List ℕ) (i : ℕ) (text : List ℕ) (k : ℕ) (is : List Item) → i < k → said_from (retitling f i text) k is ≡ map (content f) is
said-past f i text k [] l = refl
said-past f i text k (r ∷ is) l = let n : (k ≡ i) → ⊥ = λ e. omega arith in rw (ne_eqb _ _ n) (ap (λ v. content f r ∷ v) (said-past f i text (k + 1) is (omega arith)))

said-titled : (f : List ℕ) (i : ℕ) (text : List ℕ) (k j : ℕ) (is : List Item) → i ≡ k + j → said_from (retitling f i text) k is ≡ titled_at j text (map (content f) is)
unfolding titled_at
said-titled f i text k j [] e = refl
said-titled f i text k zero (r ∷ is) e = let q : k ≡ i = omega arith in rw (eq-eqb _ _ q) (ap (λ v. titled text (content f r) ∷ v) (said-past f i text (k + 1) is (omega arith)))
said-titled f i text k (suc j) (r ∷ is) e = let n : (k ≡ i) → ⊥ = λ q. omega arith in rw (ne_eqb _ _ n)
    (ap (λ v. content f r ∷ v) (said-titled f i text (k + 1) j is (omega arith)))

-- ---- what the tree of an accepted file says

abbrev none : Collected
none = record { nodes = []; items = [] }

tree-collects : (say : ℕ → Item → Content) (f : List ℕ) (p : P Made) (at : ℕ) {m : Made} {q : ℕ} → run p f at ≡ ok m q
    → exec (collect_as say f) p f at none ≡ ok (m, record { nodes = map (shape f) (nodes_of (trace p f at)); items = said_from say 0 (items_of (trace p f at)) }) q
tree-collects say f p at e = collects say f p at none ∙ ap (after_rows say f (nodes_of (trace p f at)) (items_of (trace p f at)) none) e

ok_same : {A : Type 0} {a b : A} {p q : ℕ} → ok a p ≡ ok b q → (a ≡ b) × (p ≡ q)
ok_same e = (cc, cc)

-- what was collected are the rows of the run
pub rows-were : (f : List ℕ) (p : P Made) (at : ℕ) {m : Made} {rs : List Shape} {cs : List Content} {q : ℕ} → exec (collect f) p f at none ≡
    ok (m, record { nodes = rs; items = cs }) q
    → (run p f at ≡ ok m q) × (map (shape f) (nodes_of (trace p f at)) ≡ rs) × (map (content f) (items_of (trace p f at)) ≡ cs)
rows-were f p at {m} {rs} {cs} {q} e = by (run p f at) (sym (collects (λ k r. content f r) f p at none) ∙ e)
  where
    by : (o : Out Made) → after_rows (λ k r. content f r) f (nodes_of (trace p f at)) (items_of (trace p f at)) none o ≡ ok (m, record { nodes = rs; items = cs }) q
        → (o ≡ ok m q) × (map (shape f) (nodes_of (trace p f at)) ≡ rs) × (map (content f) (items_of (trace p f at)) ≡ cs)
    by (ok a r) x =
        let (y, z) = ok_same x in let k : a ≡ m = ap (λ (v : Made × Collected). v.0) y in
        (rw (k, z) refl, ap (λ (v : Made × Collected). v.1.nodes) y, sym (said_plain f 0 (items_of (trace p f at))) ∙ ap (λ (v : Made × Collected). v.1.items) y)
    by (refused n r) x = let z : ◌≡◌ {A = ℕ} 0 1 = cc in absurd (omega arith)

-- ---- two descriptions are equal by their fields

description-is : (d : Description) {version : ℕ} {edition : Edition} {declared : List Declared} {opening types gap : List ℕ}
    {nodes : List Shape} {items : List Content} {after : List ℕ}
    → version ≡ d.version → edition ≡ d.edition → declared ≡ d.declared → opening ≡ d.opening → types ≡ d.types → gap ≡ d.gap → nodes ≡
    d.nodes → items ≡ d.items → after ≡ d.after
    → ◌≡◌ {A = Description} (record {
      version = version;
      edition = edition;
      declared = declared;
      opening = opening;
      types = types;
      gap = gap;
      nodes = nodes;
      items = items;
      after = after;
    }) d
description-is d a b c e f g h i j = rw (a, b, c, e, f, g, h, i, j) refl

-- ---- the new file

framed-some : (contained : ℕ) (rest own : List ℕ) (n : ℕ) → 0 < length (framed contained rest own n)
unfolding framed
framed-some contained rest own n =
    let c : ℕ = length own + n in let H : ℕ = header_of contained rest c in
    omega (arith, joined_length (vlq (H + c) ∷ vlq contained ∷ vlq H ∷ rest ∷ own ∷ []), vlq-some contained)

some-text : (r : Shape) (cs : List Content) (inner : List ℕ) → 0 < length (whole_text r cs inner)
unfolding whole_text node_text
some-text r cs inner =
    let rest : List ℕ = joined (sized (items_text cs) ∷ sized r.unpackers ∷ []) in
    omega (arith, length-append (framed r.contained rest (own_text r) (length inner)) inner, framed-some r.contained rest (own_text r) (length inner))

pub tree-some : {lim : Limits} {types : List Declared} {d parent : ℕ} {m : Made} {rs : List Shape} {cs : List Content} {b : List ℕ} → Nodes
    lim types d parent m 1 rs cs (b ∷ []) → 0 < length b
tree-some (more {r = r} {cs = cs} {inner = inner} f ys xs) = some-text r cs (joined inner)

module _ {f : List ℕ} {h : Header} (says : HeaderSays f h) {gap tree after g : List ℕ} {start last end : ℕ}
    (st : FileStands (take (opening_size h.version) f) (sized (joined (vlq (length says.texts) ∷ says.texts))) gap tree after g start last
    end) (some : 0 < length tree) (small : length g < 2 ^ 28) where
  opening-length : length (take (opening_size h.version) f) ≡ opening_size h.version
  opening-length = length-take-le (opening_size h.version) f says.long

  opened : Opened g h.version h.edition
  opened =
      opened_same says.opened λ k l.
      let o = opening-length in let e : 0 + k ≡ k = omega arith in
      sym (rw e at (st.opening-lies.same k (omega arith)) ∙ get_or-take (opening_size h.version) f k 0 l)

  -- its header
  pub new-header : run (header (length g)) g 0 ≡ ok
      (record { version = h.version; edition = h.edition; types = h.types; extent = record { start = start; last = last; end = end } }) end
  new-header =
      let n : ℕ = opening_size h.version in let o = opening-length in
      let types : List ℕ = sized (joined (vlq (length says.texts) ∷ says.texts)) in
      let a : ℕ = n + length (vlq (length g)) in let b : ℕ = a + length types in let i = st.last-lies.inside in
      let least = size-least h.version in
      let k = st.end_is in let k₁ = st.start_is in let k₂ = st.last-is in let k₃ = st.size_is in
      let e₃ = length_back g (length g) n small (lies_at o st.length-lies) (omega arith) in
      let e₄ = table-back g small says.table says.few (length g) a (lies_at (omega arith) st.types-lies) (omega arith) in
      let e₅ = extent-back g (length g) b start last (omega arith) (omega arith) small (lies_at (omega arith) st.start-lies)
      (lies_at (omega arith) st.last-lies) (omega arith) in
      let e : end ≡ b + length (vlq start) + length (vlq last) = omega arith in
      rw e (header-back g (length g) a b (b + length (vlq start) + length (vlq last)) opened (omega arith) small (omega arith) e₃ e₄ e₅)

  -- what it says
  new-says : (ns : List Node) (is : List Item) {rs : List Shape} {cs : List Content} → map (shape g) ns ≡ rs → map (content g) is ≡ cs
      → described g (record { version = h.version; edition = h.edition; types = h.types; extent = record { start = start; last = last; end = end } }) ns is
      ≡ record {
        version = h.version;
        edition = h.edition;
        declared = h.types;
        opening = take (opening_size h.version) f;
        types = joined (vlq (length says.texts) ∷ says.texts);
        gap = gap;
        nodes = rs;
        items = cs;
        after = after;
      }
  unfolding described
  new-says ns is a b =
      let n : ℕ = opening_size h.version in let o = opening-length in
      let e₁ : take n g ≡ take n f = rw o at (lies_part st.opening-lies) in
      let k : start - end ≡ length gap = omega (arith, st.start_is) in
      let e₃ : part g end (start - end) ≡ gap = rw k (lies_part st.gap-lies) in
      description-is _ refl refl refl e₁
      (table-again g small says.table says.few (length g) n small (lies_at o st.length-lies) (lies_at (omega arith) st.types-lies))
      e₃ a b (lies_end st.after-lies st.size_is)

-- the file that was written from a header, nodes, gap and what is after the tree is accepted, and says that
module _ (lim : Limits) {f : List ℕ} {h : Header} (says : HeaderSays f h) (gap after : List ℕ) {rs : List Shape} {cs : List Content} {b : List ℕ}
    (nodes : Nodes lim h.types 16 0 (record { nodes = 0; items = 0 }) 1 rs cs (b ∷ [])) (stay : AllStay rs) where
  abbrev written : List ℕ
  written = file_of (take (opening_size h.version) f) (sized (joined (vlq (length says.texts) ∷ says.texts))) gap b after

  written-reads : length written < 2 ^ 28
      → Says lim written (record {
        version = h.version;
        edition = h.edition;
        declared = h.types;
        opening = take (opening_size h.version) f;
        types = joined (vlq (length says.texts) ∷ says.texts);
        gap = gap;
        nodes = rs;
        items = cs;
        after = after;
      })
  written-reads small =
      let opening : List ℕ = take (opening_size h.version) f in
      let types : List ℕ = sized (joined (vlq (length says.texts) ∷ says.texts)) in
      let g : List ℕ = written in let some = tree-some nodes in
      let st = file-stands opening types gap b after some small in
      let start : ℕ = S opening types gap b after in let last : ℕ = start + length b - 1 in
      let end : ℕ = front opening types gap b after in
      let h' : Header = record { version = h.version; edition = h.edition; types = h.types; extent = record { start = start; last = last; end = end } } in
      let a = new-header says st some small in let p : P Made = tree_of lim (length g) h' in
      let w = rows-were g p start (tree-back (context lim h' (length g)) g small nodes stay (last + 1) start st.tree-lies st.last-is) in
      record {
        header = h';
        nodes = nodes_of (trace p g start);
        items = items_of (trace p g start);
        reads = read_whole lim g a w.0 (stay_elsewhere g (nodes_of (trace p g start)) (subst AllStay (sym w.1) stay));
        says = new-says says st some small (nodes_of (trace p g start)) (items_of (trace p g start)) w.1 w.2;
      }

-- ---- the theorem

pub same-file : (f : List ℕ) (h : Header) (ns : List Node) (is : List Item) (i : ℕ) (text : List ℕ) (types tree : List ℕ) → types ≡ answer
    (run (table_text f) f (opening_size h.version)) → joined (outer (map (shape f) ns) (titled_at i text (map (content f) is))) ≡ tree
    → file_of (take (opening_size h.version) f) (sized types) (part f h.extent.end (h.extent.start - h.extent.end)) tree
    (drop (h.extent.last + 1) f) ≡ titled_file i text f h ns is
unfolding titled_file file_text retitled described
same-file f h ns is i text types tree a b = rw (a, ← b) refl

same-description : (f : List ℕ) (h : Header) (ns : List Node) (is : List Item) (i : ℕ) (text : List ℕ) (types : List ℕ) → types ≡ answer
    (run (table_text f) f (opening_size h.version))
    → ◌≡◌ {A = Description} (record {
      version = h.version;
      edition = h.edition;
      declared = h.types;
      opening = take (opening_size h.version) f;
      types = types;
      gap = part f h.extent.end (h.extent.start - h.extent.end);
      nodes = map (shape f) ns;
      items = titled_at i text (map (content f) is);
      after = drop (h.extent.last + 1) f;
    }) (retitled i text (described f h ns is))
unfolding retitled described
same-description f h ns is i text types a = rw a refl

-- what an accepted file says, with another title, is in the grammar
pub record Grammar (lim : Limits) (f : List ℕ) (h : Header) (ns : List Node) (is : List Item) (i : ℕ) (text : List ℕ) : Type 0 where
  pub says : HeaderSays f h
  pub tree : List ℕ
  pub nodes : Nodes lim h.types 16 0 (record { nodes = 0; items = 0 }) 1 (map (shape f) ns) (titled_at i text (map (content f) is)) (tree ∷ [])
  pub file : file_of (take (opening_size h.version) f) (sized (joined (vlq (length says.texts) ∷ says.texts)))
      (part f h.extent.end (h.extent.start - h.extent.end)) tree (drop (h.extent.last + 1) f) ≡ titled_file i text f h ns is

pub grammar : (lim : Limits) (f : List ℕ) {h : Header} {ns : List Node} {is : List Item} → read_file lim f ≡ rows h ns is → elsewhere ns ≡
    false → (i : ℕ) (text : List ℕ) → Grammar lim f h ns is i text
grammar lim f {h} {ns} {is} e here i text =
    let r = read_back lim f e in let p : P Made = tree_of lim (length f) h in
    let log : Events = trace p f h.extent.start in
    let q : r.log ≡ log = log-is_tree lim f h log lim.nodes r.follows (ap elsewhere r.nodes-are ∙ here) in
    let ns-is : nodes_of log ≡ ns = sym (ap nodes_of q) ∙ r.nodes-are in
    let is-is : items_of log ≡ is = sym (ap items_of q) ∙ r.items-are in
    let hd = at_end any_free f (header-on (length f)) r.header_is in
    let says = header-says f r.header_is in let say : ℕ → Item → Content = retitling f i text in
    let t = holds (tree-says (retitling-keeps f i text) (context lim h (length f)) (h.extent.last + 1) h.extent.start (omega arith))
    (tree-collects say f p h.extent.start r.tree_is) in
    let rs : List Shape = map (shape f) ns in
    let cs : List Content = titled_at i text (map (content f) is) in
    let items-are : said_from say 0 (items_of log) ≡ cs = ap (said_from say 0) is-is ∙ said-titled f i text 0 i is (omega arith) in
    let nodes : Nodes lim h.types 16 0 (record { nodes = 0; items = 0 }) 1 rs cs (t.text ∷ []) =
    subst (λ v. Nodes lim h.types 16 0 (record { nodes = 0; items = 0 }) 1 rs v (t.text ∷ [])) items-are
    (subst (λ v. Nodes lim h.types 16 0 (record { nodes = 0; items = 0 }) 1 (map (shape f) v) (said_from say 0 (items_of log)) (t.text ∷ [])) ns-is t.are) in
    record {
      says = says;
      tree = t.text;
      nodes = nodes;
      file = same-file f h ns is i text (joined (vlq (length says.texts) ∷ says.texts))
          t.text (sym (ap answer says.ran)) (tree-text nodes);
    }

pub retitled-reads : (lim : Limits) (f : List ℕ) {h : Header} {ns : List Node} {is : List Item} → read_file lim f ≡ rows h ns is → elsewhere ns ≡ false → (i : ℕ) (text : List ℕ)
    → length (titled_file i text f h ns is) < 2 ^ 28 → Says lim (titled_file i text f h ns is) (retitled i text (described f h ns is))
retitled-reads lim f {h} {ns} {is} e here i text small =
    let w = grammar lim f e here i text in let says = w.says in
    let v = written-reads lim says (part f h.extent.end (h.extent.start - h.extent.end)) (drop (h.extent.last + 1) f) w.nodes
    (all_stay f ns here) (subst (λ v. length v < 2 ^ 28) (sym w.file) small) in
    subst (λ v. Says lim v (retitled i text (described f h ns is))) w.file
    (subst (Says lim _) (same-description f h ns is i text (joined (vlq (length says.texts) ∷ says.texts)) (sym (ap answer says.ran))) v)
