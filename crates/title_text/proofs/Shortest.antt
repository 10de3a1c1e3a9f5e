-- No accepted file is shorter than the text of what it says: not as a whole, nor where its tree starts and ends, nor any node or header. One that is as long as that text has
-- all of these as the text has them, so that they are each the least of all files that say the same; and it is that text, byte for byte.
-- Assumes nothing.
use mathlib.Core.Path.{◌≡◌, refl, sym, ap, ap₂, ◌∙◌, subst}
use mathlib.Core.List.{List, [], ◌∷◌, append-nil, map}
use Prim.Native.Nat.{ℕ, zero, suc, ◌+◌, ◌-◌, ◌≤◌, ◌<◌}
use native.Mathlib.Omega.{arith}
use lib.ListN.{length, length-drop}
use lib.Seq.{length-take-le}
use Rattle.machine.specs.Machine.{trace}
use Rattle.cursor.specs.Rows.{P, Events}
use Rattle.room.specs.Parts.{joined}
use Rattle.vlq.specs.Vlq.{vlq, sized}
use Rattle.cursor.specs.declared.Node.{Node}
use Rattle.cursor.specs.declared.Item.{Item}
use Rattle.vlq.proofs.Least.{vlq-some}
use Rattle.room.proofs.Counting.{part_length}
use Rattle.header.specs.Header.{Header}
use Rattle.metadata.specs.Metadata.{Context}
use Rattle.metadata.specs.declared.Limits.{Limits}
use Rattle.metadata.specs.declared.Made.{Made}
use Rattle.rows.specs.Rows.{node_at, nodes_of, items_of}
use Rattle.file.specs.Reading.{rows, read_file, context}
use Rattle.file.proofs.Shown.{header_of_lem}
use Rattle.file.proofs.Follow.{tree_of, read_back}
use Rattle.title_text.specs.Description.{content, shape, Description, described, opening_size, answer}
use Rattle.title_text.specs.Text.{outer, tree_start, assembled, file_of, file_text}
use Rattle.title_text.specs.Title.{Bytes, Says, NowhereLonger, elsewhere}
use Rattle.title_text.proofs.Sizes.{front, start_right, start-least, size_is}
use Rattle.title_text.proofs.Covers.{Covers, covers-on, covers-as, covers-to, covers-wider, covers-last, covers-part, covers-first, covers-rest, covers-whole}
use Rattle.title_text.proofs.Nodes.{AllStay}
use Rattle.title_text.proofs.Headers.{HeaderSays, header-says}
use Rattle.title_text.proofs.Follows.{stay_elsewhere, log-is_tree}
use Rattle.title_text.proofs.Levels.{Span, spans, none, more, Over, Exactly, Each, Raw, Level, tree-level}

-- ---- the tree of what is said

abbrev tree_text : Description → List ℕ
tree_text d = joined (outer d.nodes d.items)

-- where it starts
abbrev start_of : Description → ℕ
start_of d = tree_start d.opening (sized d.types) d.gap (tree_text d) d.after

-- the file g, with this header and these rows, is nowhere shorter than the text of d; where it is no longer, it is nowhere longer; and then it is that text
pub record NoShorter (d : Description) (g : List ℕ) (h : Header) (ns : List Node) : Type 0 where
  pub whole : length (file_text d) ≤ length g
  pub start : start_of d ≤ h.extent.start
  pub last : start_of d + length (tree_text d) ≤ h.extent.last + 1
  pub levels : Over ns (spans d.nodes d.items)
  pub tight : length g ≤ length (file_text d) → (start_of d ≡ h.extent.start) × (start_of d + length (tree_text d) ≡ h.extent.last + 1) × Exactly ns (spans d.nodes d.items)
  pub only : Bytes g → length g ≤ length (file_text d) → g ≡ file_text d

file-size : (d : Description) → length (file_text d) ≡ front d.opening (sized d.types) d.gap (tree_text d) d.after + length
    d.gap + length (tree_text d) + length d.after
unfolding file_text
file-size d = size_is d.opening (sized d.types) d.gap (tree_text d) d.after

text-is : (d : Description) → joined
    (d.opening ∷ vlq (start_of d + length (tree_text d) + length d.after) ∷ sized d.types ∷ vlq (start_of d) ∷ vlq
    (start_of d + length (tree_text d) - 1) ∷ d.gap ∷ tree_text d ∷ d.after ∷ []) ≡ file_text d
unfolding file_text file_of assembled
text-is d = refl

module _ {f : List ℕ} {x : Context} {end n : ℕ} {σ τ : Raw} {at q : ℕ} {m : Made} (t : Level f x end n σ at m q τ) where
  all-texts : outer (map (shape f) t.rows) t.contents ≡ t.texts
  unfolding outer
  all-texts = rw (append-nil (map (shape f) t.rows), append-nil t.contents, append-nil t.texts) at (t.outer-is [] [])

  all-sizes : spans (map (shape f) t.rows) t.contents ≡ t.sizes
  unfolding spans
  all-sizes = rw (append-nil (map (shape f) t.rows), append-nil t.contents, append-nil t.sizes) at (t.sizes_are [] [])

module _ (lim : Limits) (g : List ℕ) {h : Header} {ns : List Node} {is : List Item} (reads : read_file lim g ≡ rows h ns is) where
  -- the parts that are copied have their bytes
  copied-sizes : opening_size h.version ≤ length g → h.extent.start ≤ length g → h.extent.end ≤ h.extent.start → h.extent.last < length g
      → (length (described g h ns is).opening ≡ opening_size h.version) ×
      (length (described g h ns is).gap ≡ h.extent.start - h.extent.end) ×
      (length (described g h ns is).after ≡ length g - (h.extent.last + 1))
  unfolding described
  copied-sizes a b c e = (
    length-take-le (opening_size h.version) g a,
    part_length g h.extent.end (h.extent.start - h.extent.end)
        (omega arith),
    length-drop (h.extent.last + 1) g,
  )

  types_are : (says : HeaderSays g h) → (described g h ns is).types ≡ joined (vlq (length says.texts) ∷ says.texts)
  unfolding described
  types_are says = ap answer says.ran

  nodes-are : (described g h ns is).nodes ≡ map (shape g) ns
  unfolding described
  nodes-are = refl

  items-are : (described g h ns is).items ≡ map (content g) is
  unfolding described
  items-are = refl

  -- a file whose numbers are those of its text holds that text
  parts_covers : (says : HeaderSays g h) → (t : List ℕ) → Covers g h.extent.start t (h.extent.last + 1) → (size start last : ℕ) → size ≡
      length g → start ≡ h.extent.start → last ≡ h.extent.last
      → h.extent.end ≤ h.extent.start → h.extent.last < length g
      → Covers g 0 (joined ((described g h ns is).opening ∷ vlq size ∷ sized (described g h ns is).types ∷ vlq start ∷ vlq last ∷ (described g h ns
      is).gap ∷ t ∷ (described g h ns is).after ∷ [])) (length g)
  unfolding described
  parts_covers says t tree size start last e₁ e₂ e₃ l m =
      let sp = says.spans in
      let z : h.extent.end + (h.extent.start - h.extent.end) ≡ h.extent.start = omega arith in
      covers-on (covers-first g (opening_size h.version))
      (covers-on (covers-as (ap vlq (sym e₁)) sp.length-is.covers)
      (covers-on (covers-as (ap sized (sym (types_are says))) sp.types-covers)
      (covers-on (covers-as (ap vlq (sym e₂)) sp.start_is.covers)
      (covers-on (covers-as (ap vlq (sym e₃)) sp.last-is.covers)
      (covers-on (covers-to z (covers-part g h.extent.end (h.extent.start - h.extent.end)))
      (covers-on tree (covers-last (covers-rest g (h.extent.last + 1) (omega arith)))))))))

  pub no-shorter : AllStay (map (shape g) ns) → NoShorter (described g h ns is) g h ns
  no-shorter stay =
      let d : Description = described g h ns is in let r = read_back lim g reads in let w = header_of_lem r in
      let p : P Made = tree_of lim (length g) h in let log : Events = trace p g h.extent.start in
      let q : r.log ≡ log = log-is_tree lim g h log lim.nodes r.follows (ap elsewhere r.nodes-are ∙ stay_elsewhere g ns stay) in
      let says = header-says g r.header_is in let sp = says.spans in
      let c = copied-sizes says.long (omega arith) (omega arith) w.3 in
      let ty = ap (λ v. length (sized v)) (types_are says) in
      let (t, a, b) = tree-level g w.4 (context lim h (length g)) (h.extent.last + 1) h.extent.start (omega arith) (omega arith) r.tree_is in
      let rows_are : t.rows ≡ ns = a ∙ sym (ap nodes_of q) ∙ r.nodes-are in
      let contents-are : t.contents ≡ map (content g) is = b ∙ ap (map (content g)) (sym (ap items_of q) ∙ r.items-are) in
      let bound = t.bound (subst (λ v. AllStay (map (shape g) v)) (sym rows_are) stay) in
      let shapes : d.nodes ≡ map (shape g) t.rows = nodes-are ∙ ap (map (shape g)) (sym rows_are) in
      let said : d.items ≡ t.contents = items-are ∙ sym contents-are in
      let outer-is : outer d.nodes d.items ≡ t.texts = ap₂ outer shapes said ∙ all-texts t in
      let sizes_are : spans d.nodes d.items ≡ t.sizes = ap₂ spans shapes said ∙ all-sizes t in
      let tree_is : length (tree_text d) ≡ length (joined t.texts) = ap (λ v. length (joined v)) outer-is in
      let x : ℕ = sp.a - opening_size h.version in let y : ℕ = sp.c - sp.b in let z : ℕ = h.extent.end - sp.c in
      let hold : opening_size h.version + x + length (sized d.types) + y + z ≤ h.extent.end = omega
      (arith, sp.length-is.covers.short, sp.types-covers.short, sp.start_is.covers.short, sp.last-is.covers.short) in
      let some-x : 1 ≤ x = omega (arith, sp.length-is.covers.short, vlq-some (length g)) in
      let some-y : 1 ≤ y = omega (arith, sp.start_is.covers.short, vlq-some h.extent.start) in
      let some-z : 1 ≤ z = omega (arith, sp.last-is.covers.short, vlq-some h.extent.last) in
      let short = bound.covers.short in let inside = t.inside in
      let fits : start_of d ≤ length d.opening + x + length (sized d.types) + y + z + length d.gap =
      start-least d.opening (sized d.types) d.gap (tree_text d) d.after x y z (omega arith) (omega arith) (omega arith)
      (omega (arith, sp.start_is.fits)) (omega (arith, sp.last-is.fits)) (omega (arith, sp.length-is.fits)) in
      let size = file-size d in
      let right = start_right d.opening (sized d.types) d.gap (tree_text d) d.after (omega arith) in
      record {
        whole = omega arith;
        start = omega arith;
        last = omega arith;
        levels = subst (λ v. Over v (spans d.nodes d.items)) rows_are (subst (Over t.rows) (sym sizes_are) bound.over);
        tight = λ l. (
          omega arith,
          omega arith,
          subst (λ v. Exactly v (spans d.nodes d.items)) rows_are
              (subst (Exactly t.rows) (sym sizes_are) (bound.tight (omega arith))),
        );
        only = λ bytes l.
            let text = parts_covers says (tree_text d) (covers-as (ap joined (sym outer-is)) (covers-wider inside bound.covers))
            (start_of d + length (tree_text d) + length d.after) (start_of d) (start_of d + length (tree_text d) - 1) (omega arith) (omega arith)
            (omega arith) (omega arith) w.3 in
            covers-whole (covers-as (text-is d) text) bytes l;
      }

  -- each node by itself
  pub rows-stand : AllStay (map (shape g) ns) → Each g ns (map (content g) is)
  rows-stand stay =
      let r = read_back lim g reads in let w = header_of_lem r in let p : P Made = tree_of lim (length g) h in
      let log : Events = trace p g h.extent.start in
      let q : r.log ≡ log = log-is_tree lim g h log lim.nodes r.follows (ap elsewhere r.nodes-are ∙ stay_elsewhere g ns stay) in
      let (t, a, b) = tree-level g w.4 (context lim h (length g)) (h.extent.last + 1) h.extent.start (omega arith) (omega arith) r.tree_is in
      let rows_are : t.rows ≡ ns = a ∙ sym (ap nodes_of q) ∙ r.nodes-are in
      let contents-are : t.contents ≡ map (content g) is = b ∙ ap (map (content g)) (sym (ap items_of q) ∙ r.items-are) in
      let e = t.each (subst (λ v. AllStay (map (shape g) v)) (sym rows_are) stay) [] [] tt in
      rw (append-nil t.rows, append-nil t.contents, rows_are, contents-are) at e

-- ---- each number is the least of all files that say the same

-- what a file says decides how long it is at least
pub says-no_shorter : {lim : Limits} {g : List ℕ} {d : Description} (s : Says lim g d) → AllStay d.nodes → NoShorter d g s.header s.nodes
says-no_shorter {lim} {g} {d} s stay =
    let e : d.nodes ≡ map (shape g) s.nodes = ap (λ (v : Description). v.nodes) (sym s.says) ∙ nodes-are lim g s.reads in
    subst (λ v. NoShorter v g s.header s.nodes) s.says (no-shorter lim g s.reads (subst AllStay e stay))

pub shortest : {lim : Limits} {g : List ℕ} {d : Description} → Says lim g d → AllStay d.nodes → length (file_text d) ≤ length g
shortest s stay = (says-no_shorter s stay).whole

-- and one that is no longer, if its elements are bytes, is the text of what it says
pub only-shortest : {lim : Limits} {g : List ℕ} {d : Description} → Says lim g d → AllStay d.nodes → Bytes g → length g ≤ length (file_text d) → g ≡ file_text d
only-shortest s stay = (says-no_shorter s stay).only

row-least : {rs ts : List Node} {ss : List Span} → Exactly rs ss → Over ts ss → (i : ℕ) → i < length rs →
    ((node_at rs i).size ≤ (node_at ts i).size) × ((node_at rs i).header ≤ (node_at ts i).header)
row-least none none i l = absurd (omega arith)
row-least (more a b x) (more c d y) zero l = (omega arith, omega arith)
row-least (more a b x) (more c d y) (suc i) l = row-least x y i (omega arith)

-- one that is as short is nowhere longer than any other
pub nowhere_longer : {lim lim' : Limits} {g g' : List ℕ} {d : Description} (s : Says lim g d) (t : Says lim' g' d) → AllStay d.nodes →
    length g ≤ length (file_text d) → NowhereLonger s t
nowhere_longer s t stay l =
    let x = (says-no_shorter s stay).tight l in let y = says-no_shorter t stay in
    let a = y.start in let b = y.last in let c = y.whole in
    record { whole = omega arith; start = omega (arith, x.0); last = omega (arith, x.1); nodes = row-least x.2 y.levels }
