-- Demand 3 of the correction: two files that differ at private places alone give results that differ at private places of the first result alone, and so read the same.
-- Assumes nothing.
use mathlib.Core.Path.{◌≡◌, refl, sym, ap, ◌∙◌, subst}
use mathlib.Core.Logic.{inl, inr}
use mathlib.Core.Bool.{Bool, true, false, cond, not}
use mathlib.Core.List.{List, [], ◌∷◌, map}
use Prim.Native.Nat.{ℕ, zero, suc, ◌+◌, ◌-◌, ◌^◌, ◌<◌}
use native.Mathlib.Omega.{arith}
use lib.Dec.{T, eqb}
use lib.ListN.{length, take, drop, length-take, length-drop}
use Rattle.machine.specs.Machine.{run, trace}
use Rattle.cursor.specs.Rows.{Events}
use Rattle.room.specs.Parts.{part, joined}
use Rattle.vlq.specs.Vlq.{vlq, sized}
use Rattle.cursor.specs.declared.Node.{Node}
use Rattle.cursor.specs.declared.Item.{Item}
use Rattle.cursor.proofs.Agree.{part_same}
use Rattle.machine.proofs.Wp.{at_end}
use Rattle.cursor.proofs.Leaves.{any_free}
use Rattle.machine.proofs.Stable.{Kept}
use Rattle.header.specs.Header.{Header}
use Rattle.header.proofs.Ends.{header-on}
use Rattle.metadata.specs.declared.Limits.{Limits}
use Rattle.file_laws.specs.Private.{may_differ, DifferInPrivate}
use Rattle.rows.specs.Rows.{item_at, nodes_of}
use Rattle.file.specs.Reading.{rows, read_file, context}
use Rattle.file.proofs.Follow.{tree_of, read_back}
use Rattle.file_laws.proofs.Demand.{private_data, Alike, private_alike, RowAlike, rows_alike, demand3}
use Rattle.title_text.specs.Description.{Content, content, shape, described, titled, titled_at, opening_size, table_text, answer}
use Rattle.title_text.specs.Text.{outer, file_of}
use Rattle.title_text.specs.Title.{elsewhere, titled_file}
use Rattle.title_text.proofs.Pairs.{Each, none, more, AsLong, alike, ContentPair, ShapePair, DescriptionPair, retitled-pair, text-pair}
use Rattle.title_text.proofs.Alike.{row-private, Pair, Shapes}
use Rattle.title_text.proofs.Twins.{Twins, differ_alike}
use Rattle.title_text.proofs.Theorem.{grammar, same-file}
use Rattle.title_text.proofs.Follows.{log-is_tree, all_stay}
use Rattle.title_text.proofs.Headers.{header-says}
use Rattle.title_text.proofs.Transfer.{onward, tables-alike}
use Rattle.title_text.proofs.Kept.{Same, AllSame, tree-kept, header-kept}

module _ (f k : List ℕ) (long : length f ≡ length k) where
  rests : (p : ℕ) → AsLong (drop p f) (drop p k)
  rests p = record { long = length-drop p f ∙ ap (λ n. n - p) long ∙ sym (length-drop p k) }

  parts : (p n : ℕ) → AsLong (part f p n) (part k p n)
  parts p n = record { long = omega (arith, length-take n (drop p f), length-take n (drop p k), (rests p).long) }

  content-pair : (r : Item) → ContentPair (content f r) (content k r)
  unfolding content
  content-pair r = record {
    node = refl;
    item = refl;
    kind = refl;
    field = refl;
    name = parts r.field r.name_length;
    version = refl;
    declared = refl;
    format = refl;
    bytes = parts r.place r.size;
  }

  contents-pair : (is : List Item) → Each ContentPair (map (content f) is) (map (content k) is)
  contents-pair [] = none
  contents-pair (r ∷ is) = more (content-pair r) (contents-pair is)

  body-pair : (b : Bool) (p n : ℕ) → AsLong (cond b (part f p n) []) (cond b (part k p n) [])
  body-pair true p n = parts p n
  body-pair false p n = alike []

  shape-pair : (r : Node) → Same f k long r → ShapePair (shape f r) (shape k r)
  unfolding shape
  shape-pair r s = record {
    contained = refl;
    reference = refl;
    unpackers = record { long = ap length s.0 };
    rows = refl;
    body = body-pair
        (eqb r.contained 0) r.target r.extent;
  }

  shapes-pair : (ns : List Node) → AllSame f k long ns → Each ShapePair (map (shape f) ns) (map (shape k) ns)
  shapes-pair [] a = none
  shapes-pair (r ∷ ns) a = more (shape-pair r a.0) (shapes-pair ns a.1)

  described-pair : (h : Header) (ns : List Node) (is : List Item) → AllSame f k long ns → answer
      (run (table_text f) f (opening_size h.version)) ≡ answer (run (table_text k) k (opening_size h.version))
      → DescriptionPair (described f h ns is) (described k h ns is)
  unfolding described
  described-pair h ns is a t = record {
    opening = parts 0 (opening_size h.version);
    types = record { long = ap length t };
    gap = parts h.extent.end (h.extent.start - h.extent.end);
    nodes = shapes-pair ns a;
    items = contents-pair is;
    after = rests (h.extent.last + 1);
  }

-- ---- demand 3

rows_same : {h h' : Header} {ns ns' : List Node} {is is' : List Item} → rows h ns is ≡ rows h' ns' is' → (h ≡ h') × (ns ≡ ns') × (is ≡ is')
rows_same e = (cc, cc, cc)

module _ (lim : Limits) (f k : List ℕ) {h : Header} {ns : List Node} {is : List Item} (reads : read_file lim f ≡ rows h ns is)
    (differ : DifferInPrivate h ns is f k) (here : elsewhere ns ≡ false) (i : ℕ) (text : List ℕ) where
  all_same : Alike private_data lim f k ns is → AllSame f k differ.same_length ns
  all_same a =
      let r = a.read_as in let g : Header = a.header in
      let hd = at_end any_free f (header-on (length f)) r.header_is in
      let log : Events = trace (tree_of lim (length f) g) f g.extent.start in
      let q : r.log ≡ log = log-is_tree lim f g log lim.nodes r.follows (ap elsewhere r.nodes-are ∙ here) in
      let keeps : Kept private_data f k log = subst (Kept private_data f k) q a.keeps in
      subst (AllSame f k differ.same_length) (sym (ap nodes_of q) ∙ r.nodes-are)
      (tree-kept f k differ.same_length (context lim g (length f)) (g.extent.last + 1) g.extent.start (omega arith) r.tree_is keeps)

  -- the results are as long
  pub titles-length : length (titled_file i text f h ns is) ≡ length (titled_file i text k h ns is)
  unfolding titled_file
  titles-length =
      let long = differ.same_length in let a = private_alike lim f k reads differ in let r = read_back lim f reads in
      let hd = at_end any_free f (header-on (length f)) r.header_is in
      let says = header-says f r.header_is in
      let agree = header-kept f k r.header_is a.keeps_header in
      let b = says.before in
      let table = tables-alike f k long (opening_size h.version) says.ran (λ j lo hi. agree j (omega arith) (omega arith)) in
      (text-pair (retitled-pair i text (described-pair f k long h ns is (all_same a) (ap answer says.ran ∙ sym (ap answer table))))).long

  no_difference : (b : Bool) → b ≡ false → T (not b)
  no_difference true e = let z : ◌≡◌ {A = ℕ} 0 1 = cc in absurd (omega arith)
  no_difference false e = tt

  content-alike : (r : Item) → RowAlike private_data f k r → Pair (content f r) (content k r)
  unfolding content
  content-alike r x =
      let long = differ.same_length in
      record {
        pair = content-pair f k long r;
        named = λ z. elim x.0 [ inl y ↦ absurd (omega arith) | inr y ↦ part_same f k long r.field r.name_length y ];
        shown = λ z. part_same f k long r.place r.size (x.1 (no_difference (may_differ r) (row-private f r ∙ z)));
      }

  contents-alike : (js : List Item) → ((j : ℕ) → j < length js → RowAlike private_data f k (item_at js j)) → Each Pair (map (content f) js) (map (content k) js)
  contents-alike [] x = none
  contents-alike (r ∷ js) x = more (content-alike r (x 0 (omega arith))) (contents-alike js (λ j l. x (suc j) (omega arith)))

  titled-alike : (j : ℕ) {cs ds : List Content} → Each Pair cs ds → Each Pair (titled_at j text cs) (titled_at j text ds)
  unfolding titled_at titled
  titled-alike j none = none
  titled-alike zero (more w ws) =
      let x = w.pair in
      more (record {
        pair = record {
          node = x.node;
          item = x.item;
          kind = x.kind;
          field = x.field;
          name = x.name;
          version = x.version;
          declared =
              x.declared;
          format = x.format;
          bytes = alike text;
        };
        named = w.named;
        shown = λ _. refl;
      }) ws
  titled-alike (suc j) (more w ws) = more w (titled-alike j ws)

  body_alike : (r : Node) → Same f k differ.same_length r → (shape f r).reference ≡ 4 → (shape f r).body ≡ (shape k r).body
  unfolding shape
  body_alike r s z = ap (λ b. cond (eqb r.contained 0) b []) (part_same f k differ.same_length r.target r.extent (s.1 z))

  all-shapes : (ms : List Node) → AllSame f k differ.same_length ms → Each Shapes (map (shape f) ms) (map (shape k) ms)
  all-shapes [] a = none
  all-shapes (r ∷ ms) a =
      more (shape-pair f k differ.same_length r a.0, a.0.0, body_alike r a.0) (all-shapes ms a.1)

  titles-twins : length (titled_file i text f h ns is) < 2 ^ 28 → Twins lim (titled_file i text f h ns is) (titled_file i text k h ns is)
  titles-twins small =
      let long = differ.same_length in let a = private_alike lim f k reads differ in let r = read_back lim f reads in
      let hd = at_end any_free f (header-on (length f)) r.header_is in
      let w = grammar lim f reads here i text in let says = w.says in let n : ℕ = opening_size h.version in
      let agree = header-kept f k r.header_is a.keeps_header in
      let b = says.before in let on = onward (table_text f) f n says.ran in
      let table = tables-alike f k long n says.ran (λ j lo hi. agree j (omega arith) (omega arith)) in
      let opens : take n f ≡ take n k = part_same f k long 0 n (λ j lo hi. agree j lo (omega arith)) in
      let types : List ℕ = joined (vlq (length says.texts) ∷ says.texts) in
      let tree₂ : List ℕ = joined (outer (map (shape k) ns) (titled_at i text (map (content k) is))) in
      let gap₂ : List ℕ = part k h.extent.end (h.extent.start - h.extent.end) in
      let after₂ : List ℕ = drop (h.extent.last + 1) k in
      let same₂ : file_of (take n f) (sized types) gap₂ tree₂ after₂ ≡ titled_file i text k h ns is = ap
      (λ o. file_of o (sized types) gap₂ tree₂ after₂) opens ∙ same-file k h ns is i text types tree₂ (sym (ap answer table)) refl in
      let eg = (parts f k long h.extent.end (h.extent.start - h.extent.end)).long in
      let ea = (rests f k long (h.extent.last + 1)).long in
      let t = differ_alike lim says (part f h.extent.end (h.extent.start - h.extent.end)) (drop (h.extent.last + 1) f) gap₂ after₂
      w.nodes (all_stay f ns here) (all-shapes ns (all_same a)) (titled-alike i (contents-alike is (rows_alike private_data f k lim tt a)))
      eg ea
      (subst (λ v. length v < 2 ^ 28) (sym w.file) small) (subst (λ v. length v < 2 ^ 28) (sym same₂) (subst (λ j. j < 2 ^ 28) titles-length small)) in
      subst (λ v. Twins lim v (titled_file i text k h ns is)) w.file (subst (Twins lim _) same₂ t)

  -- the results differ at private places of the first result alone
  pub titles-differ : length (titled_file i text f h ns is) < 2 ^ 28 → (h' : Header) (ns' : List Node) (is' : List Item) → read_file lim
      (titled_file i text f h ns is) ≡ rows h' ns' is'
      → DifferInPrivate h' ns' is' (titled_file i text f h ns is) (titled_file i text k h ns is)
  titles-differ small h' ns' is' e =
      let t = titles-twins small in let (a, b, c) = rows_same (sym t.reads ∙ e) in
      rw (← a, ← b, ← c) t.differ

  -- and read the same: the tables agree
  pub titles-read : length (titled_file i text f h ns is) < 2 ^ 28 → read_file lim (titled_file i text k h ns is) ≡ read_file lim (titled_file i text f h ns is)
  titles-read small = let t = titles-twins small in demand3 lim (titled_file i text f h ns is) (titled_file i text k h ns is) t.reads t.differ
