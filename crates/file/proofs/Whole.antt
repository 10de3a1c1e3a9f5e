-- The ways through the reading of a file: what each exit of the code comes to, answer and both tables.
-- Assumes nothing.
use mathlib.Core.Path.{◌≡◌, refl, sym, ap, ap₂, ◌∙◌, subst}
use mathlib.Core.List.{List, ◌++◌}
use Prim.Native.Nat.{ℕ, ◌+◌, ◌*◌, ◌-◌, ◌^◌, ◌≤◌, ◌<◌}
use native.Mathlib.Nat.{zero-add}
use native.Mathlib.Omega.{arith}
use lib.ListN.{length, replicate, take, drop}
use Rattle.machine.specs.Machine.{Out, ok, refused, run, trace, exec, puts}
use Rattle.cursor.specs.Rows.{Events}
use Rattle.cursor.specs.declared.Cursor.{Cursor}
use Rattle.std.proofs.Common.{Ok, Err}
use Rattle.std.proofs.Common as std
use Rattle.refusals.specs.Reasons.{number_of}
use Rattle.refusals.specs.declared.Refusal.{Refusal}
use Rattle.refusals.specs.Told.{told}
use Rattle.machine.proofs.Laws.{ran}
use Rattle.machine.proofs.Wp.{at_end}
use Rattle.cursor.proofs.Leaves.{any_free}
use Rattle.cursor.proofs.Quiet.{still, exec-puts}
use Rattle.header.specs.Header.{Header, header}
use Rattle.header.specs.Told.{header_of, header_told, Few}
use Rattle.header.specs.declared.Header as code
use Rattle.header.proofs.Ends.{header-on}
use Rattle.rows.specs.Rows.{node_width, item_width, nodes_of, items_of, all_nodes, all_items}
use Rattle.metadata.specs.Tables.{State, state, put, limits, most_nodes, most_items}
use Rattle.metadata.specs.Told.{Fits, Gives}
use Rattle.metadata.specs.declared.Limits.{Limits}
use Rattle.metadata.specs.declared.Made.{Made}
use Rattle.metadata.proofs.Gives.{done, stopped, fitting}
use Rattle.tree.specs.Tree.{tree}
use Rattle.file.specs.Reading.{Result, good, bad, Reading, rows, refusal, logged, follow, reading, context, read_tree, read_file, read_of, answer_of, node_table, item_table}
use Rattle.room.specs.Room.{padded}
use Rattle.file.specs.Told.{TreeFirst, Stands, said, left, Leaves}
use Rattle.file.specs.declared.Summary.{Summary}
use Rattle.file.specs.declared.Tree.{Tree}
use Rattle.tree.proofs.Ends.{tree-inside}
use Rattle.file.proofs.TreeRows.{tree-first, tree-followed}
use Rattle.file.proofs.Follow.{tree_of}
use Rattle.file.proofs.Growing.{bad-is, same-state}
use Rattle.file.proofs.Rows.{node_in}
use Rattle.room.proofs.Sets.{sets-front, padded-behind}
use Rattle.file.proofs.Filled.{filled, puts-fills}
use Rattle.rows.proofs.Rows.{nodes-length, items-length}

-- ---- what is known of the header's answer

module _ (r : std.Result code.Header Refusal) (ws : List ℕ) {o : Out Header} (k : header_told r ws ≡ o) where
  pub header_is : {h : code.Header} → r ≡ Ok h → o ≡ ok (header_of h ws) h.extent.end.0
  header_is e = sym k ∙ ap (λ x. header_told x ws) e

  pub header-no : {x : Refusal} → r ≡ Err x → o ≡ refused (number_of x.0) x.1
  header-no e = sym k ∙ ap (λ x. header_told x ws) e

pub few : {r : std.Result code.Header Refusal} {h : code.Header} → Few r → r ≡ Ok h → h.types ≤ 32
few {r} {h} f e = rw e at f

same : {A : Type 0} {a b : A} {p q : ℕ} → ok a p ≡ ok b q → a ≡ b
same e = cc

-- ---- the reading of a file

abbrev none : Made
none = record { nodes = 0; items = 0 }

-- what is kept of a file by its header, the number of the tree's rows and the rows made
abbrev summed : Header → ℕ → Made → Summary
summed h tree m = record {
  version = h.version;
  edition = record { kind = h.edition.type; revision = h.edition.revision };
  header_end = record { 0 = h.extent.end };
  tree = tree;
  nodes = m.nodes;
  items = m.items;
}

module _ (file t u : List ℕ) where
  -- what the call that is lent the tables t and u says of its answer and of the tables that it leaves
  abbrev pub SaysOf : Reading → Result Summary → List ℕ → List ℕ → Type 0
  SaysOf o a t' u' = (a ≡ read_of o) × (t' ≡ node_table (length t) o) × (u' ≡ item_table (length u) o)

  pub whole-header : {t' u' : List ℕ} {n p : ℕ} → t' ≡ replicate (length t) 0 → u' ≡ replicate (length u) 0 → run
      (header (length file)) file 0 ≡ refused n p → SaysOf (read_file (limits (length t) (length u)) file) (bad n p) t' u'
  unfolding read_file read_tree read_of node_table item_table
  whole-header zt zu e = simp e (refl, zt, zu)

  -- behind a header
  pub whole-behind : {h : Header} {q : ℕ} → run (header (length file)) file 0 ≡ ok h q → {a : Result Summary} {t' u' : List ℕ} → SaysOf
      (read_tree (limits (length t) (length u)) file (ok h q)) a t' u' → SaysOf (read_file (limits (length t) (length u)) file) a t' u'
  unfolding read_file
  whole-behind e s = rw e s

  module _ (h : Header) (q : ℕ) (w : (h.extent.start ≤ h.extent.last) × (h.extent.last < length file) × (length file < 2 ^ 28)) where
    abbrev room : Limits
    room = limits (length t) (length u)

    abbrev Says : Result Summary → List ℕ → List ℕ → Type 0
    Says a t' u' = SaysOf (read_tree room file (ok h q)) a t' u'

    abbrev start : State
    start = state t u none

    whole-log : {m : Made} {p : ℕ} → run (tree_of room (length file) h) file h.extent.start ≡ ok m p
        → read_tree room file (ok h q) ≡ reading h (follow room.nodes room file h 0 (good (trace (tree_of room (length file) h) file h.extent.start)))
    unfolding read_tree logged
    whole-log e = rw e refl

    whole-refusal : {n p : ℕ} → run (tree_of room (length file) h) file h.extent.start ≡ refused n p → read_tree room file (ok h q) ≡ refusal n p
    unfolding read_tree logged reading
    whole-refusal {n} {p} e = rw (e, bad-is room file h 0 room.nodes n p) refl

    module _ {t' u' : List ℕ} {lim : Limits} (is : lim ≡ room) {r : std.Result (Made × Cursor) Refusal}
        (g : Gives lim r t' u' (exec put (tree_of lim (length file) h) file h.extent.start start)) (lt : length t' ≡ length t)
        (lu : length u' ≡ length u) where
      gives : Gives room r t' u' (exec put (tree_of room (length file) h) file h.extent.start start)
      gives = rw is at g

      ran_tree : {m : Made} {c : Cursor} → r ≡ Ok (m, c) → run (tree_of room (length file) h) file h.extent.start ≡ ok m c.at.0
      ran_tree d = ran put (tree_of room (length file) h) file h.extent.start start (done gives d)

      -- the tree's rows stand in the tables
      whole-stand : {m : Made} {c : Cursor} → r ≡ Ok (m, c) → Stands room (length file) start (trace (tree_of room (length file) h) file h.extent.start) m.nodes t' u' m
      whole-stand {m} {c} d =
          let x = context room h (length file) in let mt = tree_of room (length file) h in
          let es = trace mt file h.extent.start in let e = ran_tree d in
          let f : ◌≡◌ {A = Out (Made × State)} (ok (m, puts put es start) c.at.0) (ok (m, state t' u' m) c.at.0) =
          ap (λ o. still o (puts put es start)) (sym e) ∙ sym (exec-puts put mt file h.extent.start start) ∙ done gives d in
          let k : puts put es start ≡ state t' u' m = ap (λ (y : Made × State). y.1) (same f) in
          let cn : m.nodes ≡ length (nodes_of es) = sym (ap (λ (σ : State). σ.made.nodes) (sym (puts-fills es start) ∙ k)) ∙ zero-add _ in
          let v = node_in es (length file) (length file) (omega arith) (tree-inside x file h.extent.start (h.extent.last + 1) (omega arith)) in
          record {
            empty = refl;
            fills = k;
            fits = fitting gives d;
            long = (lt, lu);
            inside = λ i l. ((v i l).0, (v i l).1);
            first = subst (λ n. TreeFirst n es) (sym cn) (tree-first room file h w.1 e);
          }

      pub whole-stands : {m : Made} {c : Cursor} → r ≡ Ok (m, c) → (σ : State) × (log : Events) × Stands lim (length file) σ log m.nodes t' u' m
      whole-stands {m} d = (
        start,
        trace (tree_of room (length file) h) file h.extent.start,
        subst
            (λ v. Stands v (length file) start (trace (tree_of room (length file) h) file h.extent.start) m.nodes t' u' m) (sym is)
            (whole-stand d),
      )

      pub whole-refused : {t''' u''' : List ℕ} {x : Refusal} → r ≡ Err x → t''' ≡ replicate (length t') 0 → u''' ≡ replicate (length u') 0 → Says (bad (number_of x.0) x.1) t''' u'''
      unfolding read_of node_table item_table
      whole-refused d ct cu =
          let e = ran put (tree_of room (length file) h) file h.extent.start start (stopped gives d) in
          rw (whole-refusal e) (refl, ct ∙ ap (λ k. replicate k 0) lt, cu ∙ ap (λ k. replicate k 0) lu)

      -- after the rows were followed
      module _ {m : Made} {c : Cursor} (d : r ≡ Ok (m, c)) {r' : std.Result (Made × Cursor) Refusal} {t'' u'' : List ℕ}
          (k : (σ : State) (log : Events) → Stands lim (length file) σ log m.nodes t' u' m → Leaves lim σ r' t'' u''
          (follow lim.nodes lim file h 0 (good log))) (lt' : length t'' ≡ length t') (lu' : length u'' ≡ length u') where
        left_is : Leaves room start r' t'' u'' (follow room.nodes room file h 0 (good (trace (tree_of room (length file) h) file h.extent.start)))
        left_is = (rw is at k) start (trace (tree_of room (length file) h) file h.extent.start) (whole-stand d)

        pub whole-fits : {n : Made} {p : Cursor} → r' ≡ Ok (n, p) → (n.nodes ≤ lim.nodes) × (n.items ≤ lim.items)
        whole-fits e = let w = whole-stands d in subst (Fits lim) e (k w.0 w.1 w.2).fits

        pub whole-lost : {t''' u''' : List ℕ} {x : Refusal} → r' ≡ Err x → t''' ≡ replicate (length t'') 0 → u''' ≡ replicate (length u'') 0 → Says (bad (number_of x.0) x.1) t''' u'''
        unfolding read_of node_table item_table reading
        whole-lost {t'''} {u'''} {x} e ct cu = by
            (follow room.nodes room file h 0 (good (trace (tree_of room (length file) h) file h.extent.start))) (whole-log (ran_tree d))
            (ap (λ v. said v t'' u'') (sym e) ∙ left_is.answer)
          where
            by : (o : Result Events) → read_tree room file (ok h q) ≡ reading h o → bad (number_of x.0) x.1 ≡ left start o → Says (bad (number_of x.0) x.1) t''' u'''
            by (good log) q y = let z : ◌≡◌ {A = ℕ} 0 1 = cc in absurd (omega arith)
            by (bad a b) q y = let v : number_of x.0 ≡ a = cc in let w : x.1 ≡ b = cc in rw (q, ← v, ← w)
                (refl, ct ∙ ap (λ i. replicate i 0) (lt' ∙ lt), cu ∙ ap (λ i. replicate i 0) (lu' ∙ lu))

        pub whole-good : {t''' u''' : List ℕ} {n : Made} {p : Cursor} → r' ≡ Ok (n, p) → t''' ≡ take (n.nodes * node_width) t'' ++ replicate
            (length t'' - n.nodes * node_width) 0 → u''' ≡ take (n.items * item_width) u'' ++ replicate (length u'' - n.items * item_width) 0
            → Says (good (summed h m.nodes n)) t''' u'''
        unfolding read_of node_table item_table reading
        whole-good {t'''} {u'''} {n} {p} e ct cu =
            by (follow room.nodes room file h 0 (good (trace (tree_of room (length file) h) file h.extent.start))) refl (whole-log (ran_tree d))
            (ap (λ v. said v t'' u'') (sym e) ∙ left_is.answer) (subst (Fits room) e left_is.fits)
          where
            by : (o : Result Events) → follow room.nodes room file h 0 (good (trace (tree_of room (length file) h) file h.extent.start)) ≡ o →
                read_tree room file (ok h q) ≡ reading h o → good (state t'' u'' n) ≡ left start o
                → (n.nodes ≤ room.nodes) × (n.items ≤ room.items) → Says
                (good (summed h m.nodes n)) t''' u'''
            by (bad a b) q x y fits = let z : ◌≡◌ {A = ℕ} 0 1 = cc in absurd (omega arith)
            by (good log) q x y fits =
                let first = tree-followed room file h room.nodes 0 _ (omega arith) (whole-stand d).first q in
                let z : filled log start ≡ state t'' u'' n = sym (puts-fills log start) ∙ sym (same-state y) in
                let cn : n.nodes ≡ length (nodes_of log) = sym (ap (λ (σ : State). σ.made.nodes) z) ∙ zero-add _ in
                let ci : n.items ≡ length (items_of log) = sym (ap (λ (σ : State). σ.made.items) z) ∙ zero-add _ in
                let ln = nodes-length (nodes_of log) in let li = items-length (items_of log) in
                let tn : t'' ≡ all_nodes (nodes_of log) ++ drop (length (all_nodes (nodes_of log))) t = sym (ap (λ (σ : State). σ.nodes) z) ∙ sets-front t
                (all_nodes (nodes_of log)) (omega arith) in
                let ui : u'' ≡ all_items (items_of log) ++ drop (length (all_items (items_of log))) u = sym (ap (λ (σ : State). σ.items) z) ∙ sets-front u
                (all_items (items_of log)) (omega arith) in
                rw x (
                  ap₂ (λ (a : ℕ) (b : Made). good (summed h a b)) (sym first.tree_is) (ap₂ (λ (a b : ℕ). record { nodes = a; items = b }) cn ci),
                  ct ∙ padded-behind (all_nodes (nodes_of log)) _ tn (ap (λ a. a * node_width) cn ∙ sym ln) ∙ ap (λ a. padded a (all_nodes (nodes_of log))) (lt' ∙ lt),
                  cu ∙ padded-behind (all_items (items_of log)) _ ui (ap (λ a. a * item_width) ci ∙ sym li) ∙ ap (λ a. padded a (all_items (items_of log))) (lu' ∙ lu),
                )

-- what a header that was read says of the tree's extent
pub whole-within : (file : List ℕ) {h : Header} {q : ℕ} → run (header (length file)) file 0 ≡ ok h q → (h.extent.start ≤ h.extent.last)
    × (h.extent.last < length file) × (length file < 2 ^ 28)
whole-within file e = let w = at_end any_free file (header-on (length file)) e in (w.2, w.3, w.4)

pub whole_room : {lim : Limits} {n i : ℕ} → lim ≡ limits n i → (lim.nodes * node_width ≤ n) × (lim.items * item_width ≤ i) × (lim.nodes ≤ most_nodes) × (lim.items ≤ most_items)
whole_room e = rw e (omega arith)

-- ---- the first question's answer, from what is kept of the file

abbrev tree_from : Result Summary → Result Tree
tree_from (good s) = good (record { version = s.version; nodes = s.nodes; items = s.items })
tree_from (bad n p) = bad n p

answers : (o : Reading) → tree_from (read_of o) ≡ answer_of o
unfolding read_of answer_of
answers (rows h ns is) = refl
answers (refusal n p) = refl

module _ (o : Reading) {r : std.Result Summary Refusal} (e : told r ≡ read_of o) where
  pub tree_is : {s : Summary} → r ≡ Ok s → good (record { version = s.version; nodes = s.nodes; items = s.items }) ≡ answer_of o
  tree_is h = ap (λ x. tree_from (told x)) (sym h) ∙ ap tree_from e ∙ answers o

  pub tree-no : {x : Refusal} → r ≡ Err x → bad (number_of x.0) x.1 ≡ answer_of o
  tree-no h = ap (λ x. tree_from (told x)) (sym h) ∙ ap tree_from e ∙ answers o
