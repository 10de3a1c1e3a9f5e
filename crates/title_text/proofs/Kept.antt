-- What two files say that differ at private places alone: the same, but for copied bytes, each from the same place of both.
-- Assumes nothing.
use mathlib.Core.Path.{◌≡◌, refl, sym, ap, ◌∙◌, subst}
use mathlib.Core.List.{List, [], ◌∷◌, ◌++◌, append_assoc, append-nil}
use Prim.Native.Nat.{ℕ, zero, suc, ◌+◌, ◌-◌, ◌≤◌}
use native.Mathlib.Omega.{arith}
use lib.ListN.{length, get_or}
use borrow.Author.Tests.{eqb-true}
use Rattle.machine.specs.Machine.{ok, run, trace, exec, puts, rows_of, times, seen, passed, ◌>>=◌}
use Rattle.cursor.specs.Rows.{Part, node_row, item_row, plain, P, Events}
use Rattle.cursor.specs.declared.Node.{Node}
use Rattle.machine.proofs.Agree.{Agree, AgreeUpTo}
use Rattle.machine.proofs.Wp.{Wp, at_end, wp_after, wp_weaken, wp_ret, wp_if, wp_check, wp_place, wp_skip}
use Rattle.cursor.proofs.Leaves.{Any, any_free, number-on, block_on}
use Rattle.cursor.proofs.Quiet.{still, exec-puts, quiet_of}
use Rattle.machine.proofs.Stable.{Held, Kept}
use Rattle.cursor.proofs.Runs.{nothing, nothing-quiet, Holds}
use Rattle.cursor.proofs.Post.{Meets}
use Rattle.header.specs.Header.{Header, header}
use Rattle.header.proofs.Uses.{header-uses}
use Rattle.metadata.specs.Tables.{plus_node}
use Rattle.metadata.specs.Metadata.{Context}
use Rattle.metadata.specs.declared.Made.{Made}
use Rattle.node.specs.Node.{in_tree, unpackers, resource, node_place, uri_place, target, reference, rest, front}
use Rattle.node.specs.declared.Reference as reference
use Rattle.node.specs.declared.Unpackers as unpackers
use Rattle.node.proofs.Uses.{unpackers-use, reference-uses, front-uses}
use Rattle.node.proofs.Ends.{head-inside}
use Rattle.tree.specs.Tree as tree
use Rattle.tree.specs.Tree.{folder}
use Rattle.rows.specs.Rows.{nodes_of}
use Rattle.file_laws.proofs.Demand.{private_data}
use Rattle.title_text.specs.Description.{shape, answer, unpacker_text}
use Rattle.title_text.proofs.UnpackersSay.{unpackers-reread}
use Rattle.title_text.proofs.Regions.{all-bytes, Keeping, keep_step, keep_ret, keep_check, keep_place, keep_skip, keep_after}
use Rattle.title_text.proofs.Transfer.{unpackers-alike}

-- ---- unpackers and URI of each row

-- a URI lies in what was read of its reference
target-spans : (header_end size r end at : ℕ) → Wp Any (target header_end size r end) (λ o q. o.kind ≡ 4 → (at ≤ o.target) × (o.target + o.extent ≤ q)) at
unfolding target resource node_place uri_place
target-spans header_end size r end at =
    wp_if (λ t. wp_place _ at (wp_ret (λ z. let e = eqb-true r 1 t in absurd (omega arith))))
    λ t. wp_if (λ u. wp_place _ at (wp_after (number-on _ _ end at) λ o q x. wp_check _ _ λ c. wp_check _ _ λ d. wp_ret (λ z. absurd (omega arith))))
    λ u. wp_if (λ w. wp_after (number-on _ _ end at) λ o q x. wp_ret (λ z. absurd (omega arith)))
    λ w. wp_after (block_on _ _ end at) λ n q x. wp_place _ q (wp_skip _ _ tt (λ _. wp_ret (λ z. (omega arith, omega arith))))

reference-spans : (header_end size contained end at : ℕ) → Wp Any (reference header_end size contained end) (λ o q. o.kind ≡ 4 → (at ≤ o.target) × (o.target + o.extent ≤ q)) at
unfolding reference
reference-spans header_end size contained end at =
    wp_place _ at
    (wp_after (number-on _ _ end at) λ r q x. wp_check _ _ λ t. wp_check _ _ λ u. wp_check _ _ λ v. wp_weaken
    (target-spans header_end size r end q) λ o p h z. let w = h z in (omega arith, omega arith))

module _ (f k : List ℕ) (long : length f ≡ length k) where
  abbrev pub B : ℕ → Type 0
  B j = get_or f j 0 ≡ get_or k j 0

  -- the row's unpackers are the same in both, and so is its URI
  abbrev pub Same : Node → Type 0
  Same r = ((shape f r).unpackers ≡ (shape k r).unpackers) × (r.reference ≡ 4 → Agree f k r.target r.extent)

  abbrev UnpackersSame : unpackers.Unpackers → Type 0
  UnpackersSame u = answer (run (times u.count (unpacker_text f) []) f u.place.0) ≡ answer (run (times u.count (unpacker_text k) []) k u.place.0)

  reread_same : (contained inner at : ℕ) → inner ≤ length f → {u : unpackers.Unpackers} {q : ℕ} → run (unpackers contained inner) f at ≡ ok u
      q → Held private_data B (trace (unpackers contained inner) f at) → UnpackersSame u
  reread_same contained inner at o {u} {q} e h =
      let r = unpackers-reread f contained inner at o e in let a = r.after in let b = r.before in
      let g : AgreeUpTo f k u.place.0 r.stop = λ j lo hi. all-bytes B (unpackers contained inner) (unpackers-use tt contained inner) f at e
      h j (omega arith) (omega arith) in
      ap answer r.ran ∙ sym (ap answer (unpackers-alike f k long u.count u.place.0 r.ran g))

  abbrev UriSame : reference.Reference → Type 0
  UriSame r = r.kind ≡ 4 → Agree f k r.target r.extent

  uri_same : (header_end size contained stop at : ℕ) {r : reference.Reference} {q : ℕ} → run (reference header_end size contained stop) f at ≡
      ok r q → Held private_data B (trace (reference header_end size contained stop) f at) → UriSame r
  uri_same header_end size contained stop at e h z =
      let w = at_end any_free f (reference-spans header_end size contained stop at) e z in
      λ j lo hi. all-bytes B (reference header_end size contained stop) (reference-uses tt tt header_end size contained stop) f at e h j (omega arith) (omega arith)

  rest-kept : (header_end size contained inner stop at : ℕ) → inner ≤ length f → Keeping B nothing f (rest header_end size contained inner stop)
      (Holds (λ o q. UnpackersSame o.unpackers × UriSame o.reference)) at tt
  unfolding rest
  rest-kept header_end size contained inner stop at o =
      keep_step nothing-quiet λ u q e h. keep_place _ q
      (keep_check _ _ λ t. keep_step nothing-quiet λ r p e₂ h₂. keep_ret
      (reread_same contained inner at o e h, uri_same header_end size contained stop q e₂ h₂))

  front_kept : (x : Context) (parent depth least end : ℕ) (m : Made) (at : ℕ) → end ≤ length f → Keeping B nothing f
      (front x parent depth (in_tree least end) m) (Holds (λ w q. Same w.row × (at + w.row.size ≤ end))) at tt
  unfolding front shape
  front_kept x parent depth least end m at o =
      keep_place _ at (keep_step nothing-quiet λ h p e _.
      let i = head-inside (in_tree least end) f at e in
      keep_step nothing-quiet λ m' q e₂ _. keep_after (rest-kept _ _ _ _ _ q (omega arith)) λ r v _ y. keep_ret (y, i.3))

  -- ---- all rows of a tree

  abbrev pub AllSame : List Node → Type 0
  AllSame [] = Unit {0}
  AllSame (r ∷ rs) = Same r × AllSame rs

  same-on : (rs : List Node) (r : Node) → AllSame rs → Same r → AllSame (rs ++ r ∷ [])
  same-on [] r a s = (s, tt)
  same-on (t ∷ rs) r a s = (a.0, same-on rs r a.1 s)

-- node rows, in a list
abbrev node_rows : Part → ℕ → ℕ → List Node → List Node
node_rows (node_row r) p n σ = σ ++ r ∷ []
node_rows (item_row r) p n σ = σ
node_rows (plain x) p n σ = σ

rows_are : (es : Events) (σ : List Node) → puts node_rows es σ ≡ σ ++ nodes_of es
unfolding puts rows_of
rows_are [] σ = sym (append-nil σ)
rows_are (seen κ p ∷ es) σ = rows_are es σ
rows_are (passed (node_row r) p n ∷ es) σ = rows_are es (σ ++ r ∷ []) ∙ append_assoc σ (r ∷ []) (nodes_of es)
rows_are (passed (item_row r) p n ∷ es) σ = rows_are es σ
rows_are (passed (plain x) p n ∷ es) σ = rows_are es σ

-- what is shown of n nodes with d levels left
abbrev Keep : (f k : List ℕ) → length f ≡ length k → Context → ℕ → Type 0
Keep f k long x d = (n parent end : ℕ) (m : Made) (at : ℕ) (σ : List Node) → end ≤ length f → AllSame f k long σ → Keeping (B f k long)
    node_rows f (times n (tree.node d x parent (in_tree 0 end)) m) (λ _ q τ. AllSame f k long τ) at σ

meets_run : {A : Type 0} (f : List ℕ) (m : P A) (at : ℕ) (Q : A → ℕ → Type 0) {a : A} {q : ℕ} → Meets (Holds Q) (exec nothing m f at tt) → run m f at ≡ ok a q → Q a q
meets_run f m at Q w e = subst (λ o. Meets (Holds Q) (still o tt)) e (subst (Meets (Holds Q)) (exec-puts nothing m f at tt) w)

module _ (f k : List ℕ) (long : length f ≡ length k) (x : Context) where
  node_kept : (d : ℕ) → Keep f k long x d → (parent least end : ℕ) (m : Made) (at : ℕ) (σ : List Node) → end ≤ length f → AllSame f k long σ
      → Keeping (B f k long) node_rows f (tree.node (suc d) x parent (in_tree least end) m) (λ _ q τ. AllSame f k long τ) at σ
  unfolding tree.node folder
  node_kept d children parent least end m at σ o s =
      keep_place _ at (keep_check _ _ λ room.
      keep_step (quiet_of (front-uses (λ κ. tt) (λ v p n σ. refl) (λ r p n σ. refl) x parent (16 - d) (in_tree least end) m)) λ w q e h.
      let y = meets_run f (front x parent (16 - d) (in_tree least end) m) at (λ w q. Same f k long w.row × (at + w.row.size ≤ end))
      ((front_kept f k long x parent (16 - d) least end m at o).meets h) e in
      let i = y.1 in
      keep_skip _ _
      (keep_after (children w.row.contained m.nodes (at + w.row.size) (plus_node w.made) _ _ (omega arith) (same-on f k long σ w.row s y.0)) λ m₂ p τ t.
      keep_place _ p (keep_check _ _ λ full. keep_ret t)))

  times-kept : (d : ℕ) → Keep f k long x d → Keep f k long x (suc d)
  unfolding times
  times-kept d children zero parent end m at σ o s = keep_ret s
  times-kept d children (suc n) parent end m at σ o s = keep_after (node_kept d children parent 0 end m at σ o s) λ m₁ q τ t. times-kept d children n parent end m₁ q τ o t

  none_kept : Keep f k long x 0
  unfolding times tree.node exec ◌>>=◌
  none_kept zero parent end m at σ o s = record { meets = λ held. s }
  none_kept (suc n) parent end m at σ o s = record { meets = λ held. tt }

  nodes-kept : (d : ℕ) → Keep f k long x d
  nodes-kept zero = none_kept
  nodes-kept (suc d) = times-kept d (nodes-kept d)

  pub tree-kept : (end at : ℕ) → end ≤ length f → {m : Made} {q : ℕ} → run (tree.tree x end) f at ≡ ok m q → Kept private_data f k
      (trace (tree.tree x end) f at) → AllSame f k long (nodes_of (trace (tree.tree x end) f at))
  unfolding tree.tree
  tree-kept end at o {m} {q} e h =
      let p : P Made = tree.node 16 x 0 (in_tree end end) (record { nodes = 0; items = 0 }) in
      let w = (node_kept 15 (nodes-kept 15) 0 end end (record { nodes = 0; items = 0 }) at [] o tt).meets h in
      let v = subst (Meets (λ _ q τ. AllSame f k long τ)) (exec-puts node_rows p f at []) w in
      let u = subst (λ o. Meets {A = Made} (λ _ q τ. AllSame f k long τ) (still o (puts node_rows (trace p f at) []))) e v in
      subst (AllSame f k long) (rows_are (trace p f at) []) u

-- ---- the header

pub header-kept : (f k : List ℕ) {h : Header} {q : ℕ} → run (header (length f)) f 0 ≡ ok h q → Kept private_data f k (trace (header (length f)) f 0) → AgreeUpTo f k 0 q
header-kept f k e h j lo hi = all-bytes (λ j. get_or f j 0 ≡ get_or k j 0) (header (length f)) (header-uses tt tt (length f)) f 0 e h j lo hi
