-- What nodes spend of a kind is the sum over their rows of what each row says. One rule a form, applied to `node`; then the whole log.
-- Assumes nothing.
use mathlib.Core.Path.{◌≡◌, refl, sym, ap, ◌∙◌, subst}
use mathlib.Core.Bool.{Bool, true, false, cond, ◌&&◌, ◌||◌}
use mathlib.Core.Logic.{◌⊎◌, inl, inr}
use borrow.Author.Tests.{eqb-true, eq-eqb, ne_eqb, leb-true}
use mathlib.Core.List.{List, [], ◌∷◌, ◌++◌}
use Prim.Native.Nat.{ℕ, ◌+◌, ◌-◌, ◌≤◌, ◌<◌}
use native.Mathlib.Omega.{arith}
use lib.Dec.{eqb}
use Rattle.machine.specs.Machine.{Out, ok, passed, run, trace, rows_of, times}
use Rattle.cursor.specs.Rows.{node_row, size_if, inline_size, P, Events}
use Rattle.cursor.specs.declared.Node.{Node}
use Rattle.cursor.specs.declared.Item.{Item}
use Rattle.machine.proofs.Laws.{rows_on, run-timed, split}
use Rattle.cursor.proofs.Leaves.{Any, any_free, number-on, block_on}
use Rattle.machine.proofs.Wp.{Wp, at_end, wp_after, wp_ret, wp_if, wp_check, wp_place, wp_skip}
use Rattle.header.specs.Header.{Header}
use Rattle.metadata.specs.Metadata.{Context}
use Rattle.metadata.specs.Tables.{plus_node}
use Rattle.metadata.specs.declared.Limits.{Limits}
use Rattle.metadata.specs.declared.Made.{Made}
use Rattle.node.specs.Node.{resource, node_place, uri_place, target, reference, row_of, front}
use Rattle.node.specs.declared.Head.{Head}
use Rattle.node.specs.declared.Unpackers.{Unpackers}
use Rattle.node.specs.declared.Reference.{Reference}
use Rattle.node.specs.declared.Bounds.{Bounds}
use Rattle.node.specs.declared.Front.{Front}
use Rattle.tree.specs.Tree.{folder}
use Rattle.rows.specs.Rows.{node_of, nodes_of}
use Rattle.file.proofs.Follow.{ReadAs}
use Rattle.file_laws.proofs.EachNode.{OfRow, own_row, by_nodes}
use Rattle.account.specs.Account.{sum_over}
use Rattle.account.specs.ByRows.{meta_at, meta_end, contents_at, follow_size, front_size}
use Rattle.account.proofs.Places.{count}
use Rattle.account.proofs.Spent.{count-on}
use Rattle.cursor.proofs.Apart.{at_place, at_check}
use Rattle.account.proofs.Front.{of_meta, front-is, front-spends}

sum-on : (c : Node → ℕ) (ns ms : List Node) → sum_over c (ns ++ ms) ≡ sum_over c ns + sum_over c ms
sum-on c [] ms = let e : sum_over c ms ≡ 0 + sum_over c ms = omega arith in e
sum-on c (r ∷ ns) ms = let h = sum-on c ns ms in omega arith

-- ---- a count is a sum over rows

module _ (t : ℕ → Bool) (c : Node → ℕ) (f : List ℕ) where
  abbrev pub Sums : Events → Type 0
  Sums es = count t es ≡ sum_over c (nodes_of es)

  sums-nil : Sums []
  unfolding count rows_of
  sums-nil = refl

  sums_on : (es fs : Events) → Sums es → Sums fs → Sums (es ++ fs)
  sums_on es fs a b = let k = count-on t es fs in let n = ap (sum_over c) (rows_on node_of es fs) in let s = sum-on c (nodes_of es) (nodes_of fs) in omega arith

  -- what a node's front and its row spend is what the row says
  abbrev pub Says : Type 0
  Says = (x : Context) (parent depth : ℕ) (s : Bounds) (m : Made) (at : ℕ) (w : Front) (q : ℕ) → run (front x parent depth s m) f at ≡ ok w q
      → (body : Made → P Made) (b : Made) (v : ℕ) → run (folder (at + w.row.size) (times w.row.contained body (plus_node w.made))) f (q + inline_size w.row) ≡ ok b v
      → count t (trace (front x parent depth s m) f at) + (cond (t 7) (inline_size w.row) 0) ≡ c w.row

  row-sums : Says → OfRow Sums sums-nil sums_on f
  unfolding count
  row-sums says x parent depth s m at w q e body b v r =
      let o = says x parent depth s m at w q e body b v r in
      let n = count-on t (trace (front x parent depth s m) f at) (passed (node_row w.row) q (inline_size w.row) ∷ []) in
      let l = ap (sum_over c) (own_row x parent depth s m f at e) in
      omega arith

  pub log-sums : Says → (lim : Limits) (h : Header) {ns : List Node} {is : List Item} (a : ReadAs lim f h ns is) → count t a.log ≡ sum_over c ns
  log-sums says lim h a = subst (λ v. count t a.log ≡ sum_over c v) a.nodes-are (by_nodes Sums sums-nil sums_on f (row-sums says) lim h a)

-- ---- where a node's reference ends: before its contents, or at its end

no : {X : Type 0} → false ≡ true → X
no e = let z : ◌≡◌ {A = ℕ} 0 1 = cc in absurd (omega arith)

pub data Behind (f : List ℕ) (r : Node) (q : ℕ) : Type 0 where
  one : r.reference ≡ 1 → r.target ≡ q → r.extent ≡ r.start + r.size - q → q ≤ r.start + r.size → Behind f r q
  other : 1 < r.reference → r.start + r.size ≡ q → Behind f r q

-- a reference 1 ends where its target begins, which runs to the node's end; any other is no folder's
abbrev pub Told : (contained end at : ℕ) → Reference → ℕ → Type 0
Told contained end at r q = (at < q) × (q ≤ end) × (((r.kind ≡ 1) × (r.target ≡ q) × (r.extent ≡ end - q)) ⊎ ((contained ≡ 0) × (1 < r.kind)))

no-folder : (contained r : ℕ) → (eqb contained 0 || eqb r 1) ≡ true → eqb r 1 ≡ false → contained ≡ 0
no-folder contained r a b = by (eqb contained 0) (eqb r 1) refl a b
  where
    by : (c d : Bool) → eqb contained 0 ≡ c → (c || d) ≡ true → d ≡ false → contained ≡ 0
    by true d e a b = eqb-true contained 0 e
    by false true e a b = no (sym b)
    by false false e a b = no a

pub reference-told : (header_end size contained end at : ℕ) → Wp Any (reference header_end size contained end) (Told contained end at) at
unfolding reference target resource node_place uri_place
reference-told header_end size contained end at =
    wp_place _ at (wp_after (number-on _ _ end at) λ r q x. wp_check _ _ λ t. wp_check _ _ λ u. wp_check _ _ λ v.
    wp_if (λ a. wp_place _ q (wp_ret (omega arith, omega arith, inl (eqb-true r 1 a, refl, refl)))) λ a.
    let z = no-folder contained r v a in
    wp_if (λ b. wp_place _ q (wp_after (number-on _ _ end q) λ o p y. wp_check _ _ λ c. wp_check _ _ λ d. wp_ret (omega arith, omega arith, inr (z, omega arith)))) λ b.
    wp_if (λ c. wp_after (number-on _ _ end q) λ o p y. wp_ret (omega arith, omega arith, inr (z, omega arith)))
    λ c. wp_after (block_on _ _ end q) λ n p y. wp_place _ p (wp_skip _ _ tt (λ _. wp_ret (omega arith, omega arith, inr (z, omega arith)))))

ok-place : {A : Type 0} {a b : A} {p q : ℕ} → ◌≡◌ {A = Out A} (ok a p) (ok b q) → p ≡ q
ok-place e = cc

-- what follows a row with no children: nothing
nothing_left : (n : ℕ) → n ≡ 0 → (stop : ℕ) (body : Made → P Made) (m : Made) (f : List ℕ) (at : ℕ) {b : Made} {v : ℕ} → run
    (folder stop (times n body m)) f at ≡ ok b v → stop ≤ at
unfolding folder
nothing_left n z stop body m f at e =
    let x = split (times n body m) _ f at e in
    let c = at_check f x.p _ _ _ _ (at_place f x.p _ x.second).0 in
    let p = ok-place (sym (run-timed f n at body m z) ∙ x.first) in
    let l = leb-true stop x.p c.0 in
    omega arith

never_inline : (c : Bool) (n : ℕ) → size_if (c && false) n ≡ 0
never_inline true n = refl
never_inline false n = refl

pub front-reference : (x : Context) (parent depth : ℕ) (s : Bounds) (m : Made) (f : List ℕ) (at : ℕ) {w : Front} {q : ℕ} → run (front x parent depth s m) f at ≡ ok w q
    → (body : Made → P Made) {b : Made} {v : ℕ} → run (folder (at + w.row.size) (times w.row.contained body (plus_node w.made))) f
    (q + inline_size w.row) ≡ ok b v → Behind f w.row q
front-reference x parent depth s m f at {w} {q} e body {b} {v} r =
    let y = front-is x parent depth s m f at e in
    let t = at_end any_free f (reference-told x.header_end x.size y.h.contained (at + y.h.size.0) y.left.p) y.left.referred in
    by y.h parent depth s.detached y.o.reference y.o.unpackers (y.m'.items - m.items) w.row w.made y.row_is t r
  where
    by : (h : Head) (parent depth d : ℕ) (o : Reference) (u : Unpackers) (n : ℕ) (row : Node) (made : Made) → row_of at h parent depth d o u n ≡
        row → {p : ℕ} → Told h.contained (at + h.size.0) p o q
        → run (folder (at + row.size) (times row.contained body (plus_node made))) f (q + inline_size row) ≡ ok b v → Behind f row q
    by h parent depth d o u n row made z (_, l, inl k) r = subst (λ i. Behind f i q) z (one k.0 k.1 k.2 l)
    by h parent depth d o u n row made z (_, l, inr k) r =
        let r' = subst (λ i. run (folder (at + i.size) (times i.contained body (plus_node made))) f (q + inline_size i) ≡ ok b v) (sym z) r in
        let i : inline_size (row_of at h parent depth d o u n) ≡ 0 = simp (ne_eqb o.kind 1 (λ e. omega arith)) (never_inline (eqb h.contained 0) o.extent) in
        let j = nothing_left h.contained k.0 (at + h.size.0) body (plus_node made) f _ r' in
        subst (λ i. Behind f i q) z (other k.1 (omega arith))

-- it is the last of what stands before the contents
pub front_is_all : (f : List ℕ) (r : Node) (q : ℕ) → Behind f r q → r.start < q → q ≡ r.start + front_size r
unfolding follow_size
front_is_all f r q (one i j k l) s = rw (eq-eqb r.reference 1 i) (omega arith)
front_is_all f r q (other i j) s = rw (ne_eqb r.reference 1 (λ z. omega arith)) (omega arith)

-- so it ends where the contents begin
pub contents-at : (x : Context) (parent depth : ℕ) (s : Bounds) (m : Made) (f : List ℕ) (at : ℕ) {w : Front} {q : ℕ} → run (front x parent depth s m) f at ≡ ok w q
    → (body : Made → P Made) {b : Made} {v : ℕ} → run (folder (at + w.row.size) (times w.row.contained body (plus_node w.made))) f
    (q + inline_size w.row) ≡ ok b v → contents_at w.row ≡ q
unfolding contents_at
contents-at x parent depth s m f at {w} {q} e body r = by (front-reference x parent depth s m f at e body r)
  where
    by : Behind f w.row q → (cond (eqb w.row.reference 1) w.row.target (w.row.start + w.row.size)) ≡ q
    by (one i j k l) = rw (eq-eqb w.row.reference 1 i) j
    by (other i j) = rw (ne_eqb w.row.reference 1 (λ z. omega arith)) j

-- ---- the kinds, by rows

module _ (f : List ℕ) where
  frames-own : Says (eqb 1) (λ r. meta_at f r - r.start) f
  frames-own x parent depth s m at v q e body b z r = let w = front-spends x parent depth s m f at e in let a = w.frames in omega arith

  metas_own : Says of_meta (λ r. meta_end f r - meta_at f r) f
  metas_own x parent depth s m at v q e body b z r = let w = front-spends x parent depth s m f at e in let a = w.metas in omega arith

  unpacks_own : Says (eqb 5) (λ r. r.start + r.header - meta_end f r) f
  unpacks_own x parent depth s m at v q e body b z r = let w = front-spends x parent depth s m f at e in let a = w.unpacks in omega arith

  inlines_own : Says (eqb 7) inline_size f
  inlines_own x parent depth s m at v q e body b z r = let w = front-spends x parent depth s m f at e in let a = w.inlines in omega arith

  files-own : Says (eqb 0) (λ r. 0) f
  files-own x parent depth s m at v q e body b z r = let w = front-spends x parent depth s m f at e in let a = w.files in omega arith

  refs_own : Says (eqb 6) (λ r. contents_at r - (r.start + r.header)) f
  refs_own x parent depth s m at v q e body b z r = let a = (front-spends x parent depth s m f at e).refs in let c = contents-at x parent depth s m f at e body r in omega arith

  pub record ByRows (ns : List Node) (log : Events) : Type 0 where
    pub files : count (eqb 0) log ≡ sum_over (λ r. 0) ns
    pub frames : count (eqb 1) log ≡ sum_over (λ r. meta_at f r - r.start) ns
    pub metas : count of_meta log ≡ sum_over (λ r. meta_end f r - meta_at f r) ns
    pub unpacks : count (eqb 5) log ≡ sum_over (λ r. r.start + r.header - meta_end f r) ns
    pub refs : count (eqb 6) log ≡ sum_over (λ r. contents_at r - (r.start + r.header)) ns
    pub inlines : count (eqb 7) log ≡ sum_over inline_size ns

  pub by_rows : (lim : Limits) {h : Header} {ns : List Node} {is : List Item} (a : ReadAs lim f h ns is) → ByRows ns a.log
  by_rows lim {h} a = record {
    files = log-sums (eqb 0) _ f files-own lim h a;
    frames = log-sums (eqb 1) _ f frames-own lim h a;
    metas = log-sums of_meta _ f metas_own lim h a;
    unpacks = log-sums (eqb 5) _ f unpacks_own lim h a;
    refs = log-sums (eqb 6) _ f refs_own lim h a;
    inlines = log-sums (eqb 7) _ f inlines_own lim h a;
  }
