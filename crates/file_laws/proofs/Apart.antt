-- A byte of a detached node is none of the header, none of the tree and none of another detached node.
-- Assumes nothing.
use mathlib.Core.Path.{◌≡◌, refl, sym, ap, ◌∙◌, subst}
use mathlib.Core.Logic.{◌⊎◌, inl, inr}
use mathlib.Core.List.{List, [], ◌∷◌, ◌++◌}
use Prim.Native.Nat.{ℕ, zero, suc, ◌+◌, ◌≤◌, ◌<◌}
use native.Mathlib.Decide.{dec_lt}
use native.Mathlib.Omega.{arith}
use lib.ListN.{length, length-append}
use lib.Seq.{get_or-append_seam}
use Rattle.machine.specs.Machine.{ok, run, trace}
use Rattle.cursor.specs.Rows.{Events}
use Rattle.cursor.specs.declared.Node.{Node}
use Rattle.cursor.specs.declared.Item.{Item}
use Rattle.machine.proofs.Laws.{rows_on}
use Rattle.header.specs.Header.{Header}
use Rattle.metadata.specs.declared.Limits.{Limits}
use Rattle.metadata.specs.declared.Made.{Made}
use Rattle.rows.specs.Rows.{node_of, nodes_of, node_at, no_node}
use Rattle.file.specs.Reading.{good, made_by, detached_at, context, rows, read_file}
use Rattle.tree.proofs.Ends.{detached-ends}
use Rattle.tree.proofs.Starts.{detached-row, tree-attached}
use Rattle.file.proofs.Shown.{outside-is, part-is, header_of_lem}
use Rattle.file.proofs.Follow.{tree_of, Reached, known, added, followed, read_back}
use Rattle.file_laws.proofs.Demand.{Taken, Within, meets_none}
use Rattle.file.proofs.Parents.{row-front}

-- k is a byte of detached node i
abbrev pub ByteOf : List Node → (i k : ℕ) → Type 0
ByteOf ns i k = (i < length ns) × ((node_at ns i).detached ≡ 1) × ((node_at ns i).start ≤ k) × (k < (node_at ns i).start + (node_at ns i).size)

byte-taken : (ns : List Node) (i k : ℕ) → ByteOf ns i k → Taken ns k
byte-taken [] i k b = let z = b.0 in absurd (omega arith)
byte-taken (r ∷ ns) zero k b = inl (b.1, b.2, b.3)
byte-taken (r ∷ ns) (suc i) k b = let z = b.0 in inr (byte-taken ns i k (omega arith, b.1, b.2, b.3))

module _ (h : Header) where
  -- of one byte: it lies outside header and tree
  abbrev pub Outside : ℕ → Type 0
  Outside k = (h.extent.end ≤ k) × ((k < h.extent.start) ⊎ (h.extent.last < k))

  pub record AllApart (ns : List Node) : Type 0 where
    pub out : (i k : ℕ) → ByteOf ns i k → Outside k
    pub one : (i j k : ℕ) → ByteOf ns i k → ByteOf ns j k → i ≡ j

  -- a byte of the rows with one more behind is that row's, or one of a row before
  which : (ns : List Node) (row : Node) (i k : ℕ) → ByteOf (ns ++ (row ∷ [])) i k → ByteOf ns i k ⊎ ((i ≡ length ns) × (row.start ≤ k) × (k < row.start + row.size))
  which ns row i k b =
      let c = length-append ns (row ∷ []) in
      let l = b.0 in
      elim (dec_lt i (length ns)) [
        | yes m ↦ inl (subst (λ (r : Node). (i < length ns) × (r.detached ≡ 1) × (r.start ≤ k) × (k < r.start + r.size)) (row-front ns (row ∷ []) i m) (m, b.1, b.2, b.3))
        | no m ↦ (let e : i ≡ length ns = omega arith in
            let s : node_at (ns ++ (row ∷ [])) i ≡ row = ap (node_at (ns ++ (row ∷ []))) e ∙ get_or-append_seam ns row [] no_node in
            inr (subst (λ (r : Node). (i ≡ length ns) × (r.start ≤ k) × (k < r.start + r.size)) s (e, b.2, b.3)))
      ]

  more-apart : (ns : List Node) (row : Node) → AllApart ns → ((k : ℕ) → row.start ≤ k → k < row.start + row.size → Outside k × (Taken ns k → ⊥)) → AllApart (ns ++ (row ∷ []))
  more-apart ns row a free = record {
    out = λ i k b. elim (which ns row i k b) [ inl x ↦ a.out i k x | inr (e, lo, hi) ↦ (free k lo hi).0 ];
    one = λ i j k b c. elim (which ns row i k b) [
      | inl x ↦ elim (which ns row j k c) [ inl y ↦ a.one i j k x y | inr (e, lo, hi) ↦ absurd ((free k lo hi).1 (byte-taken ns i k x)) ]
      | inr (e, lo, hi) ↦ elim (which ns row j k c) [ inl y ↦ absurd ((free k lo hi).1 (byte-taken ns j k y)) | inr (e', _, _) ↦ e ∙ sym e' ]
    ];
  }

module _ (lim : Limits) (f : List ℕ) (h : Header) where
  abbrev Apart : Events → Type 0
  Apart log = AllApart h (nodes_of log)

  -- the tree has no detached row
  tree_apart : {m : Made} {p : ℕ} → h.extent.last < length f → run (tree_of lim (length f) h) f h.extent.start ≡ ok m p → Apart
      (trace (tree_of lim (length f) h) f h.extent.start)
  tree_apart l e =
      let whole = tree-attached (context lim h (length f)) (h.extent.last + 1) f h.extent.start (omega arith) e in
      let never : (i k : ℕ) → ByteOf (nodes_of (trace (tree_of lim (length f) h) f h.extent.start)) i k → ⊥ = λ i k b. let y = b.1 in let z = whole i b.0 in omega arith in
      record { out = λ i k b. absurd (never i k b); one = λ i j k b c. absurd (never i k b) }

  step_apart : (log log' : Events) (r : Node) → h.extent.start ≤ length f → Apart log → Reached lim f h log r log' → Apart log'
  unfolding detached_at
  step_apart log log' r z a (known x y) = rw y a
  step_apart log log' r z a (added s y) =
      let x = context lim h (length f) in
      let o = outside-is h (length f) r.target s.is-outside in
      let p = part-is h (length f) r.target z in
      let u = detached-ends x f r.target _ _ _ _ p.0 s.runs in
      let w = detached-row f x _ _ _ (made_by log) r.target p.0 s.runs in
      let at = w.start in let end = w.stop in
      let n : nodes_of log' ≡ nodes_of log ++ (w.row ∷ []) = ap nodes_of y ∙ rows_on node_of log _ ∙ ap (λ v. nodes_of log ++ v) (w.rows_are ∙ ap (λ v. w.row ∷ v) (w.alone refl)) in
      let meets : (k : ℕ) → r.target ≤ k → k < s.after → Within lim f h (nodes_of log) k → ⊥ = λ k lo hi t. meets_none lim f h (nodes_of log)
      r.target s.after k o.2 p.1 u.1 u.2 t lo hi in
      subst (AllApart h) (sym n) (more-apart h (nodes_of log) w.row a λ k lo hi. (
        (
          let b = o.0 in omega arith,
          elim (dec_lt k h.extent.start) [
            | yes b ↦ inl b
            | no b ↦ elim (dec_lt h.extent.last k) [ yes c ↦ inr c | no c ↦ absurd (meets k (omega arith) (omega arith) (inl (omega arith, omega arith))) ]
          ],
        ),
        λ t. meets k (omega arith) (omega arith) (inr t),
      ))

pub all_apart : (lim : Limits) (f : List ℕ) {h : Header} {ns : List Node} {is : List Item} → read_file lim f ≡ rows h ns is → AllApart h ns
all_apart lim f {h} r =
    let a = read_back lim f r in let b = header_of_lem a in
    let t : Apart lim f h (trace (tree_of lim (length f) h) f h.extent.start) = tree_apart lim f h b.3 a.tree_is in
    let w = followed lim f h (λ i. Apart lim f h) (λ i log log' o l. step_apart lim f h log log' _ (omega arith) o) lim.nodes 0 _
    (λ log e. subst (Apart lim f h) (same e) t) a.follows in
    subst (AllApart h) a.nodes-are w.1
  where
    same : {x y : Events} → good x ≡ good y → x ≡ y
    same e = cc
