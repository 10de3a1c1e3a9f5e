-- An accepted file has no more rows than bytes: each row has a byte of its own, and no byte is in two parts. So every word of a row is below 2 ^ 28.
-- Assumes nothing.
use mathlib.Core.Path.{◌≡◌, refl, sym, ap, ◌∙◌, subst}
use mathlib.Core.Logic.{◌⊎◌, inl, inr}
use mathlib.Core.List.{List, [], ◌∷◌, ◌++◌, map}
use Prim.Native.Nat.{ℕ, zero, suc, ◌+◌, ◌-◌, ◌^◌, ◌≤◌, ◌<◌, min}
use native.Mathlib.Decide.{dec_le, dec_lt}
use native.Mathlib.Omega.{arith}
use lib.ListN.{length, get_or, replicate, length-append, length-replicate}
use Rattle.machine.specs.Machine.{Event, trace}
use Rattle.cursor.specs.Rows.{Events}
use Rattle.cursor.specs.declared.Node.{Node}
use Rattle.cursor.specs.declared.Item.{Item}
use Rattle.cursor.proofs.Limited as limited
use Rattle.cursor.proofs.Limited.{item, limited_ends}
use Rattle.machine.proofs.Stable.{start_of, size_of, end_of, ends, Covers, Separate}
use Rattle.header.specs.Header.{Header, header}
use Rattle.rows.specs.Rows.{node_words, item_words, nodes_of, items_of, no_node, no_item, node_at, NodeIn, ItemIn}
use Rattle.metadata.specs.declared.Limits.{Limits}
use Rattle.file.specs.Reading.{good, rows, read_file}
use Rattle.file.proofs.Follow as follow
use Rattle.file.proofs.Follow.{tree_of, target, Reached, followed, ReadAs, read_back}
use Rattle.file.proofs.Shown.{header_of_lem}
use Rattle.file_laws.proofs.Limited.{Fits, count-nodes, count-items, nodes-on, items-on, tree-limited, target-limited, no_less, to-wider, to-narrower}
use Rattle.file.proofs.Order.{spread, in_row_order}
use Rattle.file.proofs.Rows.{accepted}
use Rattle.rows.proofs.Rows.{name_in}
use Rattle.file_laws.proofs.Demand.{Taken, Parts, all_sound}
use Rattle.file_laws.proofs.Small.{Each, IsVersion, SmallNode, SmallItem, head-is, nodes-read, items-read, tree-paid, step_paid}

-- ---- events that share no byte, all before n, have no more than n bytes

module _ {K W : Type 0} where
  abbrev spent : List (Event K W) → ℕ
  spent [] = 0
  spent (e ∷ es) = size_of e + spent es

  -- of these, before n
  abbrev before : ℕ → List (Event K W) → ℕ
  before n [] = 0
  before n (e ∷ es) = min (size_of e) (n - start_of e) + before n es

  spent-on : (es fs : List (Event K W)) → spent (es ++ fs) ≡ spent es + spent fs
  spent-on [] fs = omega arith
  spent-on (e ∷ es) fs = let z = spent-on es fs in omega arith

  spent-end : (es : List (Event K W)) (at : ℕ) → end_of at es ≡ at + spent es
  spent-end [] at = omega arith
  spent-end (e ∷ es) at = let z = spent-end es (at + size_of e) in omega arith

  -- one byte more
  before-none : (n : ℕ) (es : List (Event K W)) → (Covers es n → ⊥) → before (n + 1) es ≡ before n es
  before-none n [] h = refl
  before-none n (e ∷ es) h =
      let z = before-none n es (λ c. h (inr c)) in
      elim (dec_le (start_of e) n) [
        | yes a ↦ elim (dec_lt n (start_of e + size_of e)) [ yes b ↦ absurd (h (inl (a, b))) | no b ↦ omega arith ]
        | no a ↦ omega arith
      ]

  before-one : (n : ℕ) (es : List (Event K W)) → Separate es → before (n + 1) es ≤ before n es + 1
  before-one n [] s = omega arith
  before-one n (e ∷ es) (s, t) =
      let y = before-one n es t in
      elim (dec_le (start_of e) n) [
        | yes a ↦ elim (dec_lt n (start_of e + size_of e)) [ yes b ↦ (let z = before-none n es (s n (a, b)) in omega arith) | no b ↦ omega arith ]
        | no a ↦ omega arith
      ]

  before-zero : (es : List (Event K W)) → before 0 es ≡ 0
  before-zero [] = refl
  before-zero (e ∷ es) = let z = before-zero es in omega arith

  before-few : (n : ℕ) (es : List (Event K W)) → Separate es → before n es ≤ n
  before-few zero es s = let z = before-zero es in omega arith
  before-few (suc n) es s = let e : suc n ≡ n + 1 = omega arith in let y = before-few n es s in let z = before-one n es s in rw e (omega arith)

  before-all : (n : ℕ) (es : List (Event K W)) → ((k : ℕ) → Covers es k → k < n) → before n es ≡ spent es
  before-all n [] h = refl
  before-all n (e ∷ es) h =
      let z = before-all n es (λ k c. h k (inr c)) in
      elim (dec_lt 0 (size_of e)) [
        | yes l ↦ (let y = h (start_of e + size_of e - 1) (inl (omega arith)) in omega arith)
        | no l ↦ omega arith
      ]

  no_more : (n : ℕ) (es : List (Event K W)) → Separate es → ((k : ℕ) → Covers es k → k < n) → spent es ≤ n
  no_more n es s h = let y = before-few n es s in let z = before-all n es h in omega arith

-- ---- rows and bytes of a log

taken_in : (size : ℕ) (ns : List Node) → ((i : ℕ) → i < length ns → NodeIn size (node_at ns i)) → (k : ℕ) → Taken ns k → k < size
taken_in size [] h k x = elim x [ ]
taken_in size (r ∷ ns) h k (inl (a, b, c)) = let z = (h 0 (omega arith)).1 in omega arith
taken_in size (r ∷ ns) h k (inr y) = taken_in size ns (λ i l. h (suc i) (omega arith)) k y

module _ {lim : Limits} {f : List ℕ} {h : Header} {ns : List Node} {is : List Item} (a : ReadAs lim f h ns is) where
  abbrev Few : Events → Type 0
  Few log = Fits lim log × (length (nodes_of log) + length (items_of log) ≤ spent log)

  tree-few : Few (trace (tree_of lim (length f) h) f h.extent.start)
  tree-few =
      let es = trace (tree_of lim (length f) h) f h.extent.start in
      let (d, q, z) = limited_ends (tree-limited (no_less lim) f h) f h.extent.start a.tree_is in
      let u = z limited.node in let v = z item in let x = count-nodes es in let y = count-items es in
      let p = tree-paid a in let s = spent-end es h.extent.start in let e = ends (tree_of lim (length f) h) f h.extent.start a.tree_is in
      ((omega arith, omega arith), omega arith)

  more-few : (log log' : Events) (r : Node) → Few log → Reached lim f h log r log' → Few log'
  more-few log log' r l (follow.known x y) = rw y l
  more-few log log' r (l, k) (follow.added s y) =
      let es = trace (target lim f h log r) f r.target in
      let (d, q, z) = limited_ends (target-limited (no_less lim) f h log r l) f r.target s.runs in
      let u = z limited.node in let v = z item in let cn = count-nodes es in let ci = count-items es in
      let n = nodes-on log es in let i = items-on log es in let o = spent-on log es in
      let p = step_paid a log r s in let t = spent-end es r.target in let e = ends (target lim f h log r) f r.target s.runs in
      rw y ((omega arith, omega arith), omega arith)

  log-few : Few a.log
  log-few = (followed lim f h (λ i. Few) (λ i log log' s l. more-few log log' _ s) lim.nodes 0 _ (λ log e. subst Few (same e) tree-few) a.follows).1
    where
      same : {x y : Events} → good x ≡ good y → x ≡ y
      same e = cc

-- an accepted file has no more rows than bytes
pub rows_few : (lim : Limits) (f : List ℕ) {h : Header} {ns : List Node} {is : List Item} → read_file lim f ≡ rows h ns is → length ns + length is ≤ length f
rows_few lim f {h} {ns} {is} e =
    let a = read_back lim f e in let w = header_of_lem a in let s = all_sound lim f h a in
    let hs = trace (header (length f)) f 0 in
    let i : (i : ℕ) → i < length (nodes_of a.log) → NodeIn (length f) (node_at (nodes_of a.log) i) = subst
    (λ v. (i : ℕ) → i < length v → NodeIn (length f) (node_at v i)) (sym a.nodes-are) (accepted lim f e).nodes-inside in
    let m = no_more (length f) (hs ++ a.log) s.apart (λ k c. inside (nodes_of a.log) i w k (s.within k c)) in
    let o = spent-on hs a.log in let l = (log-few a).1 in
    let x = ap length a.nodes-are in let y = ap length a.items-are in
    omega arith
  where
    inside : (ns : List Node) {next : ℕ} → ((i : ℕ) → i < length ns → NodeIn (length f) (node_at ns i))
        → (next ≡ h.extent.end) × (next ≤ h.extent.start) × (h.extent.start ≤ h.extent.last) × (h.extent.last < length f) ×
        (length f < 2 ^ 28) → (k : ℕ) → Parts lim f h ns k → k < length f
    inside ns i w k (inl c) = omega arith
    inside ns i w k (inr (inl c)) = omega arith
    inside ns i w k (inr (inr c)) = taken_in (length f) ns i k c

-- ---- every word of its rows

abbrev pub Below : List ℕ → Type 0
Below ws = Each (λ w. w < 2 ^ 28) ws

-- a custom name is not empty, and lies in the file
abbrev pub Named : (size : ℕ) → Item → Type 0
Named size r = (r.kind ≡ 0) ⊎ ((r.kind ≡ 1) × (0 < r.name_length) × (r.field + r.name_length ≤ size))

pub record SmallRows (f : List ℕ) (h : Header) (ns : List Node) (is : List Item) : Type 0 where
  pub version : IsVersion h.version
  pub size : length f < 2 ^ 28
  pub node-count : length ns < 2 ^ 28
  pub item_count : length is < 2 ^ 28
  pub nodes : Each (λ r. Below (node_words r)) ns
  pub items : Each (λ r. Below (item_words r) × Named (length f) r) is

pub each-by : {A : Type 0} (P : A → Type 0) (d : A) (xs : List A) → ((i : ℕ) → i < length xs → P (get_or xs i d)) → Each P xs
each-by P d [] h = tt
each-by P d (x ∷ xs) h = (h 0 (omega arith), each-by P d xs (λ i l. h (suc i) (omega arith)))

each_both : {A : Type 0} (P Q R : A → Type 0) (xs : List A) → ((x : A) → P x → Q x → R x) → Each P xs → Each Q xs → Each R xs
each_both P Q R [] h a b = tt
each_both P Q R (x ∷ xs) h (p, a) (q, b) = (h x p q, each_both P Q R xs h a b)

each_map : {A B : Type 0} (P : B → Type 0) (g : A → B) (xs : List A) → Each P (map g xs) → Each (λ x. P (g x)) xs
each_map P g [] a = tt
each_map P g (x ∷ xs) (p, a) = (p, each_map P g xs a)

-- an item's node has a row
each-run : (n c k : ℕ) (rest : List ℕ) → k < n → Each (λ v. v < n) rest → Each (λ v. v < n) (replicate c k ++ rest)
each-run n zero k rest l h = h
each-run n (suc c) k rest l h = (l, each-run n c k rest l h)

each-spread : (n k : ℕ) (ns : List Node) → k + length ns ≤ n → Each (λ v. v < n) (spread k ns)
each-spread n k [] l = tt
each-spread n k (r ∷ ns) l = each-run n r.rows k (spread (k + 1) ns) (omega arith) (each-spread n (k + 1) ns (omega arith))

-- a node's row counts no more item rows than there are
each_rows : (n k : ℕ) (ns : List Node) → length (spread k ns) ≤ n → Each (λ r. r.rows ≤ n) ns
each_rows n k [] l = tt
each_rows n k (r ∷ ns) l = let a = length-append (replicate r.rows k) (spread (k + 1) ns) in let b = length-replicate r.rows k
    in (omega arith, each_rows n (k + 1) ns (omega arith))

map-length : {A B : Type 0} (g : A → B) (xs : List A) → length (map g xs) ≡ length xs
map-length g [] = refl
map-length g (x ∷ xs) = ap suc (map-length g xs)

module _ (size : ℕ) (l : size < 2 ^ 28) where
  leads : (r : Node) → ((r.reference ≡ 3) → (r.target < 2 ^ 28) × (r.extent ≡ 0)) → (r.reference ≡ 3) ⊎ (r.target + r.extent ≤ size) →
      (r.target < 2 ^ 28) × (r.extent < 2 ^ 28)
  leads r c (inl e) = let (t, x) = c e in (t, omega arith)
  leads r c (inr k) = (omega arith, omega arith)

  node-below : (r : Node) → SmallNode r → NodeIn size r → r.parent < 2 ^ 28 → r.rows < 2 ^ 28 → Below (node_words r)
  node-below r (c, d, e, t, u, b) (i, j, k) p q =
      let (x, y) = leads r t k in
      (omega arith, (omega arith, (omega arith, (c, (p, (omega arith, (omega arith, (x, (y, (omega arith, (omega arith, (q, (omega arith, tt)))))))))))))

  item-below : (most : ℕ) → most < 2 ^ 28 → (r : Item) → SmallItem most r → ItemIn size r → r.node < 2 ^ 28 → Below (item_words r) × Named size r
  item-below most m r (a, v, d, f, inl (k, s, z)) (i, j) n =
      ((n, (omega arith, (omega arith, (s, (omega arith, (omega arith, (d, (f, (omega arith, (omega arith, tt)))))))))), inl k)
  item-below most m r (a, v, d, f, inr (k, s)) i n =
      let j = name_in r i k in let c = i.0 in
      ((n, (omega arith, (omega arith, (omega arith, (omega arith, (omega arith, (d, (f, (omega arith, (omega arith, tt)))))))))), inr (k, s, j))

-- tables of any size: those that just hold the rows would do
just : (lim : Limits) (f : List ℕ) {h : Header} {ns : List Node} {is : List Item} → read_file lim f ≡ rows h ns is → read_file
    (record { nodes = length ns; items = length is }) f ≡ rows h ns is
just lim f e = let (_, a, b) = to-wider (no_less lim) f e in to-narrower (record { nodes = a; items = b }) f e (omega arith) (omega arith)

-- The law: every word of every row of an accepted file is below 2 ^ 28, its length and the counts of its rows too, and no custom name is empty
pub small-rows : (lim : Limits) (f : List ℕ) {h : Header} {ns : List Node} {is : List Item} → read_file lim f ≡ rows h ns is → SmallRows f h ns is
small-rows lim f {h} {ns} {is} e =
    let few = rows_few lim f e in
    let a = read_back (record { nodes = length ns; items = length is }) f (just lim f e) in
    let c = accepted lim f e in let o = in_row_order lim f e in let s = c.small in
    let n = sym (map-length (λ (r : Item). r.node) is) ∙ ap length o.items-follow in
    record {
      version = (head-is a).0;
      size = s;
      node-count = omega arith;
      item_count = omega arith;
      nodes = each_both SmallNode (λ r. NodeIn (length f) r × (r.parent < 2 ^ 28) × (r.rows < 2 ^ 28)) (λ r. Below (node_words r)) ns
          (λ r x y. node-below (length f) s r x y.0 y.1 y.2) (nodes-read a)
          (each_both (λ r. NodeIn (length f) r × (r.parent < 2 ^ 28)) (λ r. r.rows ≤ length is) _ ns (λ r x y. (x.0, x.1, omega arith))
          (each-by _ no_node ns (λ i l. (c.nodes-inside i l, let z = o.parents_first i l in omega arith))) (each_rows (length is) 0 ns (omega arith)));
      items = each_both (SmallItem (length is)) (λ r. ItemIn (length f) r × (r.node < length ns)) (λ r. Below (item_words r) × Named (length f) r) is
          (λ r x y. item-below (length f) s (length is) (omega arith) r x y.0 (let z = y.1 in omega arith)) (items-read a)
          (each_both (ItemIn (length f)) (λ r. r.node < length ns) _ is (λ r x y. (x, y)) (each-by (ItemIn (length f)) no_item is c.items-inside)
          (each_map (λ v. v < length ns) (λ (r : Item). r.node) is (subst (Each (λ v. v < length ns)) (sym o.items-follow) (each-spread (length ns) 0 ns (omega arith)))));
    }
