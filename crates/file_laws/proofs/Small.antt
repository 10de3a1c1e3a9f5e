-- What each row says in numbers that were read or counted, whatever the bytes: it is below 2 ^ 28, or bounded by places and rows. A custom name is not empty. And each row
-- has a byte of its own.
-- Assumes nothing.
use mathlib.Core.Path.{◌≡◌, refl, subst}
use mathlib.Core.Bool.{Bool, true, false, cond}
use mathlib.Core.Logic.{◌⊎◌, inl, inr}
use mathlib.Core.List.{List, [], ◌∷◌, ◌++◌}
use Prim.Native.Nat.{ℕ, zero, suc, ◌+◌, ◌-◌, ◌^◌, ◌≤◌, ◌<◌}
use native.Mathlib.Omega.{arith}
use lib.Dec.{eqb}
use lib.ListN.{length}
use borrow.Author.Tests.{ltb-true, leb-true, eqb-true, eqb-false}
use Rattle.machine.specs.Machine.{ok, seen, passed, run, trace, rows_of, turns, many, times}
use Rattle.cursor.specs.Rows.{Part, node_row, item_row, plain, Plain, inline_size, P, Events}
use Rattle.cursor.specs.declared.Node.{Node}
use Rattle.cursor.specs.declared.Item.{Item}
use Rattle.machine.proofs.Wp.{Wp, Rule, All, Free, all-on, given, asked, at_end, wp_after, wp_then, wp_weaken, wp_ret, wp_refuse, wp_here, wp_if, wp_check, wp_place, wp_skip}
use Rattle.cursor.proofs.Leaves.{Any, any_free, number-on, block_on, manufacturer-on, guid-on}
use Rattle.header.specs.Types.{Declared, Known, known, unknown, format_of}
use Rattle.header.specs.Header.{Header, header, opening, entry, types_table}
use Rattle.header.proofs.Ends.{four-on, edition-on, length-on, extent-on}
use Rattle.metadata.specs.Tables.{plus_node}
use Rattle.metadata.specs.Metadata.{Context, field, contents, item_frame, kind_of, field_of, name_length_of, universal, declared_format, version, rows_for, item, next_item, meta_items, metadata}
use Rattle.metadata.specs.declared.Limits.{Limits}
use Rattle.metadata.specs.declared.Made.{Made}
use Rattle.metadata.specs.declared.Label.{Label}
use Rattle.metadata.specs.declared.Field.{Field}
use Rattle.metadata.specs.declared.Field.TheVariants.{Standard, Name}
use Rattle.metadata.specs.declared.Contents.{Contents}
use Rattle.metadata.specs.declared.Contents.TheVariants.{Universal, Versions}
use Rattle.node.specs.Node.{header_length, head, in_tree, outside_tree, value, identifier, unpacker, entries, unpackers, resource, node_place, uri_place, target, reference, rest, front}
use Rattle.node.specs.declared.Bounds.{Bounds}
use Rattle.node.specs.declared.Reference.{Reference}
use Rattle.tree.specs.Tree.{folder, node, tree, detached}
use Rattle.rows.specs.Rows.{nodes_of, items_of}
use Rattle.file.specs.Reading.{good, detached_at, made_by, context}
use Rattle.file.proofs.Follow as follow
use Rattle.file.proofs.Follow.{Reached, followed, ReadAs}

-- ---- repetitions that keep an invariant of answer and cursor

module _ {A : Type 0} {U : Rule Part} where
  turned : (I : A → ℕ → Type 0) (k end : ℕ) {body : A → P A} (s : A) (at : ℕ) → ((t : A) (p : ℕ) → I t p → Wp U (body t) I p) → I s at → Wp U (turns k end body s) I at
  unfolding turns
  turned I zero end s at step i = wp_ret i
  turned I (suc k) end s at step i = wp_here (wp_if (λ t. wp_after (step s at i) λ r p q. turned I k end r p step q) (λ t. wp_ret i))

  repeats : (I : A → ℕ → Type 0) (end : ℕ) {body : A → P A} (s : A) (at : ℕ) → ((t : A) (p : ℕ) → I t p → Wp U (body t) I p) → I s at → Wp U (many end body s) I at
  unfolding many
  repeats I end s at step i = wp_here (turned I (end - at) end s at step i)

  counts : (I : A → ℕ → Type 0) (n : ℕ) {body : A → P A} (s : A) (at : ℕ) → ((t : A) (p : ℕ) → I t p → Wp U (body t) I p) → I s at → Wp U (times n body s) I at
  unfolding times
  counts I zero s at step i = wp_ret i
  counts I (suc n) s at step i = wp_after (step s at i) λ r p q. counts I n r p step q

-- ---- what is shown of a row

-- a reference 3 leads to a place that was read; where any other leads lies in the file
abbrev SmallReference : Reference → Type 0
SmallReference r = (r.kind ≤ 4) × ((r.kind ≡ 3) → (r.target < 2 ^ 28) × (r.extent ≡ 0))

-- the unpackers stand before the node's end, and each has a byte
abbrev pub SmallNode : Node → Type 0
SmallNode r = (r.contained < 2 ^ 28) × (r.depth ≤ 16) × (r.reference ≤ 4) × ((r.reference ≡ 3) → (r.target < 2 ^ 28) × (r.extent ≡ 0))
    × (r.unpackers + r.unpacker_count ≤ r.start + r.size) × (r.detached ≤ 1)

abbrev pub SmallLabel : Item → Type 0
SmallLabel r = ((r.kind ≡ 0) × (r.field < 2 ^ 28) × (r.name_length ≡ 0)) ⊎ ((r.kind ≡ 1) × (0 < r.name_length))

-- of tables that hold `most` item rows; an item has a byte before the next
abbrev pub SmallItem : (most : ℕ) → Item → Type 0
SmallItem most r = (r.item ≤ r.place) × (r.version ≤ most) × (r.declared < 2 ^ 28) × (r.format < 2 ^ 28) × SmallLabel r

abbrev Shown : (most : ℕ) → Part → ℕ → ℕ → Type 0
Shown most (node_row r) p n = SmallNode r
Shown most (item_row r) p n = SmallItem most r
Shown most (plain x) p n = Unit {0}

abbrev Small : ℕ → Rule Part
Small most = record { asks = Shown most; gets = λ w p n. Unit {0} }

-- from m at a place to m' at q: each row that was made has a byte of its own
abbrev pub Paid : Made → ℕ → Made → ℕ → Type 0
Paid m at m' q = m'.nodes + m'.items + at ≤ m.nodes + m.items + q

small-free : (most : ℕ) → Free (Small most)
small-free most w p n = tt

-- ---- declared types

abbrev SmallTypes : List Declared → Type 0
SmallTypes [] = Unit {0}
SmallTypes (d ∷ ds) = (d.format < 2 ^ 28) × SmallTypes ds

abbrev SmallKnown : Known → Type 0
SmallKnown (known f) = f < 2 ^ 28
SmallKnown unknown = Unit {0}

known_small : (ds : List Declared) (t : ℕ) → SmallTypes ds → SmallKnown (format_of ds t)
unfolding format_of
known_small [] t h = tt
known_small (d ∷ ds) t (l, h) = by (eqb d.type t) (known_small ds t h)
  where
    by : (b : Bool) → SmallKnown (format_of ds t) → SmallKnown (cond b (known d.format) (format_of ds t))
    by true k = l
    by false k = k

types_more : (ds : List Declared) (t f : ℕ) → SmallTypes ds → f < 2 ^ 28 → SmallTypes (ds ++ (record { type = t; format = f } ∷ []))
types_more [] t f h l = (l, tt)
types_more (d ∷ ds) t f (k, h) l = (k, types_more ds t f h l)

-- ---- the header

abbrev pub IsVersion : ℕ → Type 0
IsVersion v = (v ≡ 100) ⊎ (v ≡ 101) ⊎ (v ≡ 200)

opening-small : (size at : ℕ) → Wp Any (opening size) (λ v q. IsVersion v × (q ≤ size)) at
unfolding opening
opening-small size at =
    wp_check _ _ λ t. wp_check _ _ λ u.
    wp_after (four-on _ size at) λ m p x. wp_check _ _ λ v.
    wp_after (four-on _ size p) λ n q y.
    wp_if (λ _. wp_ret (inl refl, y.1)) λ _. wp_if (λ _. wp_ret (inr (inl refl), y.1)) λ _. wp_if (λ _. wp_ret (inr (inr refl), y.1)) λ _. wp_refuse

types-small : (size at : ℕ) → Wp Any (types_table size) (λ ds _. SmallTypes ds) at
unfolding types_table entry
types-small size at =
    wp_after (block_on _ _ size at) λ n q x.
    wp_place _ q
    (wp_after (number-on _ _ (q + n) q) λ count r y.
    wp_after
    (counts (λ ds _. SmallTypes ds) count [] r
    (λ ds p h. wp_place _ p
    (wp_after (number-on _ _ (q + n) p) λ t s z. wp_check _ _ λ u. wp_check _ _ λ v.
    wp_after (number-on _ _ (q + n) s) λ f o w.
    wp_after (block_on _ _ (q + n) o) λ k c d.
    wp_skip _ _ tt (λ _. wp_ret (types_more ds t f h w.3)))) tt)
    λ ds e z. wp_place _ e (wp_check _ _ λ t. wp_ret z))

header-small : (size : ℕ) → Wp Any (header size) (λ h _. IsVersion h.version × SmallTypes h.types) 0
unfolding header
header-small size =
    wp_after (opening-small size 0) λ v p x.
    wp_after (edition-on size v p x.1) λ e q y.
    wp_then (length-on size q) λ u r z.
    wp_after (types-small size r) λ ds s w.
    wp_after (extent-on size s) λ t o k.
    wp_ret (x.0, w)

-- ---- the metadata of a node

abbrev SmallField : Field → Type 0
SmallField (Standard k) = k < 2 ^ 28
SmallField (Name p n) = 0 < n

labelled : (f : Field) → SmallField f → ((kind_of f ≡ 0) × (field_of f < 2 ^ 28) × (name_length_of f ≡ 0)) ⊎ ((kind_of f ≡ 1) × (0 < name_length_of f))
labelled (Standard k) l = inl (refl, l, refl)
labelled (Name p n) l = inr (refl, l)

contents-small : {U : Rule Part} (end at : ℕ) → Wp U (contents end) (λ _ q. at ≤ q) at
unfolding contents
contents-small end at = wp_after (number-on _ _ end at) λ n q x. wp_if (λ t. wp_ret (omega arith)) (λ t. wp_ret (omega arith))

field-small : {U : Rule Part} → ((x : Plain) (p n : ℕ) → U.asks (plain x) p n) → (end at : ℕ) → Wp U (field end) (λ f q. SmallField f × (at < q)) at
unfolding field
field-small h end at =
    wp_after (block_on _ _ end at) λ n q x.
    wp_if
    (λ t. wp_after (number-on _ _ end q) λ k r y. wp_ret (y.3, omega arith))
    (λ t. wp_place _ q (wp_skip _ _ (h _ _ _) (λ _. wp_ret (some n (eqb-false n 0 t), omega arith))))
  where
    some : (n : ℕ) → ((n ≡ 0) → ⊥) → 0 < n
    some zero z = absurd (z refl)
    some (suc n) z = omega arith

frame_small : {U : Rule Part} → ((x : Plain) (p n : ℕ) → U.asks (plain x) p n) → (end at : ℕ) → Wp U (item_frame end) (λ i q. SmallField i.field × (at < q)) at
unfolding item_frame
frame_small h end at = wp_after (field-small h end at) λ f q x. wp_after (contents-small end q) λ c r y. wp_ret (x.0, let l = x.1 in omega arith)

format_small : {U : Rule Part} (p : ℕ) (k : Known) (at : ℕ) → SmallKnown k → Wp U (declared_format p k) (λ f q. (f < 2 ^ 28) × (q ≡ at)) at
unfolding declared_format
format_small p (known f) at h = wp_ret (h, refl)
format_small p unknown at h = wp_refuse

module _ (x : Context) (h : SmallTypes x.types) where
  rows-small : (l : Label) → SmallField l.field → (end : ℕ) (k : Contents) (m : Made) (at : ℕ) → l.item ≤ at → Wp
      (Small x.limits.items) (rows_for x l end k m) (λ m' q. Paid m at m' q × (at ≤ q)) at
  unfolding rows_for universal version
  rows-small l a end Universal m at o =
      wp_place _ at (wp_check _ _ λ t.
      wp_after (block_on _ _ end at) λ n q y. wp_check _ _ λ u.
      wp_place _ q
      (wp_after (number-on _ _ (q + n) q) λ format r z.
      wp_place _ r (wp_skip _ _ (omega arith, omega arith, omega arith, z.3, labelled l.field a) (λ _. wp_ret (omega arith, omega arith)))))
  rows-small l a end (Versions n) m at o = counts (λ m' q. Paid m at m' q × (at ≤ q)) n m at
      (λ m' p i. wp_place _ p (wp_check _ _ λ t.
      wp_after (number-on _ _ end p) λ k q y.
      wp_after (format_small p (format_of x.types k) q (known_small x.types k h)) λ format r z.
      wp_after (block_on _ _ end r) λ size s w.
      wp_place _ s (wp_skip _ _ (
        omega arith,
        (let c = ltb-true m'.items x.limits.items t in omega arith),
        y.3,
        z.0,
        labelled l.field
            a,
      ) (λ _. wp_ret (omega arith, omega arith))))) (omega arith, omega arith)

  item-small : (node index end : ℕ) (m : Made) (at : ℕ) → index ≤ at → Wp (Small x.limits.items) (item x node index end m) (λ m' q. Paid m at m' q × (at < q)) at
  unfolding item
  item-small node index end m at o =
      wp_after (frame_small (λ v p n. tt) end at) λ i r f.
      let c = f.1 in
      wp_weaken (rows-small (record { node = node; item = index; field = i.field }) f.0 end i.contents m r (omega arith)) (λ m' v z. (omega arith, omega arith))

  metadata-small : (node end : ℕ) (m : Made) (at : ℕ) → Wp (Small x.limits.items) (metadata x node end m) (Paid m at) at
  unfolding metadata meta_items next_item
  metadata-small node end m at =
      wp_after (block_on _ _ end at) λ n q y.
      wp_place _ q
      (wp_after
      (repeats (λ k p. Paid m at k.made p × (k.index ≤ p)) (q + n) _ q
      (λ k p i. wp_after (item-small node k.index (q + n) k.made p i.1) λ m' r z. wp_ret (omega arith, omega arith)) (omega arith, omega arith))
      λ k r z. wp_ret z.0)

-- ---- a node up to its contents

module _ {U : Rule Part} (u : (x : Plain) (p n : ℕ) → U.asks (plain x) p n) where
  head_small : (s : Bounds) (at : ℕ) → Wp U (head s) (λ h q. (h.contained < 2 ^ 28) × (at ≤ q)) at
  unfolding head header_length
  head_small s at =
      wp_place _ at
      (wp_after (number-on _ _ s.end.0 at) λ n p x. wp_check _ _ λ a. wp_check _ _ λ b. wp_check _ _ λ c.
      wp_after (number-on _ _ (at + n) p) λ contained q y. wp_check _ _ λ d.
      wp_place _ q (wp_after (number-on _ _ (at + n) q) λ header r z. wp_place _ r (wp_check _ _ λ e. wp_check _ _ λ g. wp_ret (y.3, omega arith))))

  value-small : (end at : ℕ) → Wp U (value end) (λ _ q. at < q) at
  unfolding value
  value-small end at = wp_after (number-on _ _ end at) λ v q x. wp_ret (omega arith)

  identifier-small : (kind end at : ℕ) → Wp U (identifier kind end) (λ _ q. at < q) at
  unfolding identifier
  identifier-small kind end at =
      wp_if (λ t. wp_weaken (guid-on _ end at) (λ _ q x. omega arith))
      λ t. wp_if (λ v. wp_after (manufacturer-on _ end at) λ m q x. wp_weaken (value-small end q) (λ _ r y. omega arith)) (λ v. value-small end at)

  unpackers-small : (contained end at : ℕ) → Wp U (unpackers contained end) (λ v q. (v.place.0 + v.count ≤ q) × (at ≤ q)) at
  unfolding unpackers entries unpacker
  unpackers-small contained end at =
      wp_place _ at
      (wp_after (block_on _ _ end at) λ n q x. wp_check _ _ λ t.
      wp_place _ q
      (wp_place _ q
      (wp_after
      (repeats (λ k p. q + k ≤ p) (q + n) 0 q
      (λ k p i. wp_place _ p (wp_after (number-on _ _ (q + n) p) λ kind r y. wp_check _ _ λ v. wp_after (identifier-small kind (q + n) r) λ _ s z.
      wp_after (value-small (q + n) s) λ _ o w. wp_ret (omega arith))) (omega arith))
      λ k r y. wp_ret (omega arith, omega arith))))

  reference-small : (header_end size contained end at : ℕ) → Wp U (reference header_end size contained end) (λ r q. SmallReference r × (at < q) × (at ≤ end)) at
  unfolding reference target resource node_place uri_place
  reference-small header_end size contained end at =
      wp_place _ at
      (wp_after (number-on _ _ end at) λ r q x. wp_check _ _ λ a. wp_check _ _ λ b. wp_check _ _ λ c.
      wp_if (λ t. wp_place _ q (wp_ret ((leb-true r 4 b, λ k. absurd (let z = eqb-true r 1 t in omega arith)), omega arith, omega arith)))
      λ t. wp_if
      (λ v. wp_place _ q (wp_after (number-on _ _ end q) λ o s y. wp_check _ _ λ d. wp_check _ _ λ e. wp_ret ((omega arith, λ k. absurd (omega arith)), omega arith, omega arith)))
      λ v. wp_if
      (λ w. wp_after (number-on _ _ end q) λ o s y. wp_ret ((omega arith, λ k. (y.3, refl)), omega arith, omega arith))
      λ w. wp_after (block_on _ _ end q) λ n s y. wp_place _ s (wp_skip _ _ (u _ _ _) (λ _. wp_ret ((omega arith, λ k. absurd (omega arith)), omega arith, omega arith))))

  rest-small : (header_end size contained inner stop at : ℕ) → Wp U (rest header_end size contained inner stop)
      (λ r q. SmallReference r.reference × (r.unpackers.place.0 + r.unpackers.count ≤ stop) × (at < q)) at
  unfolding rest
  rest-small header_end size contained inner stop at =
      wp_after (unpackers-small contained inner at) λ v q x.
      wp_place _ q (wp_check _ _ λ t.
      wp_after (reference-small header_end size contained stop q) λ r p y. wp_ret (y.0, (let z = y.2 in omega arith), let z = y.1 in omega arith))

module _ (x : Context) (h : SmallTypes x.types) where
  front-small : (parent depth : ℕ) → depth ≤ 16 → (s : Bounds) → s.detached ≤ 1 → (m : Made) (at : ℕ) → Wp (Small x.limits.items)
      (front x parent depth s m) (λ w q. SmallNode w.row × Paid m at (plus_node w.made) q) at
  unfolding front
  front-small parent depth l s k m at =
      wp_place _ at
      (wp_after (head_small (λ v p n. tt) s at) λ d p y.
      wp_after (metadata-small x h m.nodes (at + d.header.0) m p) λ m' q z.
      wp_after (rest-small (λ v p n. tt) x.header_end x.size d.contained (at + d.header.0) (at + d.size.0) q) λ r v w.
      wp_ret ((y.0, l, w.0.0, w.0.1, w.1, k), let o = w.2 in let c = y.1 in omega arith))

  -- ---- the tree

  node-small : (d parent : ℕ) (s : Bounds) → s.detached ≤ 1 → (m : Made) (at : ℕ) → Wp (Small x.limits.items) (node d x parent s m) (Paid m at) at
  unfolding node folder
  node-small zero parent s k m at = wp_here wp_refuse
  node-small (suc d) parent s k m at =
      wp_place _ at (wp_check _ _ λ t.
      wp_after (front-small parent (16 - d) (omega arith) s k m at) λ w q y.
      wp_skip _ _ y.0 (λ _.
      wp_after
      (counts (Paid m at) w.row.contained _ (q + inline_size w.row)
      (λ t p i. wp_weaken (node-small d m.nodes (in_tree 0 (at + w.row.size)) (omega arith) t p) (λ t' v z. omega arith)) (let z = y.1 in omega arith))
      λ t p z. wp_place _ p (wp_check _ _ λ t. wp_ret z)))

  tree-small : (end : ℕ) (f : List ℕ) (at : ℕ) → All (Shown x.limits.items) (trace (tree x end) f at)
  unfolding tree
  tree-small end f at = asked f (node-small 16 0 (in_tree end end) (omega arith) _ at) (given (Small x.limits.items) (small-free x.limits.items) (trace (tree x end) f at))

  detached-small : (end taken offset : ℕ) (m : Made) (f : List ℕ) (at : ℕ) → All (Shown x.limits.items) (trace (detached x end taken offset m) f at)
  unfolding detached
  detached-small end taken offset m f at =
      asked f (node-small 17 m.nodes (outside_tree end taken offset) (omega arith) m at)
      (given (Small x.limits.items) (small-free x.limits.items) (trace (detached x end taken offset m) f at))

  -- what an accepted run comes to: no more rows than bytes
  tree-pays : (end : ℕ) (f : List ℕ) (at : ℕ) {m : Made} {q : ℕ} → run (tree x end) f at ≡ ok m q → m.nodes + m.items + at ≤ q
  unfolding tree
  tree-pays end f at e = let z = at_end (small-free x.limits.items) f (node-small 16 0 (in_tree end end) (omega arith) _ at) e in omega arith

  detached-pays : (end taken offset : ℕ) (m : Made) (f : List ℕ) (at : ℕ) {m' : Made} {q : ℕ} → run (detached x end taken offset m) f at ≡ ok m' q → Paid m at m' q
  unfolding detached
  detached-pays end taken offset m f at e = at_end (small-free x.limits.items) f (node-small 17 m.nodes (outside_tree end taken offset) (omega arith) m at) e

-- ---- an accepted file

-- P holds of each
abbrev pub Each : {A : Type 0} → (A → Type 0) → List A → Type 0
Each P [] = Unit {0}
Each P (x ∷ xs) = P x × Each P xs

nodes-small : (most : ℕ) (es : Events) → All (Shown most) es → Each SmallNode (nodes_of es)
unfolding rows_of
nodes-small most [] a = tt
nodes-small most (seen κ p ∷ es) a = nodes-small most es a
nodes-small most (passed (node_row r) p n ∷ es) a = (a.0, nodes-small most es a.1)
nodes-small most (passed (item_row r) p n ∷ es) a = nodes-small most es a.1
nodes-small most (passed (plain x) p n ∷ es) a = nodes-small most es a.1

items-small : (most : ℕ) (es : Events) → All (Shown most) es → Each (SmallItem most) (items_of es)
unfolding rows_of
items-small most [] a = tt
items-small most (seen κ p ∷ es) a = items-small most es a
items-small most (passed (node_row r) p n ∷ es) a = items-small most es a.1
items-small most (passed (item_row r) p n ∷ es) a = (a.0, items-small most es a.1)
items-small most (passed (plain x) p n ∷ es) a = items-small most es a.1

module _ {lim : Limits} {f : List ℕ} {h : Header} {ns : List Node} {is : List Item} (a : ReadAs lim f h ns is) where
  pub head-is : IsVersion h.version × SmallTypes h.types
  head-is = at_end any_free f (header-small (length f)) a.header_is

  more-small : (log log' : Events) (r : Node) → All (Shown lim.items) log → Reached lim f h log r log' → All (Shown lim.items) log'
  unfolding detached_at
  more-small log log' r s (follow.known x y) = rw y s
  more-small log log' r s (follow.added t y) = rw y (all-on _ log _ s (detached-small (context lim h (length f)) head-is.1 _ _ _ _ f r.target))

  log-small : All (Shown lim.items) a.log
  log-small =
      (followed lim f h (λ i. All (Shown lim.items)) (λ i log log' s l. more-small log log' _ s) lim.nodes 0 _
      (λ log e. subst (All (Shown lim.items)) (same e) (tree-small (context lim h (length f)) head-is.1 _ f h.extent.start))
      a.follows).1
    where
      same : {x y : Events} → good x ≡ good y → x ≡ y
      same e = cc

  pub tree-paid : a.made.nodes + a.made.items + h.extent.start ≤ a.after
  tree-paid = tree-pays (context lim h (length f)) head-is.1 _ f h.extent.start a.tree_is

  pub step_paid : (log : Events) (r : Node) (s : follow.Step lim f h log r) → Paid (made_by log) r.target s.made s.after
  unfolding detached_at
  step_paid log r s = detached-pays (context lim h (length f)) head-is.1 _ _ _ (made_by log) f r.target s.runs

  pub nodes-read : Each SmallNode ns
  nodes-read = subst (Each SmallNode) a.nodes-are (nodes-small lim.items a.log log-small)

  pub items-read : Each (SmallItem lim.items) is
  items-read = subst (Each (SmallItem lim.items)) a.items-are (items-small lim.items a.log log-small)
