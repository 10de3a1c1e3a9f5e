-- What is known of the rows of an accepted file, and what a question knows of the tables after it was read.
-- Assumes nothing.
use mathlib.Core.Path.{◌≡◌, refl, sym, ap, ap₂, ◌∙◌}
use mathlib.Core.Logic.{◌⊎◌, inl, inr}
use mathlib.Core.List.{List, [], ◌∷◌}
use Prim.Native.Nat.{ℕ, zero, suc, ◌+◌, ◌*◌, ◌-◌, ◌^◌, ◌≤◌, ◌<◌}
use native.Mathlib.Omega.{arith}
use lib.ListN.{length, replicate, length-append}
use Rattle.machine.specs.Machine.{seen, passed, rows_of}
use Rattle.cursor.specs.Rows.{node_row, item_row, plain, Events}
use Rattle.cursor.specs.declared.Node.{Node}
use Rattle.cursor.specs.declared.Item.{Item}
use Rattle.machine.proofs.Wp.{All}
use Rattle.header.specs.Header.{Header}
use Rattle.rows.specs.Rows.{node_width, item_width, nodes_of, items_of, all_nodes, all_items, nodes_in, items_in, node_at, item_at, NodeIn, ItemIn, ItemsIn}
use Rattle.metadata.specs.declared.Limits.{Limits}
use Rattle.metadata.proofs.Ends.{Nothing, Inside}
use Rattle.file.specs.Reading.{Reading, rows, refusal, read_file, read_of, summary, node_table, item_table}
use Rattle.std.proofs.Common.{Ok, Err}
use Rattle.std.proofs.Common as std
use Rattle.refusals.specs.Reasons.{number_of}
use Rattle.refusals.specs.declared.Refusal.{Refusal}
use Rattle.room.specs.Room.{padded}
use Rattle.refusals.specs.Told.{told}
use Rattle.file.specs.Asking.{Result, good, bad, ask, kept_nodes, kept_items}
use Rattle.file.specs.declared.Summary.{Summary}
use Rattle.file.proofs.Follow.{read_back}
use Rattle.file.proofs.Shown.{header_of_lem, log-inside}
use Rattle.rows.proofs.Rows.{nodes-back, items_back, nodes-length, items-length}

-- ---- what is known of the rows of an accepted file

pub node_in : (es : Events) (end size : ℕ) → end ≤ size → All (Inside Nothing end size).asks es → (i : ℕ) → i < length (nodes_of es) → NodeIn size (node_at (nodes_of es) i)
unfolding rows_of
node_in [] end size l a i h = absurd (omega arith)
node_in (seen κ p ∷ es) end size l a i h = node_in es end size l a i h
node_in (passed (node_row r) p n ∷ es) end size l a zero h = let b = a.0.1 in (a.0.0, omega arith, a.0.2)
node_in (passed (node_row r) p n ∷ es) end size l a (suc i) h = node_in es end size l a.1 i (omega arith)
node_in (passed (item_row r) p n ∷ es) end size l a i h = node_in es end size l a.1 i h
node_in (passed (plain x) p n ∷ es) end size l a i h = node_in es end size l a.1 i h

named : {A : Type 0} (a b end size : ℕ) → end ≤ size → A ⊎ ((a + b ≤ end) × Unit {0}) → A ⊎ (a + b ≤ size)
named a b end size l (inl x) = inl x
named a b end size l (inr x) = let y = x.0 in inr (omega arith)

item_in : (es : Events) (end size : ℕ) → end ≤ size → All (Inside Nothing end size).asks es → (i : ℕ) → i < length (items_of es) → ItemIn size (item_at (items_of es) i)
unfolding rows_of
item_in [] end size l a i h = absurd (omega arith)
item_in (seen κ p ∷ es) end size l a i h = item_in es end size l a i h
item_in (passed (node_row r) p n ∷ es) end size l a i h = item_in es end size l a.1 i h
item_in (passed (item_row r) p n ∷ es) end size l a zero h = let b = a.0.0 in let c = a.0.1 in let d = a.0.2
    in (omega arith, named r.field r.name_length end size l a.0.3)
item_in (passed (item_row r) p n ∷ es) end size l a (suc i) h = item_in es end size l a.1 i (omega arith)
item_in (passed (plain x) p n ∷ es) end size l a i h = item_in es end size l a.1 i h

pub record Accepted (f : List ℕ) (ns : List Node) (is : List Item) : Type 0 where
  pub small : length f < 2 ^ 28
  pub nodes-inside : (i : ℕ) → i < length ns → NodeIn (length f) (node_at ns i)
  pub items-inside : ItemsIn (length f) is

pub accepted : (lim : Limits) (f : List ℕ) {h : Header} {ns : List Node} {is : List Item} → read_file lim f ≡ rows h ns is → Accepted f ns is
accepted lim f e = let a = read_back lim f e in of_log a.log (header_of_lem a).4 (log-inside a) a.nodes-are a.items-are
  where
    of_log : (log : Events) → length f < 2 ^ 28 → All (Inside Nothing (length f) (length f)).asks log → {ns : List Node} {is : List Item} →
        nodes_of log ≡ ns → items_of log ≡ is → Accepted f ns is
    of_log log s a x y = rw (← x, ← y)
        (record {
          small = s;
          nodes-inside = node_in log (length f) (length f) (omega arith) a;
          items-inside = item_in log (length f) (length f)
              (omega arith) a;
        })

-- ---- what a question knows of the tables after a file was read

pub record Standing (f : List ℕ) (o : Reading) (s : Summary) (t u : List ℕ) : Type 0 where
  pub h : Header
  pub ns : List Node
  pub is : List Item
  pub reads : o ≡ rows h ns is
  pub summed : s ≡ summary h ns is
  pub nodes-are : nodes_in s.nodes t ≡ ns
  pub items-are : items_in s.items u ≡ is
  pub node-room : s.nodes * node_width ≤ length t
  pub item_room : s.items * item_width ≤ length u
  pub sound : Accepted f ns is

padded-back_nodes : (size : ℕ) (ns : List Node) → nodes_in (length ns) (padded size (all_nodes ns)) ≡ ns
unfolding padded
padded-back_nodes size ns = nodes-back ns (replicate (size - length (all_nodes ns)) 0)

padded-back_items : (size : ℕ) (is : List Item) → items_in (length is) (padded size (all_items is)) ≡ is
unfolding padded
padded-back_items size is = items_back is (replicate (size - length (all_items is)) 0)

padded-length : (size : ℕ) (ws : List ℕ) → length ws ≤ length (padded size ws)
unfolding padded
padded-length size ws = rw length-append (omega arith)

module _ (f : List ℕ) (lim : Limits) (nsize isize : ℕ) {s : Summary} where
  stand : (o : Reading) → read_file lim f ≡ o → good s ≡ read_of o → {t u : List ℕ} → t ≡ node_table nsize o → u ≡ item_table isize o → Standing f o s t u
  unfolding read_of node_table item_table
  stand (rows h ns is) k e {t} {u} a b =
      let z : s ≡ summary h ns is = cc in
      let cn : s.nodes ≡ length ns = ap (λ (x : Summary). x.nodes) z in
      let ci : s.items ≡ length is = ap (λ (x : Summary). x.items) z in
      let ln = nodes-length ns in let li = items-length is in
      record {
        h = h;
        ns = ns;
        is = is;
        reads = refl;
        summed = z;
        nodes-are = ap₂ nodes_in cn a ∙ padded-back_nodes nsize ns;
        items-are = ap₂ items_in ci b ∙ padded-back_items isize is;
        node-room = rw a (omega (arith, padded-length nsize (all_nodes ns)));
        item_room = rw b (omega (arith, padded-length isize (all_items is)));
        sound = accepted lim f k;
      }
  stand (refusal n p) k e a b = let z : ◌≡◌ {A = ℕ} 0 1 = cc in absurd (omega arith)

  pub standing : {r : std.Result Summary Refusal} → told r ≡ read_of (read_file lim f) → {t u : List ℕ} → t ≡ node_table nsize (read_file lim f) → u ≡ item_table isize (read_file lim f) → r ≡ Ok s
      → Standing f (read_file lim f) s t u
  standing e a b h = stand (read_file lim f) refl (ap told (sym h) ∙ e) a b

-- ---- a question that the reader refuses

refusal_is : (o : Reading) {n p : ℕ} → bad n p ≡ read_of o → o ≡ refusal n p
unfolding read_of
refusal_is (rows h ns is) e = let z : ◌≡◌ {A = ℕ} 0 1 = cc in absurd (omega arith)
refusal_is (refusal m q) {n} {p} e = let a : n ≡ m = cc in let b : p ≡ q = cc in rw (a, b)

-- the file reads as that refusal
pub reads-refused : (o : Reading) {r : std.Result Summary Refusal} → told r ≡ read_of o → {x : Refusal} → r ≡ Err x → o ≡ refusal (number_of x.0) x.1
reads-refused o e k = refusal_is o (ap told (sym k) ∙ e)

-- the answer is the refusal, and the tables are zeros, as the reader left them
pub ask-refused : (o : Reading) {r : std.Result Summary Refusal} → told r ≡ read_of o → {x : Refusal} → r ≡ Err x → {A : Type 0}
    (question : Header → List Node → List Item → Result A) → ask o question ≡ bad (number_of x.0) x.1
unfolding ask
ask-refused o e k question = rw (reads-refused o e k)

module _ (o : Reading) {A : Type 0} (question : Header → List Node → List Item → Result A) {r : std.Result Summary Refusal} (e : told r ≡ read_of o) {x : Refusal}
    (k : r ≡ Err x) (size : ℕ) {t : List ℕ} where
  pub refused-nodes : t ≡ node_table size o → t ≡ kept_nodes size o (ask o question)
  unfolding node_table kept_nodes
  refused-nodes a = a ∙ rw (ask-refused o e k question, reads-refused o e k)

  pub refused-items : t ≡ item_table size o → t ≡ kept_items size o (ask o question)
  unfolding item_table kept_items
  refused-items a = a ∙ rw (ask-refused o e k question, reads-refused o e k)

-- ---- a question over an accepted file, whose answer is known

module _ {o : Reading} {h : Header} {ns : List Node} {is : List Item} (reads : o ≡ rows h ns is) {A : Type 0} (question : Header → List Node → List Item → Result A) where
  pub ask-is : ask o question ≡ question h ns is
  unfolding ask
  ask-is = rw reads

  module _ (size : ℕ) {t : List ℕ} where
    pub good-nodes : {a : A} → question h ns is ≡ good a → t ≡ node_table size o → t ≡ kept_nodes size o (ask o question)
    unfolding kept_nodes
    good-nodes e k = k ∙ rw (ask-is, e)

    pub good-items : {a : A} → question h ns is ≡ good a → t ≡ item_table size o → t ≡ kept_items size o (ask o question)
    unfolding kept_items
    good-items e k = k ∙ rw (ask-is, e)

    pub bad-nodes : {n p : ℕ} → question h ns is ≡ bad n p → t ≡ replicate size 0 → t ≡ kept_nodes size o (ask o question)
    unfolding kept_nodes
    bad-nodes e k = k ∙ rw (ask-is, e)

    pub bad-items : {n p : ℕ} → question h ns is ≡ bad n p → t ≡ replicate size 0 → t ≡ kept_items size o (ask o question)
    unfolding kept_items
    bad-items e k = k ∙ rw (ask-is, e)
