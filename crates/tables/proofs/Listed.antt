-- The lines of the rows, as the code comes to them.
-- Assumes nothing.
use mathlib.Core.Path.{◌≡◌, refl}
use mathlib.Core.List.{List, [], ◌∷◌, ◌++◌}
use Prim.Native.Nat.{ℕ, ◌-◌}
use native.Mathlib.Omega.{arith}
use Rattle.cursor.specs.declared.Node.{Node}
use Rattle.cursor.specs.declared.Item.{Item}
use Rattle.metadata.specs.Tables.{full_nodes, full_items, limits}
use Rattle.rows.specs.Rows.{node_width, item_width, node_from, nodes_in, item_from, items_in, rows_from}
use Rattle.file.specs.Reading.{read_file}
use Rattle.file.specs.declared.Summary.{Summary}
use Rattle.file.proofs.Rows.{Standing}
use Rattle.text.specs.Text.{number}
use Rattle.lines.specs.Answer.{plainly, fitted}
use Rattle.tables.specs.Rows.{node_numbers, item_numbers, node_row, item_row, node_rows, item_rows, all_rows, rows_answer}
use Rattle.lines.proofs.Ending.{printed-good}
use Rattle.lines.proofs.Reading.{Lined, known}

-- ---- lines, as the bytes that are put one after the other

pub node-numbers_are : (r : Node) → number r.start ++ number r.size ++ number r.header ++ number r.contained ++ number
    r.parent ++ number r.depth ++ number r.reference
    ++ number r.target ++ number r.extent ++ number r.unpackers ++ number r.unpacker_count ++ number r.rows ++ number r.detached ≡ node_numbers r
unfolding node_numbers
node-numbers_are r = refl

pub item-numbers_are : (r : Item) → number r.node ++ number r.item ++ number r.kind ++ number r.field ++ number r.name_length
    ++ number r.version ++ number r.declared
    ++ number r.format ++ number r.place ++ number r.size ≡ item_numbers r
unfolding item_numbers
item-numbers_are r = refl

pub node-row_is : (k : ℕ) (r : Node) → (0x6E ∷ []) ++ number k ++ node_numbers r ++ (0x0A ∷ []) ≡ node_row k r
unfolding node_row
node-row_is k r = refl

pub item-row_is : (letter k : ℕ) (r : Item) → (letter ∷ []) ++ number k ++ item_numbers r ++ (0x0A ∷ []) ≡ item_row letter k r
unfolding item_row
item-row_is letter k r = refl

-- ---- the lines of rows that stand in a table, one row after the other

pub nodes-lined : Lined node_row node_rows
unfolding node_rows
nodes-lined = record { none = λ k. refl; next = λ k r rs. refl }

pub items-lined : Lined (item_row 0x69) item_rows
unfolding item_rows
items-lined = record { none = λ k. refl; next = λ k r rs. refl }

pub nodes-start : (ws : List ℕ) (count : ℕ) → node_rows 0 (nodes_in count ws) ≡ node_rows 0 (rows_from node_width node_from 0 (count - 0) ws)
unfolding nodes_in
nodes-start ws count = let e : count - 0 ≡ count = omega arith in rw e

pub items-start : (ws : List ℕ) (count : ℕ) → item_rows 0 (items_in count ws) ≡ item_rows 0 (rows_from item_width item_from 0 (count - 0) ws)
unfolding items_in
items-start ws count = let e : count - 0 ≡ count = omega arith in rw e

-- ---- with full tables

module _ (f : List ℕ) {n i : ℕ} (en : full_nodes ≡ n) (ei : full_items ≡ i) where
  module _ (room : ℕ) where
    pub rows-good : {s : Summary} {t u : List ℕ} → Standing f (read_file (limits n i) f) s t u → fitted room []
        (plainly (node_rows 0 (nodes_in s.nodes t) ++ item_rows 0 (items_in s.items u))) ≡ rows_answer room f
    unfolding rows_answer all_rows
    rows-good st = rw (st.nodes-are, st.items-are) (printed-good plainly _ _ (known f en ei st (all_rows f)))
