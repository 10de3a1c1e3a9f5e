-- The two lent tables: how many rows there may be, and what a run leaves in the tables.
-- Assumes nothing.
use Rattle.std.specs.Prelude.{List, ℕ, ◌+◌, ◌*◌, ◌/◌, min}
use Rattle.std.proofs.lemmas.List.Edits.{sets}
use Rattle.cursor.specs.Rows.{Part, node_row, item_row, plain}
use Rattle.rows.specs.Rows.{node_width, item_width, node_words, item_words}
use Rattle.metadata.specs.declared.Limits.{Limits}
use Rattle.metadata.specs.declared.Made.{Made}

-- ---- how many

abbrev pub most_nodes : ℕ
most_nodes = 256

abbrev pub most_items : ℕ
most_items = 1024

-- the words of tables with room for as many rows as there may be
abbrev pub full_nodes : ℕ
full_nodes = most_nodes * node_width

abbrev pub full_items : ℕ
full_items = most_items * item_width

-- how many rows tables of `nodes` and `items` words hold
abbrev pub limits : ℕ → ℕ → Limits
limits nodes items = record { nodes = min most_nodes (nodes / node_width); items = min most_items (items / item_width) }

abbrev pub plus_node : Made → Made
plus_node m = record { nodes = m.nodes + 1; items = m.items }

abbrev pub plus_item : Made → Made
plus_item m = record { nodes = m.nodes; items = m.items + 1 }

-- ---- the tables as a state: the rows made so far stand in them, and a row goes behind those

pub record State : Type 0 where
  pub nodes : List ℕ
  pub items : List ℕ
  pub made : Made

abbrev pub state : List ℕ → List ℕ → Made → State
state t u m = record { nodes = t; items = u; made = m }

abbrev pub put : Part → ℕ → ℕ → State → State
put (node_row r) p n σ = record { nodes = sets σ.nodes (σ.made.nodes * node_width) (node_words r); items = σ.items; made = plus_node σ.made }
put (item_row r) p n σ = record { nodes = σ.nodes; items = sets σ.items (σ.made.items * item_width) (item_words r); made = plus_item σ.made }
put (plain x) p n σ = σ
