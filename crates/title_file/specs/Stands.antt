-- A file that was read, and its rows in the tables.
-- Assumes nothing.
use Rattle.std.specs.Prelude.{◌≡◌, List, ℕ, ◌*◌, ◌≤◌, length}
use Rattle.header.specs.Header.{Header}
use Rattle.rows.specs.Rows.{node_width, item_width, nodes_in, items_in}
use Rattle.metadata.specs.Tables.{most_nodes}
use Rattle.metadata.specs.declared.Limits.{Limits}
use Rattle.file.specs.Reading.{rows, read_file}

pub record Stands (f nodes items : List ℕ) (count total : ℕ) : Type 0 where
  pub limits : Limits
  pub header : Header
  pub reads : read_file limits f ≡ rows header (nodes_in count nodes) (items_in total items)
  pub few : limits.nodes ≤ most_nodes
  pub node-room : count * node_width ≤ length nodes
  pub item_room : total * item_width ≤ length items
