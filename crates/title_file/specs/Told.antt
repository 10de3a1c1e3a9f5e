-- The file with its tree anew, and what its writers leave in the buffer.
-- Assumes nothing.
use Rattle.std.specs.Prelude.{◌≡◌, List, ℕ, ◌+◌, ◌-◌, ◌≤◌, ◌<◌, length, take, drop}
use Rattle.machine.specs.Machine.{run}
use Rattle.room.specs.Parts.{part}
use Rattle.vlq.specs.Vlq.{sized}
use Rattle.header.specs.Header.{Header}
use Rattle.header.specs.declared.Extent.{Extent}
use Rattle.metadata.specs.declared.Limits.{Limits}
use Rattle.room.specs.Counts.{Counts}
use Rattle.rows.specs.Rows.{nodes_in, items_in}
use Rattle.file.specs.Reading.{rows, read_file}
use Rattle.title_text.specs.Description.{answer, table_text}
use Rattle.title_text.specs.Text.{file_of}
use Rattle.title_text.specs.Title.{titled_file}
use Rattle.title_nodes.specs.Passes.{size_stop, Task, tree_text}

-- bytes are put from the buffer's first byte on; of those of a file that is too large only that is said
pub record Fills (out out' bytes : List ℕ) (r : ℕ) : Type 0 where
  pub small : length bytes < size_stop → Counts out out' 0 bytes r
  pub large : size_stop ≤ length bytes → size_stop ≤ r

-- the file of a task, whose header's FileLength begins at `opening`, with the tree anew
abbrev pub file_anew : Task → (opening : ℕ) → Extent → List ℕ
file_anew x opening e =
    let f = x.file in
    file_of (take opening f) (sized (answer (run (table_text f) f opening))) (part f e.end.0 (e.start.0 - e.end.0)) (tree_text x) (drop (e.last.0 + 1) f)

-- a file that reads as the task's rows is put with that title
abbrev pub PutTitled : Task → (out out' : List ℕ) → ℕ → Type 0
PutTitled x out out' r =
    (lim : Limits) (h : Header) → read_file lim x.file ≡ rows h (nodes_in x.count x.nodes) (items_in x.total x.items)
    → Fills out out' (titled_file x.row x.title x.file h (nodes_in x.count x.nodes) (items_in x.total x.items)) r
