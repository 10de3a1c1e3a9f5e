-- Questions over a file that was read: the reader's refusal comes first, then the question's own; on either, every lent table is zero.
-- Assumes nothing.
use Rattle.std.specs.Prelude.{List, ℕ, length, replicate}
use Rattle.cursor.specs.declared.Node.{Node}
use Rattle.cursor.specs.declared.Item.{Item}
use Rattle.machine.specs.Machine.{ok}
use Rattle.header.specs.Header.{Header}
use Rattle.metadata.specs.Tables.{limits}
use Rattle.metadata.specs.declared.Limits.{Limits}
pub use Rattle.file.specs.Reading.{Result, good, bad}
use Rattle.file.specs.Reading.{Reading, rows, refusal, read_tree, read_file, node_table, item_table}

-- what a question answers, of what a file reads as
unfoldable pub ask : {A : Type 0} → Reading → (Header → List Node → List Item → Result A) → Result A
ask (rows h ns is) question = question h ns is
ask (refusal n p) question = bad n p

-- the tables that are left: the file's rows, or zeros
unfoldable pub kept_nodes : {A : Type 0} → ℕ → Reading → Result A → List ℕ
kept_nodes size o (good a) = node_table size o
kept_nodes size o (bad n p) = replicate size 0

unfoldable pub kept_items : {A : Type 0} → ℕ → Reading → Result A → List ℕ
kept_items size o (good a) = item_table size o
kept_items size o (bad n p) = replicate size 0

-- those of a file that was written: its rows, or zeros
unfoldable pub written_nodes : ℕ → Limits → Result (List ℕ) → List ℕ
written_nodes size lim (good g) = node_table size (read_file lim g)
written_nodes size lim (bad n p) = replicate size 0

unfoldable pub written_items : ℕ → Limits → Result (List ℕ) → List ℕ
written_items size lim (good g) = item_table size (read_file lim g)
written_items size lim (bad n p) = replicate size 0

-- ---- what a call answers and leaves, of the two tables and the file that are lent to it: each is one line of its contract

-- a question: what is asked of a file's bytes, its header and its rows
abbrev pub Asks : Type 0 → Type 0
Asks A = List ℕ → Header → List Node → List Item → Result A

-- what the file reads as, with these tables
abbrev pub reads : (nodes items file : List ℕ) → Reading
reads nodes items file = read_file (limits (length nodes) (length items)) file

-- what it reads as behind a header h, whatever stands in the header's own bytes
abbrev pub reads_behind : (nodes items file : List ℕ) → Header → Reading
reads_behind nodes items file h = read_tree (limits (length nodes) (length items)) file (ok h h.extent.end)

-- the tables after it was read
abbrev pub nodes_read : (nodes items file : List ℕ) → List ℕ
nodes_read nodes items file = node_table (length nodes) (reads nodes items file)

abbrev pub items_read : (nodes items file : List ℕ) → List ℕ
items_read nodes items file = item_table (length items) (reads nodes items file)

abbrev pub nodes_behind : (nodes items file : List ℕ) → Header → List ℕ
nodes_behind nodes items file h = node_table (length nodes) (reads_behind nodes items file h)

abbrev pub items_behind : (nodes items file : List ℕ) → Header → List ℕ
items_behind nodes items file h = item_table (length items) (reads_behind nodes items file h)

-- a question's answer, and the tables after it
abbrev pub answered : {A : Type 0} → (nodes items file : List ℕ) → Asks A → Result A
answered nodes items file question = ask (reads nodes items file) (question file)

abbrev pub nodes_left : {A : Type 0} → (nodes items file : List ℕ) → Asks A → List ℕ
nodes_left nodes items file question = kept_nodes (length nodes) (reads nodes items file) (answered nodes items file question)

abbrev pub items_left : {A : Type 0} → (nodes items file : List ℕ) → Asks A → List ℕ
items_left nodes items file question = kept_items (length items) (reads nodes items file) (answered nodes items file question)

-- the tables after a call that writes a file
abbrev pub nodes_written : (nodes items : List ℕ) → (written : Result (List ℕ)) → List ℕ
nodes_written nodes items written = written_nodes (length nodes) (limits (length nodes) (length items)) written

abbrev pub items_written : (nodes items : List ℕ) → (written : Result (List ℕ)) → List ℕ
items_written nodes items written = written_items (length items) (limits (length nodes) (length items)) written

-- the first question: version, number of node rows, number of item rows
pub record Counts : Type 0 where
  pub version : ℕ
  pub nodes : ℕ
  pub items : ℕ

unfoldable pub counts : Asks Counts
counts f h ns is = good (record { version = h.version; nodes = length ns; items = length is })
