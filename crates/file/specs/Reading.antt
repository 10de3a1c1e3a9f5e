-- What reading a file gives: its header, its rows, and the tables that hold them; or a refusal.
-- Assumes nothing.
use Rattle.std.specs.Prelude.{List, [], ◌++◌, cond, ℕ, zero, suc, ◌+◌, ltb, length, replicate}
pub use Rattle.room.specs.Room.{Result, good, bad}
use Rattle.room.specs.Room.{padded}
use Rattle.machine.specs.Machine.{Out, ok, refused, run, trace}
use Rattle.cursor.specs.Rows.{P, Events}
use Rattle.cursor.specs.Refusals.{bad_target}
use Rattle.cursor.specs.declared.Node.{Node}
use Rattle.cursor.specs.declared.Item.{Item}
use Rattle.header.specs.Header.{Header, header}
use Rattle.rows.specs.Rows.{nodes_of, items_of, all_nodes, all_items, node_at, tree_rows}
use Rattle.metadata.specs.Metadata.{Context}
use Rattle.metadata.specs.declared.Limits.{Limits}
use Rattle.metadata.specs.declared.Made.{Made}
use Rattle.tree.specs.Tree.{tree, detached}
use Rattle.targets.specs.Targets.{offset_at, is_missing, outside, part_end, first_taken}
use Rattle.file.specs.declared.Summary.{Summary}
use Rattle.file.specs.declared.Tree.{Tree}

-- ---- what a file reads as

pub data Reading : Type 0 where
  rows : Header → List Node → List Item → Reading
  refusal : ℕ → ℕ → Reading

-- ---- the log: what was read and passed so far, part after part; the rows are taken off it

abbrev pub context : Limits → Header → ℕ → Context
context lim h size = record { limits = lim; types = h.types; header_end = h.extent.end; size = size }

abbrev pub made_by : Events → Made
made_by log = record { nodes = length (nodes_of log); items = length (items_of log) }

-- one more run, whose events go behind the log; or its refusal
unfoldable pub logged : Events → Out Made → Events → Result Events
logged log (ok m p) es = good (log ++ es)
logged log (refused n p) es = bad n p

-- ---- following references 3: the node that a row refers to, if it has no row so far, is read now

-- the node at p, to which the number at `offset` leads
unfoldable pub detached_at : Limits → Header → (size : ℕ) → Events → (p offset : ℕ) → P Made
detached_at lim h size log p offset = detached (context lim h size) (part_end h size p) (first_taken (nodes_of log) p (part_end h size p)) offset (made_by log)

unfoldable pub follow_row : Limits → List ℕ → Header → Events → Node → Result Events
follow_row lim f h log r =
    cond (is_missing (nodes_of log) r)
    (cond (outside h (length f) r.target)
    (logged log (run (detached_at lim h (length f) log r.target (offset_at f r)) f r.target) (trace (detached_at lim h (length f) log r.target (offset_at f r)) f r.target))
    (bad bad_target (offset_at f r)))
    (good log)

-- the rows from row i on, in row order, over the growing log; each turn takes a row, so as many turns as there may be rows are enough
unfoldable pub follow : ℕ → Limits → List ℕ → Header → ℕ → Result Events → Result Events
follow zero lim f h i o = o
follow (suc k) lim f h i (bad n p) = bad n p
follow (suc k) lim f h i (good log) = cond (ltb i (length (nodes_of log))) (follow k lim f h (i + 1) (follow_row lim f h log (node_at (nodes_of log) i))) (good log)

-- ---- header, tree and detached nodes, each a run on a part of the file of its own

unfoldable pub reading : Header → Result Events → Reading
reading h (good log) = rows h (nodes_of log) (items_of log)
reading h (bad n p) = refusal n p

-- the log of the tree, where the header says that it is, and of what is referred to from there
abbrev pub log_from : Limits → List ℕ → Header → Result Events
log_from lim f h =
    follow lim.nodes lim f h 0 (logged [] (run (tree (context lim h (length f)) (h.extent.last + 1)) f h.extent.start) (trace (tree (context lim h (length f)) (h.extent.last + 1)) f h.extent.start))

unfoldable pub read_tree : Limits → List ℕ → Out Header → Reading
read_tree lim f (ok h p) = reading h (log_from lim f h)
read_tree lim f (refused n p) = refusal n p

unfoldable pub read_file : Limits → List ℕ → Reading
read_file lim f = read_tree lim f (run (header (length f)) f 0)

-- ---- answers and tables

-- what is kept of an accepted file besides its rows
abbrev pub summary : Header → List Node → List Item → Summary
summary h ns is = record {
  version = h.version;
  edition = record { kind = h.edition.type; revision = h.edition.revision };
  header_end = record { 0 = h.extent.end };
  tree = tree_rows ns;
  nodes = length ns;
  items = length is;
}

unfoldable pub read_of : Reading → Result Summary
read_of (rows h ns is) = good (summary h ns is)
read_of (refusal n p) = bad n p

-- the first question: version, number of node rows, number of item rows; or the refusal
unfoldable pub answer_of : Reading → Result Tree
answer_of (rows h ns is) = good (record { version = h.version; nodes = length ns; items = length is })
answer_of (refusal n p) = bad n p

-- the rows as words, and then zeros to the table's end; on a refusal zeros
unfoldable pub node_table : ℕ → Reading → List ℕ
node_table size (rows h ns is) = padded size (all_nodes ns)
node_table size (refusal n p) = replicate size 0

unfoldable pub item_table : ℕ → Reading → List ℕ
item_table size (rows h ns is) = padded size (all_items is)
item_table size (refusal n p) = replicate size 0
