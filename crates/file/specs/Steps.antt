-- What a reading does, step by step: every byte that it reads and everything that it passes over, in its order, up to its end or its refusal.
-- Assumes nothing.
use Rattle.std.specs.Prelude.{cond, ◌&&◌, List, [], ◌++◌, ℕ, zero, suc, ◌+◌, ltb, length}
use Rattle.machine.specs.Machine.{Out, ok, refused, run, trace}
use Rattle.cursor.specs.Rows.{P, Events}
use Rattle.cursor.specs.declared.Node.{Node}
use Rattle.header.specs.Header.{Header, header}
use Rattle.metadata.specs.declared.Limits.{Limits}
use Rattle.metadata.specs.declared.Made.{Made}
use Rattle.tree.specs.Tree.{tree}
use Rattle.rows.specs.Rows.{node_at, nodes_of}
use Rattle.file.specs.Reading.{Result, good, bad, context, logged, detached_at, follow_row}
use Rattle.targets.specs.Targets.{offset_at, is_missing, outside}

-- those of a row: the node that it leads to is read now, if it has no row and lies outside header and tree
unfoldable pub reach_steps : Limits → List ℕ → Header → Events → Node → Events
reach_steps lim f h log r =
    cond (is_missing (nodes_of log) r && outside h (length f) r.target) (trace (detached_at lim h (length f) log r.target (offset_at f r)) f r.target) []

-- those of the rows from row i on
unfoldable pub follow_steps : ℕ → Limits → List ℕ → Header → ℕ → Result Events → Events
follow_steps zero lim f h i o = []
follow_steps (suc k) lim f h i (bad n p) = []
follow_steps (suc k) lim f h i (good log) =
    cond (ltb i (length (nodes_of log))) (reach_steps lim f h log (node_at (nodes_of log) i) ++ follow_steps k lim f h (i + 1) (follow_row lim f h log (node_at (nodes_of log) i))) []

-- those of the tree, and of what is referred to from there
unfoldable pub tree_steps : Limits → List ℕ → Out Header → Events
tree_steps lim f (ok h p) =
    let m : P Made = tree (context lim h (length f)) (h.extent.last + 1) in
    trace m f h.extent.start ++ follow_steps lim.nodes lim f h 0 (logged [] (run m f h.extent.start) (trace m f h.extent.start))
tree_steps lim f (refused n p) = []

-- those of the file
unfoldable pub steps : Limits → List ℕ → Events
steps lim f = trace (header (length f)) f 0 ++ tree_steps lim f (run (header (length f)) f 0)
