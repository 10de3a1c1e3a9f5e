-- `children_of` gives what `children` gives. The invariant: what the nodes from row i on are, and where the own rows of node i begin.
-- Assumes nothing.
use mathlib.Core.Path.{◌≡◌}
use Prim.Native.Nat.{◌≤◌}
use lib.ListN.{drop}
use Rattle.rows.specs.Rows.{nodes_in, items_in}
use Rattle.file.specs.Own.{first_row}
use Rattle.mobile.specs.Pass.{children_from}
use Rattle.mobile.proofs.children_of.Given as goal

abbrev pub invariant-loop-i : goal.invariant-loop-i
invariant-loop-i l = (l.i ≤ l.n) × (1 ≤ l.n → 1 ≤ l.i) × (l.end ≡ first_row (nodes_in l.n l.nodes) l.i) ×
    (l.c ≡ children_from l.file (items_in l.m l.items) l.i (drop l.i (nodes_in l.n l.nodes)))

abbrev pub decreases-loop-i : goal.decreases-loop-i
decreases-loop-i l = l.i
