-- `plain_references` says what `plain_references` says. The invariant: what is left of the rows decides.
-- Assumes nothing.
use mathlib.Core.Path.{◌≡◌}
use Prim.Native.Nat.{◌≤◌}
use lib.ListN.{drop}
use Rattle.rows.specs.Rows.{nodes_in}
use Rattle.mobile.specs.Mobile.{all, is_plain, plain_references}
use Rattle.mobile.proofs.plain_references.Given as goal

abbrev pub invariant-loop-i : goal.invariant-loop-i
invariant-loop-i l = (l.i ≤ l.many) × (plain_references (nodes_in l.many l.nodes) ≡ all is_plain (drop l.i (nodes_in l.many l.nodes)))
