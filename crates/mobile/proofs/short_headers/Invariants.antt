-- `short_headers` says what `all is_short` says. The invariant: what is left of the rows decides.
-- Assumes nothing.
use mathlib.Core.Path.{◌≡◌}
use Prim.Native.Nat.{◌≤◌}
use lib.ListN.{drop}
use Rattle.rows.specs.Rows.{nodes_in}
use Rattle.mobile.specs.Mobile.{all, is_short}
use Rattle.mobile.proofs.short_headers.Given as goal

abbrev pub invariant-loop-i : goal.invariant-loop-i
invariant-loop-i l = (l.i ≤ l.many) × (all is_short (nodes_in l.many l.nodes) ≡ all is_short (drop l.i (nodes_in l.many l.nodes)))
