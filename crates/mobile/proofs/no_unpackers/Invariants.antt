-- `no_unpackers` says what `no_unpackers` says. The invariant: what is left of the rows decides.
-- Assumes nothing.
use mathlib.Core.Path.{◌≡◌}
use Prim.Native.Nat.{◌≤◌}
use lib.ListN.{drop}
use Rattle.rows.specs.Rows.{nodes_in}
use Rattle.mobile.specs.Mobile.{all, is_unpacked, no_unpackers}
use Rattle.mobile.proofs.no_unpackers.Given as goal

abbrev pub invariant-loop-i : goal.invariant-loop-i
invariant-loop-i l = (l.i ≤ l.many) × (no_unpackers (nodes_in l.many l.nodes) ≡ all is_unpacked (drop l.i (nodes_in l.many l.nodes)))
