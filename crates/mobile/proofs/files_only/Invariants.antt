-- `files_only` says what `files_only` says. The invariant: what is left of the rows decides.
-- Assumes nothing.
use mathlib.Core.Path.{◌≡◌}
use Prim.Native.Nat.{◌≤◌}
use lib.ListN.{drop}
use Rattle.rows.specs.Rows.{nodes_in}
use Rattle.mobile.specs.Mobile.{all, is_file, files_only}
use Rattle.mobile.proofs.files_only.Given as goal

abbrev pub invariant-loop-i : goal.invariant-loop-i
invariant-loop-i l = (1 ≤ l.i) × (files_only (nodes_in l.many l.nodes) ≡ all is_file (drop l.i (nodes_in l.many l.nodes)))
