-- `small_items` says what `all is_small` says. The invariant: what is left of the rows decides.
-- Assumes nothing.
use mathlib.Core.Path.{◌≡◌}
use Prim.Native.Nat.{◌≤◌}
use lib.ListN.{drop}
use Rattle.rows.specs.Rows.{items_in}
use Rattle.mobile.specs.Mobile.{all, is_small}
use Rattle.mobile.proofs.small_items.Given as goal

abbrev pub invariant-loop-i : goal.invariant-loop-i
invariant-loop-i l = (l.i ≤ l.many) × (all is_small (items_in l.many l.items) ≡ all is_small (drop l.i (items_in l.many l.items)))
