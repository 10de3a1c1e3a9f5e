-- `put_needs` puts the lines of all visible content descriptions. The invariant: of the whole, the rows from row i on are still to be put.
-- Assumes nothing.
use Prim.Native.Nat.{◌-◌}
use Rattle.rows.specs.Rows.{items_from, items_in}
use Rattle.needs.specs.Needed.{needs_from}
use Rattle.needs.proofs.Needing.{Needing}
use Rattle.needs.proofs.put_needs.Given as goal

abbrev pub invariant-loop-i : goal.invariant-loop-i
invariant-loop-i l = Needing l.initial.out l.out l.next (needs_from l.file 0 (items_in l.count l.items)) (needs_from l.file l.i (items_from l.i (l.count - l.i) l.items))
