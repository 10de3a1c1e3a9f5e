-- `read_items` reads items end to end. The invariant: what is left of them comes to what the whole comes to.
-- Assumes nothing.
use Prim.Native.Nat.{◌-◌}
use lib.ListN.{length}
use Rattle.metadata.specs.Told.{context_of, counts}
use Rattle.metadata.proofs.Ways.{Reading}
use Rattle.metadata.proofs.read_items.Given as goal

abbrev pub invariant-loop-next : goal.invariant-loop-next
invariant-loop-next l = Reading
    (context_of l.scope l.types (length l.file)) l.file l.initial.items l.node l.end.0 l.initial.next.at.0 (counts l.node l.initial.m) l.items l.next.at.0 l.index (counts l.node l.m)

abbrev pub decreases-loop-next : goal.decreases-loop-next
decreases-loop-next l = l.end.0 - l.next.at.0
