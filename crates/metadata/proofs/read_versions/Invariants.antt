-- `read_versions` reads the versions one after the other. The invariant: what is left of them comes to what the whole comes to.
-- Assumes nothing.
use lib.ListN.{length}
use Rattle.metadata.specs.Told.{context_of, counts}
use Rattle.metadata.proofs.Ways.{Going}
use Rattle.metadata.proofs.read_versions.Given as goal

abbrev pub invariant-loop : goal.invariant-loop
invariant-loop l = Going (context_of l.scope l.types (length l.file)) l.l
    l.file l.initial.items l.end.0 l.initial.next.at.0 l.count (counts l.l.node l.rows) l.items l.next.at.0 l.counter (counts l.l.node l.m)
