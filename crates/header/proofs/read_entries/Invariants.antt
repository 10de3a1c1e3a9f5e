-- `read_entries` reads the entries one after the other. The invariant: what is left of them is the whole, and no more than 32 are made.
-- Assumes nothing.
use mathlib.Core.Path.{◌≡◌}
use lib.ListN.{length}
use Rattle.header.proofs.Ways.{Entries}
use Rattle.header.proofs.read_entries.Given as goal

abbrev pub invariant-loop-made : goal.invariant-loop-made
invariant-loop-made l = (length l.types ≡ length l.initial.types) × Entries l.file l.end.0 l.initial.next.at.0 l.count l.made l.types l.next.at.0
