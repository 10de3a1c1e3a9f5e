-- `further` counts. The invariant: the rows passed are further versions.
-- Assumes nothing.
use Rattle.title_items.proofs.Putting.{Counting}
use Rattle.title_items.proofs.further.Given as goal

abbrev pub invariant-loop-k : goal.invariant-loop-k
invariant-loop-k l = Counting l.items l.first l.end l.k
