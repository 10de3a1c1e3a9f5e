-- `format_of` finds the first declaration of a type. The invariant: what is left of the search is the whole.
-- Assumes nothing.
use Rattle.header.proofs.Types.{Searching}
use Rattle.header.proofs.format_of.Given as goal

abbrev pub invariant-loop-i : goal.invariant-loop-i
invariant-loop-i l = Searching l.types l.count l.of l.i
