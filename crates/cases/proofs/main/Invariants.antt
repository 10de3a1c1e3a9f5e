-- What is kept stands in the text, whose length stays.
-- Assumes nothing.
use Rattle.std.proofs.Common.{◌≡◌, ◌≤◌, length}
use Rattle.cases.proofs.main.Given as goal

abbrev pub invariant-loop : goal.invariant-loop
invariant-loop l = (262144 ≡ length l.text) × (l.kept ≤ length l.text)
