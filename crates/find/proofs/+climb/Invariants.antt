-- `climb` gives what `nearest` gives: one look, and then the same on the parent's row. The measure is the row, since the parent's is smaller.
-- Assumes nothing.
use Rattle.find.proofs.+climb.Given as goal

abbrev pub decreases-climb : goal.decreases-climb
decreases-climb l = l.k
