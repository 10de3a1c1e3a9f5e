-- `follow` gives what `chain` gives. The measure is what may still be followed.
-- Assumes nothing.
use Rattle.resolve.proofs.+follow.Given as goal

abbrev pub decreases-follow : goal.decreases-follow
decreases-follow l = l.left
