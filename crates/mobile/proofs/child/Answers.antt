-- `child` gives what `child` gives by definition.
-- Assumes nothing.
use Rattle.mobile.specs.Pass.{child}
use Rattle.mobile.proofs.child.Goals as goal

pub returns-in-Tune : goal.returns-in-Tune
unfolding child
returns-in-Tune c = rw (c.in-Tune.is, c.besides-tunes.ensures)

pub returns-in-Instruments : goal.returns-in-Instruments
unfolding child
returns-in-Instruments c = rw (c.in-Instruments.is, c.besides-instruments.ensures)

pub returns-in-Other : goal.returns-in-Other
unfolding child
returns-in-Other c = rw c.in-Other.is
