-- `besides` gives what `besides` gives by definition.
-- Assumes nothing.
use Rattle.mobile.specs.Pass.{besides}
use Rattle.mobile.proofs.besides.Goals as goal

pub returns-in-None : goal.returns-in-None
unfolding besides
returns-in-None c = rw c.in-None.is

pub returns-in-One : goal.returns-in-One
unfolding besides
returns-in-One c = rw c.in-One.is

pub returns-in-More : goal.returns-in-More
unfolding besides
returns-in-More c = rw c.in-More.is
