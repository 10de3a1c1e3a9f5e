-- `tune_needs` says what `tune_needs_of` says.
-- Assumes nothing.
use Rattle.mobile.proofs.Checks.{needs-of_none, needs-of_more, needs-of_one}
use Rattle.mobile.proofs.tune_needs.Goals as goal

pub returns-in-One : goal.returns-in-One
returns-in-One c = needs-of_one _ _ _ c.in-One.is c.are_needs.ensures

pub returns-in-None : goal.returns-in-None
returns-in-None c = needs-of_none _ _ _ c.in-None.is

pub returns-in-More : goal.returns-in-More
returns-in-More c = needs-of_more _ _ _ c.in-More.is
