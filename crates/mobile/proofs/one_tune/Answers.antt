-- `one_tune` says what `one_tune_of` says.
-- Assumes nothing.
use Rattle.mobile.proofs.Checks.{tunes_none, tunes_more, tune_alone, tune_after, tune_beside}
use Rattle.mobile.proofs.one_tune.Goals as goal

pub returns-in-None-instruments : goal.returns-in-None-instruments
returns-in-None-instruments c = tune_alone _ _ c.in-One.is c.in-None-instruments.is

pub returns-in-One-instruments : goal.returns-in-One-instruments
returns-in-One-instruments c = tune_after _ _ c.in-One.is c.in-One-instruments.is

pub returns-in-More-instruments : goal.returns-in-More-instruments
returns-in-More-instruments c = tune_beside _ _ c.in-One.is c.in-More-instruments.is

pub returns-in-None : goal.returns-in-None
returns-in-None c = tunes_none _ _ c.in-None.is

pub returns-in-More : goal.returns-in-More
returns-in-More c = tunes_more _ _ c.in-More.is
