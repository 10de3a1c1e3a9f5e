-- The laws by which a reading function is shown to give what its program gives.
-- Assumes nothing.
use Rattle.std.proofs.lemmas.Bool.Decides.{nat_tests}
use Rattle.machine.proofs.Laws.{running}
use Rattle.header.proofs.Types.{types-length, declared}

pub ruleset reading = (running, nat_tests, types-length)

-- the same of one that declares a type
pub ruleset declaring = (reading, declared)
