-- The laws by which a function that fills the item table is shown to give what its program gives.
-- Assumes nothing.
use Rattle.std.proofs.lemmas.Bool.Decides.{nat_tests}
use Rattle.machine.proofs.Laws.{executing}
use Rattle.cursor.proofs.Quiet.{exec-number, exec-block}
use Rattle.metadata.proofs.Quiet.{exec-frame}

pub ruleset filling = (executing, nat_tests, exec-number, exec-block, exec-frame)
