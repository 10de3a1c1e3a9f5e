-- `kinds_of` sums over all rows.
-- Assumes nothing.
use Rattle.account.proofs.Ways.{in_turn}
use Rattle.account.proofs.kinds_of.Goals as goal

pub together-requires : goal.together-requires
together-requires c = rw (c.in_items-data.ensures, c.in_nodes-own.ensures) c.requires.2

pub returns : goal.returns
returns c = in_turn _ _ _ _ c.in_nodes-own.ensures c.in_items-data.ensures c.together.ensures
