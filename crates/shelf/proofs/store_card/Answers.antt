-- `store_card` stores the four words of a card.
-- Assumes nothing.
use mathlib.Core.Path.{◌∙◌}
use native.Mathlib.Omega.{arith}
use Rattle.shelf.proofs.Words.{count, stored}
use Rattle.shelf.proofs.store_card.Goals as goal

pub returns : goal.returns
returns c = c.store.ensures ∙ stored c.args.words.now c.args.i c.args.c (omega (arith, count c.args.words.now))
