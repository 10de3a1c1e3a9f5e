-- `card_at` reads a card: four words.
-- Assumes nothing.
use native.Mathlib.Omega.{arith}
use Rattle.shelf.proofs.Words.{count, card_at}
use Rattle.shelf.proofs.card_at.Goals as goal

pub returns : goal.returns
returns c = card_at c.args.words.now c.args.i (omega (arith, count c.args.words.now))
