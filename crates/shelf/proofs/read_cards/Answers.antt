-- `read_cards` reads the cards one by one.
-- Assumes nothing.
use native.Mathlib.Omega.{arith}
use Rattle.shelf.specs.Words.{cards_of}
use Rattle.shelf.proofs.Words.{count}
use Rattle.shelf.proofs.Rows.{read_more}
use Rattle.shelf.proofs.read_cards.Goals as goal

pub loop-i-preserved : goal.loop-i-preserved
loop-i-preserved c = read_more (cards_of c.args.words.now) _ c.loop-i.i (omega (arith, count c.args.words.now)) (omega (arith, c.requires)) c.card_at.ensures c.loop-i.invariant
