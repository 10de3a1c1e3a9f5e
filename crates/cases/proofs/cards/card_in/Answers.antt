-- `card_in` meets its contract.
-- Assumes nothing.
use native.Mathlib.Omega.{arith}
use Rattle.shelf.specs.Words.{cards_of}
use Rattle.shelf.proofs.Words.{count, card_at}
use Rattle.cases.proofs.Row.{past}
use Rattle.cases.proofs.cards.card_in.Goals as goal

pub returns-then-i-words : goal.returns-then-i-words
returns-then-i-words c = card_at c.args.words.now c.args.i (omega (arith, count c.args.words.now, c.if-i-words.true))

pub returns : goal.returns
returns c = past (cards_of c.args.words.now) c.args.i (omega (arith, count c.args.words.now, c.if-i-words.false))
