-- `is_kind` tells the kind of a known line by its first letter.
-- Assumes nothing.
use Rattle.editions.proofs.Fields.{item-letter, node-letter}
use Rattle.mover.proofs.is_kind.Goals as goal

pub returns-then-items : goal.returns-then-items
returns-then-items c = item-letter c.args.line.now c.letter-b.ensures c.requires c.if-items.true

pub returns : goal.returns
returns c = node-letter c.args.line.now c.letter-b.ensures c.requires c.if-items.false
