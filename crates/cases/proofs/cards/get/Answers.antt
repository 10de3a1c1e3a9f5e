-- `get` meets its contract: the cards that are lent are those of the words.
-- Assumes nothing.
use Rattle.cases.proofs.Row.{front, given}
use Rattle.cases.proofs.cards.get.Goals as goal

pub returns : goal.returns
returns c = given _ _ (front c.args.words.now c.load_row-row.result c.count-n.result c.load_row-row.ensures.0 c.count-n.ensures c.load_row-row.ensures.1) _ _ _ c.get_row.ensures
