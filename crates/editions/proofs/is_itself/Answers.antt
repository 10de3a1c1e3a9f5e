-- `is_itself` judges a byte.
-- Assumes nothing.
use Rattle.editions.proofs.Texts.{itself-plain, itself-two, itself-not}
use Rattle.editions.proofs.is_itself.Goals as goal

pub returns-then-is_plain : goal.returns-then-is_plain
returns-then-is_plain c = itself-plain _ c.is_plain.ensures _ c.if-is_plain.true

pub returns-then-two : goal.returns-then-two
returns-then-two c = itself-two _ c.is_plain.ensures c.if-is_plain.false c.if-two.true

pub returns : goal.returns
returns c = itself-not _ c.is_plain.ensures c.if-is_plain.false c.if-two.false
