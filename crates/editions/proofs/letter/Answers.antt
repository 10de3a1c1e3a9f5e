-- `letter` gives a letter that has a tab behind it.
-- Assumes nothing.
use mathlib.Core.Path.{refl}
use Rattle.editions.proofs.Fields.{letter-few, letter-apart, letter-is}
use Rattle.editions.proofs.letter.Goals as goal

pub returns-then-line-at-lt2 : goal.returns-then-line-at-lt2
returns-then-line-at-lt2 c = letter-few c.args.line.now _ c.requires c.if-line-at-lt2.true

pub returns-then-line-at-ne9 : goal.returns-then-line-at-ne9
returns-then-line-at-ne9 c = letter-apart c.args.line.now _ c.requires c.if-line-at-ne9.true

pub returns : goal.returns
returns c = letter-is c.args.line.now _ c.requires c.if-line-at-lt2.false c.if-line-at-ne9.false refl
