-- `read_word` reads the first word.
-- Assumes nothing.
use mathlib.Core.Bool.{true, false}
use Rattle.editions.proofs.First.{word-here, word-none}
use Rattle.editions.proofs.read_word.Goals as goal

pub returns-then-starts_with : goal.returns-then-starts_with
returns-then-starts_with c = word-here c.args.line.now false c.starts_with.ensures.value c.if-starts_with.true

pub returns-then-starts_with-2 : goal.returns-then-starts_with-2
returns-then-starts_with-2 c = word-here c.args.line.now true c.starts_with-2.ensures.value c.if-starts_with-2.true

pub returns : goal.returns
returns c = word-none c.args.line.now c.starts_with.ensures.value c.starts_with-2.ensures.value c.if-starts_with.false c.if-starts_with-2.false
