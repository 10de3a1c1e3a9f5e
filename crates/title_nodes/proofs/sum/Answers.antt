-- `sum` adds word by word. The invariant: the sum so far and the words that are left.
-- Assumes nothing.
use native.Mathlib.Omega.{arith}
use Rattle.title_nodes.proofs.Passes.{adding_start, adding_on, adding_end}
use Rattle.title_nodes.proofs.sum.Goals as goal

pub loop-word-init : goal.loop-word-init
loop-word-init c = adding_start _

pub loop-word-preserved : goal.loop-word-preserved
loop-word-preserved c = adding_on c.loop-word.invariant c.loop-word-test.true (omega (arith, c.on.ensures, c.stopped-r.ensures))

pub returns : goal.returns
returns c = adding_end c.loop-word.invariant c.loop-word-test.false
