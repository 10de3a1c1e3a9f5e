-- A digit more, and the word's end.
-- Assumes nothing.
use Rattle.std.proofs.Common.{arith, length, ◌<◌}
use Rattle.std.proofs.lemmas.Bool.Decides.{nat_tests}
use Rattle.spelling.proofs.Laws.{read-more, read_all}
use Rattle.spelling.proofs.decimal.Goals as goal

pub loop-b-preserved : goal.loop-b-preserved
loop-b-preserved c = (
  read-more c.args.word.now c.loop-b.value c.loop-b.b-index c.loop-b.invariant.0 c.saturating_add-value.result (omega arith) (omega arith) (omega arith) (omega arith),
  omega arith,
)

pub returns : goal.returns
returns c =
    let some : 0 < length c.args.word.now = grind (arith, nat_tests) in
    read_all c.args.word.now c.loop-b.value c.loop-b.b-index c.loop-b.invariant.0 some (omega arith) c.loop-b.invariant.1
