-- `words_in` reads the words one by one.
-- Assumes nothing.
use native.Mathlib.Omega.{arith}
use Rattle.shelf_file.proofs.Bytes.{words-all}
use Rattle.shelf_file.proofs.words_in.Goals as goal

pub returns : goal.returns
returns c = words-all c.args.file.now c.loop-i.words c.loop-i.invariant.0 (λ k l. c.loop-i.invariant.1 k (omega arith))
