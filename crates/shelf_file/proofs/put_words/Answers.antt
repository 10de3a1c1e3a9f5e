-- `put_words` puts the words one by one.
-- Assumes nothing.
use mathlib.Core.Path.{refl}
use native.Mathlib.Omega.{arith}
use Rattle.room.proofs.Counting.{going_start, going_on, going_end}
use Rattle.shelf_file.proofs.Bytes.{eights-next, eights-none}
use Rattle.shelf_file.proofs.put_words.Goals as goal

pub loop-word-init : goal.loop-word-init
loop-word-init c = going_start _ (omega arith) refl

pub loop-word-preserved : goal.loop-word-preserved
loop-word-preserved c = going_on (eights-next _ _ c.loop-word-test.true) c.loop-word.invariant c.put_eight-next.ensures

pub returns : goal.returns
returns c = going_end (eights-none _ _ c.loop-word-test.false) c.loop-word.invariant
