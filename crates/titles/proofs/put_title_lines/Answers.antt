-- `put_title_lines` puts the lines of all contents that can be corrected. The invariant: of the whole, the lines from row i on are still to be put.
-- Assumes nothing.
use mathlib.Core.Path.{sym}
use native.Mathlib.Omega.{arith}
use Rattle.room.proofs.Counting.{going_start, going_on, going_end}
use Rattle.lines.proofs.Reading.{lines-on, lines_end}
use Rattle.titles.proofs.Retitling.{titles-lined, titles-start}
use Rattle.titles.proofs.put_title_lines.Goals as goal

pub loop-i-init : goal.loop-i-init
loop-i-init c = going_start _ (omega arith) (sym (titles-start _ _ _))

pub put_title_line-next-requires : goal.put_title_line-next-requires
put_title_line-next-requires c = (omega (arith, c.requires.0), c.requires.1 _ c.loop-i-test.true)

pub loop-i-preserved : goal.loop-i-preserved
loop-i-preserved c = going_on (lines-on (titles-lined _) _ _ _ _ _ c.loop-i-test.true) c.loop-i.invariant c.put_title_line-next.ensures

pub returns : goal.returns
returns c = going_end (lines_end (titles-lined _) _ _ _ _ _ c.loop-i-test.false) c.loop-i.invariant
