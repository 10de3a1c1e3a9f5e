-- `put_line` puts a line.
-- Assumes nothing.
use Rattle.editions.proofs.Judging.{lent}
use Rattle.mover.proofs.Writing.{put_one}
use Rattle.mover.proofs.put_line.Goals as goal

pub returns : goal.returns
returns c = put_one (lent c.args.sheet.now _ _ c.requires.0 c.requires.1) c.put_part-next.ensures c.put_byte.ensures
