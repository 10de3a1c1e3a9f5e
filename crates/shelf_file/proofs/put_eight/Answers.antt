-- `put_eight` puts the eight bytes of a number.
-- Assumes nothing.
use Rattle.room.proofs.Counting.{counts-as}
use Rattle.shelf_file.proofs.put_eight.Goals as goal

pub returns : goal.returns
returns c = counts-as c.eight-bytes.ensures c.put_bytes.ensures
