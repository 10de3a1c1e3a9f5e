-- `put_frame` puts the line of a frame.
-- Assumes nothing.
use Rattle.room.proofs.Counting.{counts-then, counts-as}
use Rattle.frames.proofs.Tagging.{frame_is}
use Rattle.frames.proofs.put_frame.Goals as goal

pub returns : goal.returns
returns c = counts-as (frame_is _ _ c.name_bytes-name.ensures)
    (counts-then (counts-then (counts-then
    (counts-then (counts-then (counts-then c.put_byte-a.ensures c.put_number-b.ensures) c.put_byte-c.ensures) c.put_escaped-d.ensures)
    c.put_number-e.ensures) c.put_number-f.ensures) c.put_byte.ensures)
