-- `put_refusal` puts the line of a refusal.
-- Assumes nothing.
use Rattle.room.proofs.Counting.{counts-then, counts-as}
use Rattle.shelf_file.proofs.Bytes.{refusal_is}
use Rattle.shelf_file.proofs.put_refusal.Goals as goal

pub returns : goal.returns
returns c = counts-as (refusal_is _ _)
    (counts-then (counts-then (counts-then (counts-then c.put_bytes-a.ensures c.put_decimal-b.ensures) c.put_byte-c.ensures)
    c.put_decimal-d.ensures) c.put_byte.ensures)
