-- `put_changes` puts what a correction changed.
-- Assumes nothing.
use Rattle.room.proofs.Counting.{counts-then, counts-as}
use Rattle.notes.proofs.Changes.{changes-are}
use Rattle.notes.proofs.put_changes.Goals as goal

pub returns : goal.returns
returns c = counts-as (changes-are _ _ _)
    (counts-then (counts-then (counts-then (counts-then (counts-then (counts-then c.put_bytes-a.ensures c.put_title-b.ensures) c.put_title-c.ensures)
    c.put_bytes-d.ensures) c.put_number-e.ensures) c.put_number-f.ensures) c.put_byte.ensures)
