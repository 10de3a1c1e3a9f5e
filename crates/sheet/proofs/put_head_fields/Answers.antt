-- `put_head_fields` puts the first line behind its word.
-- Assumes nothing.
use Rattle.room.proofs.Counting.{counts-then}
use Rattle.sheet.proofs.put_head_fields.Goals as goal

pub returns : goal.returns
returns c = let size = counts-then c.put_version-a.ensures c.put_number-b.ensures in
    let nodes = counts-then size c.put_number-c.ensures in
    counts-then (counts-then nodes c.put_number-d.ensures) c.put_byte.ensures
