-- `put_place` puts the line of a resource.
-- Assumes nothing.
use Rattle.room.proofs.Counting.{counts-then, counts-as}
use Rattle.places.proofs.Placed.{place_is}
use Rattle.places.proofs.put_place.Goals as goal

pub returns : goal.returns
returns c = counts-as (place_is _ _ _ _) (counts-then
    (counts-then (counts-then (counts-then (counts-then c.put_byte-a.ensures c.put_number-b.ensures) c.put_number-c.ensures)
    c.put_number-d.ensures) c.put_number-e.ensures) c.put_byte.ensures)
