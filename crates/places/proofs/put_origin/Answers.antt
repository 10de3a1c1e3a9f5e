-- `put_origin` puts where a resource comes from.
-- Assumes nothing.
use Rattle.room.proofs.Counting.{counts-then, counts-as}
use Rattle.places.proofs.Origin.{origin-hidden, origin-plain}
use Rattle.places.proofs.put_origin.Goals as goal

pub returns-then-reference-eq2 : goal.returns-then-reference-eq2
returns-then-reference-eq2 c = counts-as (origin-hidden _ _ c.if-reference-eq2.true) (counts-then (counts-then (counts-then c.put_decimal-a.ensures c.put_bytes-b.ensures) c.put_decimal-c.ensures) c.put_bytes.ensures)

pub returns : goal.returns
returns c = counts-as (origin-plain _ _ c.if-reference-eq2.false) (counts-then (counts-then (counts-then c.put_decimal-a.ensures c.put_bytes-b.ensures) c.put_decimal-c.ensures) c.put_byte.ensures)
