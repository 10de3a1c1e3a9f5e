-- `put_kinds` puts the lines of the kinds, and of all bytes.
-- Assumes nothing.
use Rattle.room.proofs.Counting.{counts-then, counts-as}
use Rattle.usage.proofs.Accounting.{kinds-are}
use Rattle.usage.proofs.kinds.put_kinds.Goals as goal

pub returns : goal.returns
returns c = counts-as (kinds-are _ c.total.ensures)
    (counts-then (counts-then (counts-then
    (counts-then (counts-then (counts-then
    (counts-then (counts-then (counts-then c.put_kind-a.ensures c.put_kind-b.ensures) c.put_kind-c.ensures) c.put_kind-d.ensures)
    c.put_kind-e.ensures) c.put_kind-f.ensures) c.put_kind-g.ensures) c.put_kind-h.ensures) c.put_kind-i.ensures) c.put_kind.ensures)
