-- `make_place` answers where a resource is, or the refusal.
-- Assumes nothing.
use mathlib.Core.Path.{ap}
use Rattle.resolve.specs.Resolve.{resolve}
use Rattle.resolve.specs.Told.{told}
use Rattle.lines.proofs.Ending.{gives_as}
use Rattle.lines.proofs.Reading.{asked-bad, asked-good}
use Rattle.places.specs.Places.{placed, place_answer}
use Rattle.places.proofs.make_place.Goals as goal

pub returns-in-Err : goal.returns-in-Err
unfolding place_answer
returns-in-Err c = gives_as (asked-bad _ c.node_table-nodes.ensures c.item_table-items.ensures (resolve _ _) placed _ _ c.resolve.ensures.answer (ap told c.in-Err.is)) c.refuse.ensures

pub returns-in-Ok : goal.returns-in-Ok
unfolding place_answer
returns-in-Ok c = gives_as (asked-good _ c.node_table-nodes.ensures c.item_table-items.ensures (resolve _ _) placed _ _ c.resolve.ensures.answer (ap told c.in-Ok.is))
    (c.conclude.ensures _ _ c.put_place-end.ensures)
