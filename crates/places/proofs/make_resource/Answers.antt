-- `make_resource` answers the bytes of a resource, or the refusal.
-- Assumes nothing.
use mathlib.Core.Path.{ap}
use Rattle.resolve.specs.Resolve.{resolve}
use Rattle.resolve.specs.Told.{told}
use Rattle.lines.proofs.Ending.{gives_as}
use Rattle.lines.proofs.Reading.{asked-bad, asked-good}
use Rattle.places.specs.Places.{resource_bytes, resource_answer}
use Rattle.places.proofs.Placed.{resource-in}
use Rattle.places.proofs.make_resource.Goals as goal

pub put_part-end-requires : goal.put_part-end-requires
put_part-end-requires c = resource-in _ _ _ _ c.resolve.ensures.answer c.in-Ok.is

pub returns-in-Err : goal.returns-in-Err
unfolding resource_answer
returns-in-Err c = gives_as (asked-bad _ c.node_table-nodes.ensures c.item_table-items.ensures (resolve _ _) (resource_bytes _) _ _ c.resolve.ensures.answer (ap told c.in-Err.is)) c.refuse.ensures

pub returns-in-Ok : goal.returns-in-Ok
unfolding resource_answer
returns-in-Ok c = gives_as (asked-good _ c.node_table-nodes.ensures c.item_table-items.ensures (resolve _ _) (resource_bytes _) _ _ c.resolve.ensures.answer (ap told c.in-Ok.is))
    (c.conclude.ensures _ _ c.put_part-end.ensures)
