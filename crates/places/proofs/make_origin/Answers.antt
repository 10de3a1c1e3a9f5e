-- `make_origin` answers where a resource comes from, or the refusal.
-- Assumes nothing.
use Rattle.lines.proofs.Ending.{gives_as}
use Rattle.places.proofs.Origin.{origin-bad, origin-good, origin-room}
use Rattle.places.proofs.make_origin.Goals as goal

pub node_at-reference-requires : goal.node_at-reference-requires
node_at-reference-requires c = origin-room _ c.node_table-nodes.ensures c.item_table-items.ensures 0 _ c.resolve.ensures.answer c.in-Ok.is c.resolve.ensures.nodes

pub returns-in-Err : goal.returns-in-Err
returns-in-Err c = gives_as (origin-bad _ c.node_table-nodes.ensures c.item_table-items.ensures _ _ c.resolve.ensures.answer c.in-Err.is) c.refuse.ensures

pub returns-in-Ok : goal.returns-in-Ok
returns-in-Ok c = gives_as (origin-good _ c.node_table-nodes.ensures c.item_table-items.ensures _ _ c.resolve.ensures.answer c.in-Ok.is c.resolve.ensures.nodes
    c.node_at-reference.ensures) (c.conclude.ensures _ _ c.put_origin-end.ensures)
