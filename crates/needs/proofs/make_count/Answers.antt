-- `make_count` answers a count of an item row, or the refusal.
-- Assumes nothing.
use native.Mathlib.Omega.{arith}
use Rattle.file.proofs.Rows.{standing}
use Rattle.file.proofs.Own.{item-rows}
use Rattle.needs.specs.Needed.{shown_count, count_answer}
use Rattle.lines.proofs.Ending.{gives_as}
use Rattle.lines.proofs.Reading.{unread-printed}
use Rattle.needs.proofs.Needing.{of_past, of_row_lem}
use Rattle.needs.proofs.make_count.Goals as goal

pub returns-then-s-row : goal.returns-then-s-row
unfolding count_answer
returns-then-s-row c = gives_as (of_past _ c.node_table-nodes.ensures c.item_table-items.ensures _ _ (λ f k r. shown_count f k _ _ r)
    (standing c.args.file.now _ _ _ c.read_file.ensures.answer c.read_file.ensures.nodes c.read_file.ensures.items c.in-Ok.is)
    c.if-s-row.true) c.refuse-then-s-row.ensures

pub item_at-item-requires : goal.item_at-item-requires
item_at-item-requires c = let w = (standing c.args.file.now _ _ _ c.read_file.ensures.answer c.read_file.ensures.nodes c.read_file.ensures.items c.in-Ok.is)
    in omega (arith, w.item_room, c.if-s-row.false)

pub make_row_count-requires : goal.make_row_count-requires
make_row_count-requires c = rw c.item_at-item.ensures ((item-rows
    (standing c.args.file.now _ _ _ c.read_file.ensures.answer c.read_file.ensures.nodes c.read_file.ensures.items c.in-Ok.is)).1 _
    (omega (arith, c.if-s-row.false)))

pub returns-in-Err : goal.returns-in-Err
unfolding count_answer
returns-in-Err c = gives_as (unread-printed _ c.node_table-nodes.ensures c.item_table-items.ensures c.read_file.ensures.answer c.in-Err.is _ _ _ _) c.refuse.ensures

pub returns-else-s-row : goal.returns-else-s-row
unfolding count_answer
returns-else-s-row c = gives_as (of_row_lem _ c.node_table-nodes.ensures c.item_table-items.ensures _ _ (λ f k r. shown_count f k _ _ r)
    (standing c.args.file.now _ _ _ c.read_file.ensures.answer c.read_file.ensures.nodes c.read_file.ensures.items c.in-Ok.is)
    (omega (arith, c.if-s-row.false)) c.item_at-item.ensures) c.make_row_count.ensures
