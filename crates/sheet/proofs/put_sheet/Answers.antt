-- `put_sheet` puts all lines of an edition.
-- Assumes nothing.
use Rattle.room.proofs.Counting.{counts-then}
use Rattle.sheet.proofs.Filling.{fills-counts, fills-then, fills-as}
use Rattle.sheet.proofs.Lines.{put_second, put_first}
use Rattle.sheet.proofs.put_sheet.Goals as goal

pub returns-then-second : goal.returns-then-second
returns-then-second c = let head = fills-counts (counts-then c.put_bytes-word.ensures
    c.put_head_fields-head.ensures) in
    fills-as (put_second c.args.version c.args.rows c.args.contents c.args.file.now c.args.nodes.now c.args.items.now
    c.if-second.true)
    (fills-then head c.put_group_lines.ensures)

pub returns : goal.returns
returns c = let head = fills-counts (counts-then c.put_bytes-word-2.ensures c.put_head_fields-head-2.ensures) in
    fills-as (put_first c.args.version c.args.rows c.args.contents c.args.file.now c.args.nodes.now c.args.items.now c.if-second.false)
    (fills-then (fills-then head c.put_node_lines-lines.ensures) c.put_item_lines.ensures)
