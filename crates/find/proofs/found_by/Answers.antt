-- `found_by` finds what `found_by` says: it climbs from the node, or looks at it alone.
-- Assumes nothing.
use Rattle.file.proofs.Own.{end-begin}
use Rattle.find.proofs.Climbing.{own_rows, own_end}
use native.Mathlib.Omega.{arith}
use Rattle.find.proofs.found_by.Goals as goal

pub rows_end-end-requires : goal.rows_end-end-requires
rows_end-end-requires c = (c.requires.0.node-room, c.requires.1, omega arith, end-begin c.requires.0)

pub overflow_sub-end : goal.overflow_sub-end
overflow_sub-end c = own_rows c.requires.0 c.requires.1 c.rows_end-end.ensures c.node_at-row.ensures

pub look-requires : goal.look-requires
look-requires c = (c.requires.0.item-rows, own_end c.requires.0 c.requires.1 c.rows_end-end.ensures c.node_at-row.ensures)
