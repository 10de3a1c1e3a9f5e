-- `climb` gives what `nearest` gives: one look, and then the same on the parent's row. The measure is the row, since the parent's is smaller.
-- Assumes nothing.
use Rattle.find.specs.Told.{wanted_of}
use Rattle.find.proofs.Climbing.{own_rows, own_end, own_first, climb_here, climb_top, climb_up}
use native.Mathlib.Omega.{arith}
use Rattle.find.proofs.+climb.Goals as goal

pub overflow_sub-first : goal.overflow_sub-first
overflow_sub-first t c = own_rows c.requires.0 c.requires.1 c.requires.2 c.node_at-row.ensures

pub look-requires : goal.look-requires
look-requires t c = (c.requires.0.item-rows, own_end c.requires.0 c.requires.1 c.requires.2 c.node_at-row.ensures)

pub returns-then-k-parent : goal.returns-then-k-parent
returns-then-k-parent t c =
    climb_top c.requires.0 c.requires.1 c.requires.2 c.node_at-row.ensures (wanted_of c.args.field c.args.name.now) _ c.look.ensures c.in-Err.is c.if-k-parent.true

pub rows_end-before-requires : goal.rows_end-before-requires
rows_end-before-requires t c =
    (c.requires.0.node-room, omega arith, omega (arith, c.requires.1), own_first c.requires.0 c.requires.1 c.requires.2 c.node_at-row.ensures)

pub returns-in-Ok : goal.returns-in-Ok
returns-in-Ok t c =
    climb_here c.requires.0 c.requires.1 c.requires.2 c.node_at-row.ensures (wanted_of c.args.field c.args.name.now) _ c.look.ensures c.in-Ok.is

pub returns-else-k-parent : goal.returns-else-k-parent
returns-else-k-parent t c =
    climb_up c.requires.0 c.requires.1 c.requires.2 c.node_at-row.ensures (wanted_of c.args.field c.args.name.now) _ c.look.ensures c.in-Err.is (omega arith)
    c.climb.ensures
