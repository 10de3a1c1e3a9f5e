-- `offset_at` finds the place that `offset_at` gives.
-- Assumes nothing.
use mathlib.Core.Path.{sym, ap}
use Prim.Native.Nat.{◌+◌}
use Rattle.cursor.specs.Rows.{reference_frame}
use Rattle.cursor.specs.Told.{number_told}
use Rattle.cursor.specs.declared.Node.{Node}
use Rattle.machine.proofs.Laws.{was}
use Rattle.rows.proofs.Rows.{row_is}
use Rattle.targets.proofs.Targets.{offset_is}
use native.Mathlib.Omega.{arith}
use Rattle.targets.proofs.offset_at.Goals as goal

pub node_at-row-requires : goal.node_at-row-requires
node_at-row-requires c = omega (arith, c.requires)

pub of-at-requires : goal.of-at-requires
of-at-requires c = omega (
  arith,
  ap (λ (r : Node). r.start + r.header)
      (row_is c.args.nodes.now c.args.count c.args.i c.requires.0 c.node_at-row.ensures),
  c.requires,
)

pub returns-in-Err : goal.returns-in-Err
returns-in-Err c = offset_is _ _ _ c.requires.0 c.node_at-row.ensures _ _ c.of-at.ensures
    (sym (was number_told (c.number.ensures reference_frame) c.in-Err.is))

pub returns-in-Ok : goal.returns-in-Ok
returns-in-Ok c = offset_is _ _ _ c.requires.0 c.node_at-row.ensures _ _ c.of-at.ensures
    (sym (was number_told (c.number.ensures reference_frame) c.in-Ok.is))
