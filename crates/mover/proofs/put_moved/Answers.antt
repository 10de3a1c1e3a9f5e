-- `put_moved` puts the other edition of a well-formed sheet.
-- Assumes nothing.
use native.Mathlib.Omega.{arith}
use Rattle.room.proofs.Counting.{counts-then, counts-as}
use Rattle.mover.proofs.Writing.{body-known, second-lead, first-lead, moved-second, moved-first}
use Rattle.mover.proofs.put_moved.Goals as goal

pub overflow_add-body : goal.overflow_add-body
overflow_add-body c = omega (arith, c.requires.inside)

pub put_line-first-requires : goal.put_line-first-requires
put_line-first-requires c = (second-lead c.args.sheet.now c.requires c.if-second.true, omega (arith, c.requires.inside))

pub put_kind-nodes-requires : goal.put_kind-nodes-requires
put_kind-nodes-requires c = (omega (arith, c.requires.inside), body-known _ c.requires)

pub put_kind-requires : goal.put_kind-requires
put_kind-requires c = (omega (arith, c.requires.inside), body-known _ c.requires)

pub returns-then-second : goal.returns-then-second
returns-then-second c = counts-as (moved-second c.args.sheet.now c.requires c.if-second.true)
    (counts-then c.put_bytes-word.ensures
    (counts-then c.put_line-first.ensures (counts-then c.put_kind-nodes.ensures c.put_kind.ensures)))

pub put_line-first-requires-2 : goal.put_line-first-requires-2
put_line-first-requires-2 c = (first-lead c.args.sheet.now c.requires c.if-second.false, omega (arith, c.requires.inside))

pub put_groups-requires : goal.put_groups-requires
put_groups-requires c = (omega (arith, c.requires.inside), body-known _ c.requires)

pub returns : goal.returns
returns c = counts-as (moved-first c.args.sheet.now c.requires c.if-second.false) (counts-then c.put_bytes-word-2.ensures (counts-then c.put_line-first-2.ensures c.put_groups.ensures))
