-- `copy_identifier` puts a GUID as it is; a manufacturer as it is and a number; or a number.
-- Assumes nothing.
use Rattle.title_parts.proofs.Copying.{copies-no, guid-no, guid-is, guid-inside, maker_no, maker_is, maker_inside, other-is, copies_as, copies_after}
use Rattle.cursor.specs.Rows.{unpack_frame}
use Rattle.cursor.specs.Told.{pass_told}
use Rattle.machine.proofs.Laws.{was}
use Rattle.refusals.proofs.Passing.{passed_on}
use mathlib.Core.Path.{sym}
use native.Mathlib.Omega.{arith}
use Rattle.title_parts.proofs.copy_identifier.Goals as goal

pub overflow_sub-after : goal.overflow_sub-after
overflow_sub-after c = omega (arith, guid-inside c.args.file.now c.args.c.at.0 (was pass_told (c.guid.ensures unpack_frame) c.in_ok-d.was))

pub put_part-requires : goal.put_part-requires
put_part-requires c = omega (arith, guid-inside c.args.file.now c.args.c.at.0 (was pass_told (c.guid.ensures unpack_frame) c.in_ok-d.was))

pub returns-in_err-d : goal.returns-in_err-d
returns-in_err-d c = copies-no (passed_on c.from_residual.ensures.1) (guid-no _ _ _ c.if-kind-eq3.true (was pass_told (c.guid.ensures unpack_frame) c.in_err-d.was))

pub returns-then-kind-eq3 : goal.returns-then-kind-eq3
returns-then-kind-eq3 c = record { is = (_, guid-is _ _ _ c.if-kind-eq3.true (was pass_told (c.guid.ensures unpack_frame) c.in_ok-d.was), c.put_part.ensures) }

pub overflow_sub-after-then-kind-eq1 : goal.overflow_sub-after-then-kind-eq1
overflow_sub-after-then-kind-eq1 c = omega (arith, maker_inside c.args.file.now c.args.c.at.0 (was pass_told (c.manufacturer.ensures unpack_frame) c.in_ok-d-2.was))

pub put_part-a-requires : goal.put_part-a-requires
put_part-a-requires c = omega (arith, maker_inside c.args.file.now c.args.c.at.0 (was pass_told (c.manufacturer.ensures unpack_frame) c.in_ok-d-2.was))

pub returns-in_err-d-2 : goal.returns-in_err-d-2
returns-in_err-d-2 c = copies-no (passed_on c.from_residual-in_err-d-2.ensures.1) (maker_no _ _ _ c.if-kind-eq1.true (was pass_told (c.manufacturer.ensures unpack_frame) c.in_err-d-2.was))

pub returns-then-kind-eq1 : goal.returns-then-kind-eq1
returns-then-kind-eq1 c = copies_as (sym (maker_is _ _ _ c.if-kind-eq1.true
    (was pass_told (c.manufacturer.ensures unpack_frame) c.in_ok-d-2.was)))
    (copies_after _ _ c.put_part-a.ensures (c.copy_number.ensures unpack_frame))

pub returns : goal.returns
returns c = copies_as (sym (other-is _ _ _ c.if-kind-eq3.false c.if-kind-eq1.false)) (c.copy_number-2.ensures unpack_frame)
