-- `put_counts` puts the lines of a content description.
-- Assumes nothing.
use mathlib.Core.Path.{refl, sym}
use native.Mathlib.Omega.{arith}
use Rattle.refusals.proofs.Passing.{passed_on}
use Rattle.cursor.specs.Rows.{meta_frame}
use Rattle.cursor.specs.Told.{number_told, pass_told}
use Rattle.cursor.proofs.Leaves.{number-inside}
use Rattle.needs.proofs.Needing.{described-good, described-bad, puts-as, whole-message, whole-channels, whole-resources, whole-lists, whole-table}
use Rattle.needs.proofs.put_counts.Goals as goal

pub put_table-requires : goal.put_table-requires
put_table-requires c = (
  omega (arith, c.requires),
  (number-inside _ _ _ _ _ (described-good number_told (c.number-2.ensures meta_frame) c.described-2.ensures c.in_ok-channels.was)).3,
  (number-inside _ _ _ _ _ (described-good number_told (c.number-3.ensures meta_frame) c.described-3.ensures c.in_ok-resources.was)).3,
)

pub returns-in_err-d : goal.returns-in_err-d
returns-in_err-d c =
    let z = described-bad number_told (c.number.ensures meta_frame) c.described.ensures c.in_err-d.was in
    rw (passed_on c.from_residual.ensures.1, z.2) (whole-message _ _ _ _ z.1, refl)

pub returns-in_err-channels : goal.returns-in_err-channels
returns-in_err-channels c =
    let z = described-bad number_told (c.number-2.ensures meta_frame) c.described-2.ensures c.in_err-channels.was in
    rw (passed_on c.from_residual-in_err-channels.ensures.1, z.2) (whole-channels _ _ _ _ (described-good number_told (c.number.ensures meta_frame) c.described.ensures c.in_ok-d.was) z.1, refl)

pub returns-in_err-resources : goal.returns-in_err-resources
returns-in_err-resources c =
    let z = described-bad number_told (c.number-3.ensures meta_frame) c.described-3.ensures c.in_err-resources.was in
    rw (passed_on c.from_residual-in_err-resources.ensures.1, z.2) (
      whole-resources _ _ _ _
          (described-good number_told (c.number.ensures meta_frame) c.described.ensures c.in_ok-d.was)
          (described-good number_told (c.number-2.ensures meta_frame) c.described-2.ensures c.in_ok-channels.was) z.1,
      refl,
    )

pub returns-in_err-h : goal.returns-in_err-h
returns-in_err-h c =
    let z = described-bad pass_told c.read_lists.ensures c.described-4.ensures c.in_err-h.was in
    rw (passed_on c.from_residual-in_err-h.ensures.1, z.2) (
      whole-lists _ _ _ _
          (described-good number_told (c.number.ensures meta_frame) c.described.ensures c.in_ok-d.was)
          (described-good number_told (c.number-2.ensures meta_frame) c.described-2.ensures c.in_ok-channels.was)
          (described-good number_told (c.number-3.ensures meta_frame) c.described-3.ensures c.in_ok-resources.was) z.1,
      refl,
    )

pub returns : goal.returns
returns c = puts-as c.args.out.now c.put_table.new.out c.args.to c.put_table.result
    (sym (whole-table _ _ _ c.args.row
    (described-good number_told (c.number.ensures meta_frame) c.described.ensures c.in_ok-d.was)
    (described-good number_told (c.number-2.ensures meta_frame) c.described-2.ensures c.in_ok-channels.was)
    (described-good number_told (c.number-3.ensures meta_frame) c.described-3.ensures c.in_ok-resources.was)
    (described-good pass_told c.read_lists.ensures c.described-4.ensures c.in_ok-h.was)))
    c.put_table.ensures
