-- `write_titled` asks the rows, then puts the file, and asks whether it is too large or has no room.
-- Assumes nothing.
use native.Mathlib.Omega.{arith}
use mathlib.Core.Path.{refl}
use Rattle.header.specs.Header.{Header}
use Rattle.metadata.specs.declared.Limits.{Limits}
use Rattle.refusals.proofs.Passing.{passed_on}
use Rattle.title.proofs.Asked.{rows-refuse, rows_stay, too_large_lem, no_room_lem, wrote}
use Rattle.title.proofs.write_titled.Goals as goal

pub returns-in_err-check_rows : goal.returns-in_err-check_rows
returns-in_err-check_rows c = λ (lim : Limits) (h : Header) reads. rw (passed_on c.from_residual.ensures.1)
    (record { is = rows-refuse _ _ _ _ _ _ _ c.check_rows.ensures c.in_err-check_rows.was })

pub put_titled-size-requires : goal.put_titled-size-requires
put_titled-size-requires c = (c.requires, rows_stay _ _ _ c.check_rows.ensures c.in_ok-check_rows.was)

pub returns-then-size-ge-SIZE_STOP : goal.returns-then-size-ge-SIZE_STOP
returns-then-size-ge-SIZE_STOP c = λ (lim : Limits) (h : Header) reads. record {
  is = too_large_lem _ _ _ _ _ _ _ c.check_rows.ensures c.in_ok-check_rows.was refl
      (c.put_titled-size.ensures lim h reads) (omega (arith, c.if-size-ge-SIZE_STOP.true));
}

pub returns-then-out-size : goal.returns-then-out-size
returns-then-out-size c = λ (lim : Limits) (h : Header) reads. record {
  is = no_room_lem _ _ _ _ _ _ _ c.check_rows.ensures c.in_ok-check_rows.was refl
      (c.put_titled-size.ensures lim h reads) (omega (arith, c.if-size-ge-SIZE_STOP.false))
      (omega (arith, c.if-out-size.true, c.put_titled-size.auto));
}

pub returns : goal.returns
returns c = λ (lim : Limits) (h : Header) reads. wrote _ _ _ _ _ _ _ c.check_rows.ensures c.in_ok-check_rows.was refl
    (c.put_titled-size.ensures lim h reads) (omega (arith, c.if-size-ge-SIZE_STOP.false))
    (omega (arith, c.if-out-size.false, c.put_titled-size.auto))
