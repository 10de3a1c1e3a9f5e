-- `move_sheet` answers, and leaves the room, as `move` says.
-- Assumes nothing.
use native.Mathlib.Omega.{arith}
use Rattle.editions.specs.Told.{JudgedAs}
use Rattle.editions.proofs.Places.{as_told}
use Rattle.mover.proofs.Writing.{says-no_sheet, says-no_room, says-moved}
use Rattle.mover.proofs.move_sheet.Goals as goal

pub put_moved-size-requires : goal.put_moved-size-requires
put_moved-size-requires c = (as_told (JudgedAs c.args.sheet.now) c.judge.ensures c.in-Ok.is)

pub returns-then-room-size : goal.returns-then-room-size
returns-then-room-size c = let all = (let w = as_told (JudgedAs c.args.sheet.now)
    c.judge.ensures
    c.in-Ok.is in
    says-no_room c.args.sheet.now w c.put_moved-size.ensures (omega (arith, c.if-room-size.true, c.put_moved-size.ensures.long)) (c.fill-then-room-size.ensures.after (λ _ e. e))) in record { answer = all.0; room = all.1 }

pub returns-in-Err : goal.returns-in-Err
returns-in-Err c = let all = (let bad = as_told (JudgedAs c.args.sheet.now) c.judge.ensures
    c.in-Err.is in
    says-no_sheet c.args.sheet.now _ bad (c.fill.ensures.after (λ _ e. e))) in record { answer = all.0; room = all.1 }

pub returns-else-room-size : goal.returns-else-room-size
returns-else-room-size c = let all = (let w = as_told (JudgedAs c.args.sheet.now)
    c.judge.ensures
    c.in-Ok.is in
    says-moved c.args.sheet.now w c.put_moved-size.ensures (omega (arith, c.if-room-size.false, c.put_moved-size.ensures.long)) (omega arith) c.fill_from.ensures) in record { answer = all.0; room = all.1 }
