-- `put_bytes` stores the bytes where there is room for all of them.
-- Assumes nothing.
use Rattle.room.proofs.Counting.{counts-over, counts-stored}
use native.Mathlib.Omega.{arith}
use Rattle.room.proofs.put_bytes.Goals as goal

pub returns-then-room_at-size : goal.returns-then-room_at-size
returns-then-room_at-size c = counts-over _ c.on.ensures (omega (arith, c.room_at.ensures, c.if-room_at-size.true))

pub store-requires : goal.store-requires
store-requires c = omega (arith, c.room_at.ensures, c.if-room_at-size.false)

pub returns : goal.returns
returns c = counts-stored _ (omega (arith, c.room_at.ensures, c.if-room_at-size.false)) c.store.ensures
