-- `put_hex` puts a byte as `hexed` writes it.
-- Assumes nothing.
use Prim.Native.Nat.{◌/◌, ◌%◌}
use lib.ListN.{get_or}
use Rattle.room.proofs.Counting.{counts-as, counts-over, counts-stored}
use Rattle.text.proofs.Escapes.{hexed-is, stored-three}
use native.Mathlib.Omega.{arith}
use Rattle.text.proofs.put_hex.Goals as goal

pub returns-then-room_at-to : goal.returns-then-room_at-to
returns-then-room_at-to c = counts-as (hexed-is c.args.byte c.requires) (counts-over _ c.on.ensures (omega (arith, c.room_at.ensures, c.if-room_at-to.true)))

pub returns : goal.returns
returns c = counts-as (hexed-is c.args.byte c.requires)
    (counts-stored _ (omega (arith, c.room_at.ensures, c.if-room_at-to.false))
    (stored-three c.args.out.now c.args.to 0x5C (get_or c.args.hex.now (c.args.byte / 16) 0)
    (get_or c.args.hex.now (c.args.byte % 16) 0)))
