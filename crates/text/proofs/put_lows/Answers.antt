-- `put_lows` puts the low bytes of units where there is room for all of them.
-- Assumes nothing.
use mathlib.Core.Path.{◌≡◌, refl, ap, ◌∙◌}
use Rattle.room.proofs.Counting.{counts-over, counts-stored}
use lib.Seq.{sets}
use Rattle.text.specs.Inside.{lows}
use Rattle.text.proofs.LowBytes.{lows-length, lows_stored}
use native.Mathlib.Omega.{arith}
use Rattle.text.proofs.put_lows.Goals as goal

pub returns-then-room_at-size : goal.returns-then-room_at-size
returns-then-room_at-size c = let long = lows-length c.args.units.now c.args.from c.args.size in
    counts-over _ (omega (arith, long, c.on.ensures)) (omega (arith, long, c.room_at.ensures, c.if-room_at-size.true))

pub loop-i-init : goal.loop-i-init
unfolding lows
loop-i-init c = refl

pub loop-i-preserved : goal.loop-i-preserved
loop-i-preserved c = lows_stored c.args.units.now c.args.from c.loop-i.i c.args.out.now c.args.to c.loop-i.invariant

pub returns : goal.returns
returns c = let long = lows-length c.args.units.now c.args.from c.args.size in
    counts-stored _ (omega (arith, long, c.room_at.ensures, c.if-room_at-size.false))
    (c.loop-i.invariant ∙ ap (λ n. sets c.args.out.now c.args.to (lows c.args.units.now c.args.from n)) (let e : c.loop-i.i ≡ c.args.size = omega arith in e))
