-- `power` multiplies k times.
-- Assumes nothing.
use mathlib.Core.Path.{◌≡◌, refl}
use Prim.Native.Nat.{◌+◌}
use native.Mathlib.Omega.{arith}
use Rattle.vlq.proofs.Numbers.{power_on, power_most}
use Rattle.vlq.proofs.power.Goals as goal

pub loop-i-init : goal.loop-i-init
loop-i-init c = (refl, omega arith, omega arith)

pub loop-i-preserved : goal.loop-i-preserved
loop-i-preserved c = let e = power_on c.loop-i.i c.loop-i.invariant.0 in
    (e, omega arith, omega (arith, e, power_most (c.loop-i.i + 1) (omega arith)))

pub returns : goal.returns
returns c = let e : c.loop-i.i ≡ c.args.k = omega arith in rw (← e) c.loop-i.invariant.0
