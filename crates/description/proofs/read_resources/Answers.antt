-- `read_resources` reads the resources one by one. The invariant: what is left of them is the whole. Each turn reads a byte of the item or more: there are no more turns than it has
-- bytes, whatever the count.
-- Assumes nothing.
use mathlib.Core.Path.{◌≡◌, refl}
use Prim.Native.Nat.{◌+◌, ◌-◌}
use native.Mathlib.Omega.{arith}
use Rattle.cursor.specs.Told.{pass_told}
use Rattle.refusals.proofs.Passing.{passed_on}
use Rattle.machine.proofs.Laws.{was}
use Rattle.description.proofs.Ways.{resource-further, further-none, further-on, resources-done, resources-no, resources-on}
use Rattle.description.proofs.read_resources.Goals as goal

pub loop-i-init : goal.loop-i-init
loop-i-init c = let e : c.args.count - 0 ≡ c.args.count = omega arith in (rw e (record { same = refl }), further-none _ _)

pub returns-in_err-next : goal.returns-in_err-next
returns-in_err-next c = rw (passed_on c.from_residual.ensures.1)
    (resources-no c.loop-i.invariant.0 (λ e. omega (arith, c.loop-i-test.true)) (was pass_told c.read_resource.ensures c.in_err-next.was))

pub loop-i-preserved : goal.loop-i-preserved
loop-i-preserved c = let e : c.args.count - c.loop-i.i - 1 ≡ c.args.count - (c.loop-i.i + 1) = omega arith in
    let w = was pass_told c.read_resource.ensures c.in_ok-next.was in
    let m = resource-further _ _ _ w in
    (rw (← e) (resources-on c.loop-i.invariant.0 (λ e. omega (arith, c.loop-i-test.true)) w), further-on c.loop-i.invariant.1 m.0 m.1)

pub returns : goal.returns
returns c = resources-done c.loop-i.invariant.0 (omega (arith, c.loop-i-test.false))
