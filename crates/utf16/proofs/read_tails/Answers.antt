-- `read_tails` gives what `tails` gives.
-- Assumes nothing.
use mathlib.Core.Path.{◌≡◌}
use Prim.Native.Nat.{◌+◌, ◌-◌}
use mathlib.Core.Logic.{inl, inr}
use Rattle.utf16.proofs.Tails.{tails-start, tails-none, tails-low, tails-high, tails-next, tails-under, tails-one, tails-lone, tails-over}
use native.Mathlib.Omega.{arith}
use Rattle.utf16.proofs.read_tails.Goals as goal

pub loop-at-init : goal.loop-at-init
loop-at-init c = let e : c.args.from + c.args.count - c.args.from ≡ c.args.count = omega arith in rw e (tails-start _ c.requires.0 c.requires.1 c.requires.2)

pub returns-then-text-at : goal.returns-then-text-at
returns-then-text-at c = tails-none c.loop-at.invariant (omega arith) c.if-text-at.true

pub returns-then-b-lt128 : goal.returns-then-b-lt128
returns-then-b-lt128 c = tails-low c.loop-at.invariant (omega arith) c.if-text-at.false c.wide-b.ensures.0 c.if-b-lt128.true

pub returns-then-b-ge192 : goal.returns-then-b-ge192
returns-then-b-ge192 c = tails-high c.loop-at.invariant (omega arith) c.if-text-at.false c.wide-b.ensures.0 c.if-b-ge192.true

pub loop-at-preserved : goal.loop-at-preserved
loop-at-preserved c = let e : c.args.from + c.args.count - (c.loop-at.at + 1) ≡ c.args.from + c.args.count - c.loop-at.at - 1 = omega arith in
    rw e (tails-next c.loop-at.invariant (omega arith) c.if-text-at.false c.wide-b.ensures.0 c.if-b-lt128.false c.if-b-ge192.false)

pub returns-then-v-low : goal.returns-then-v-low
returns-then-v-low c = tails-under c.loop-at.invariant (omega arith) c.if-v-low.true

pub returns-then-v-lt55296 : goal.returns-then-v-lt55296
returns-then-v-lt55296 c = tails-one c.loop-at.invariant (omega arith) c.if-v-low.false (record { most = omega arith; apart = inl c.if-v-lt55296.true })

pub returns-then-v-lt57344 : goal.returns-then-v-lt57344
returns-then-v-lt57344 c = tails-lone c.loop-at.invariant (omega arith) c.if-v-low.false c.if-v-lt55296.false c.if-v-lt57344.true

pub returns-then-v-lt1114112 : goal.returns-then-v-lt1114112
returns-then-v-lt1114112 c = tails-one c.loop-at.invariant (omega arith) c.if-v-low.false (record { most = c.if-v-lt1114112.true; apart = inr c.if-v-lt57344.false })

pub returns : goal.returns
returns c = tails-over c.loop-at.invariant (omega arith) c.if-v-low.false c.if-v-lt1114112.false
