-- `put_in_bytes` puts n byte by byte, where all of its bytes have room. The invariant: of its bytes the last `left` are still to be put.
-- Assumes nothing.
use mathlib.Core.Path.{refl, ap}
use Prim.Native.Nat.{ℕ, ◌-◌, ◌/◌, ◌%◌, ◌+◌}
use native.Mathlib.Omega.{arith}
use Rattle.room.proofs.Counting.{counts-over, going_start, going_on, going_end}
use Rattle.vlq.proofs.Numbers.{digit_more, digit_last, power_some, none_left}
use Rattle.vlq.proofs.Least.{in_bytes_length}
use Rattle.vlq.proofs.put_in_bytes.Goals as goal

pub returns-then-room_at-k : goal.returns-then-room_at-k
returns-then-room_at-k c = let e = in_bytes_length c.args.k c.args.n in
    counts-over _ (rw e c.on.ensures) (omega (arith, e, c.room_at.ensures, c.if-room_at-k.true))

pub loop-left-init : goal.loop-left-init
loop-left-init c = (omega arith, going_start _ (omega arith) refl)

pub nonzero_div-digit : goal.nonzero_div-digit
nonzero_div-digit c = omega (arith, power_some (c.loop-left.left - 1), c.power.ensures)

pub loop-left-preserved-then-left-gt0 : goal.loop-left-preserved-then-left-gt0
loop-left-preserved-then-left-gt0 c = let n : ℕ = c.args.n in (
  omega arith,
  going_on (digit_more c.loop-left.left n refl
      c.loop-left-test.true c.if-left-gt0.true
      (ap (λ (p : ℕ). 128 + n / p % 128) c.power.ensures))
      c.loop-left.invariant.1 c.put_byte-next.ensures,
)

pub loop-left-preserved : goal.loop-left-preserved
loop-left-preserved c = let n : ℕ = c.args.n in (
  omega arith,
  going_on (digit_last c.loop-left.left n refl
      c.loop-left-test.true c.if-left-gt0.false
      (ap (λ (p : ℕ). n / p % 128) c.power.ensures))
      c.loop-left.invariant.1 c.put_byte-next-else-left-gt0.ensures,
)

pub returns : goal.returns
returns c = going_end (none_left _ _ c.loop-left-test.false) c.loop-left.invariant.1
