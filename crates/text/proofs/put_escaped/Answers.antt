-- `put_escaped` puts the escaped bytes of a part. The invariant: of the whole, the bytes from `at` on are still to be put.
-- Assumes nothing.
use mathlib.Core.Path.{refl, sym, ◌∙◌}
use Rattle.room.proofs.Counting.{going_start, going_on, going_end}
use Rattle.text.proofs.Escapes.{plain-one, plain-join, put-plain, put-hexed, put-none, put-start, escaped-cut}
use native.Mathlib.Omega.{arith}
use Rattle.text.proofs.put_escaped.Goals as goal

pub loop-at-init : goal.loop-at-init
loop-at-init c = (omega arith, omega arith, going_start _ (omega arith) (put-start _ _ _ refl))

pub loop-at-preserved-then-is_plain : goal.loop-at-preserved-then-is_plain
loop-at-preserved-then-is_plain c = (
  c.plain_end-stop.ensures.1,
  omega arith,
  going_on
      (put-plain _ _ _ _ c.plain_end-stop.ensures.1
      (plain-join _ (plain-one _ _ (omega arith) (sym c.is_plain.ensures ∙ c.if-is_plain.true))
      c.plain_end-stop.ensures.0)) c.loop-at.invariant.2 c.put_part-next.ensures,
)

pub put_hex-one-requires : goal.put_hex-one-requires
put_hex-one-requires c = c.hex_digits-hex.ensures

pub put_hexes-run-requires : goal.put_hexes-run-requires
put_hexes-run-requires c = (c.hex_digits-hex.ensures, omega arith, omega arith)

pub loop-at-preserved : goal.loop-at-preserved
loop-at-preserved c = let one = going_on
    (put-hexed _ _ _ c.loop-at-test.true (omega arith) (sym c.is_plain.ensures ∙ c.if-is_plain.false))
    c.loop-at.invariant.2 c.put_hex-one.ensures in
    (c.put_hexes-run.ensures.1, omega arith, going_on (escaped-cut _ _ _ _ c.put_hexes-run.ensures.0 c.put_hexes-run.ensures.1) one c.put_hexes-run.ensures.2)

pub returns : goal.returns
returns c = going_end (put-none _ _ _ c.loop-at-test.false) c.loop-at.invariant.2
