-- `put_hexes` puts bytes that do not stand for themselves. The invariant: those up to `at` are put.
-- Assumes nothing.
use mathlib.Core.Path.{sym, ◌∙◌}
use Rattle.room.proofs.Counting.{counts-none, counts-then, counts-as}
use Rattle.text.proofs.Escapes.{escaped-none, hexed-more}
use native.Mathlib.Omega.{arith}
use Rattle.text.proofs.put_hexes.Goals as goal

pub loop-at-init : goal.loop-at-init
loop-at-init c = (omega arith, omega arith, counts-as (sym (escaped-none _ _)) (counts-none _ (omega arith)))

pub loop-at-preserved : goal.loop-at-preserved
loop-at-preserved c = (
  omega arith,
  omega arith,
  counts-as (hexed-more _ _ _ c.loop-at.invariant.0 (omega arith) (sym c.is_plain.ensures ∙ c.if-is_plain.false))
      (counts-then c.loop-at.invariant.2 c.put_hex-next.ensures),
)
