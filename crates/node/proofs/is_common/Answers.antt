-- `is_common` says yes of three bytes that are a whole unpacker.
-- Assumes nothing.
use mathlib.Core.Path.{sym, ◌∙◌}
use Rattle.node.proofs.Ways.{unpacker-common}
use native.Mathlib.Omega.{arith}
use Rattle.node.proofs.is_common.Goals as goal

pub returns-then-not-is_numbered : goal.returns-then-not-is_numbered
returns-then-not-is_numbered c = tt

pub returns-then-end-place-lt3 : goal.returns-then-end-place-lt3
returns-then-end-place-lt3 c = tt

pub returns-then-name-gt127 : goal.returns-then-name-gt127
returns-then-name-gt127 c = tt

pub returns-then-size-gt127 : goal.returns-then-size-gt127
returns-then-size-gt127 c = tt

pub returns : goal.returns
returns c = unpacker-common _ _ _ c.byte-kind.ensures c.byte-name.ensures c.byte-size.ensures (omega (arith, c.if-end-place-lt3.false))
    (sym c.if-not-is_numbered.false ∙ c.is_numbered.ensures) c.if-name-gt127.false c.if-size-gt127.false
