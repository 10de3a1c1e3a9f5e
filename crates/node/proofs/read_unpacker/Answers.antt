-- An unpacker in the common form is three bytes.
-- Assumes nothing.
use mathlib.Core.Path.{sym, ap, ◌∙◌}
use Prim.Native.Nat.{◌+◌}
use Rattle.machine.specs.Machine.{ok}
use Rattle.node.proofs.Ways.{common_was}
use native.Mathlib.Omega.{arith}
use Rattle.node.proofs.read_unpacker.Goals as goal

pub on-requires : goal.on-requires
on-requires c = let w = common_was _ _ _ c.is_common.ensures c.if-is_common.true in
    omega (arith, c.requires, w.0)

pub returns-then-is_common : goal.returns-then-is_common
returns-then-is_common c = let w = common_was _ _ _ c.is_common.ensures c.if-is_common.true in
    λ n. ap (ok (n + 1)) c.on.ensures ∙ sym (w.1 n)
