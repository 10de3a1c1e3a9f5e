-- `self_bytes` gives the least count for a number that counts its own bytes.
-- Assumes nothing.
use mathlib.Core.Path.{refl}
use Prim.Native.Nat.{◌+◌}
use Rattle.title_nodes.proofs.self_bytes.Goals as goal

pub returns : goal.returns
returns c = c.least_bytes.ensures (λ k. k + c.args.m) refl refl refl
