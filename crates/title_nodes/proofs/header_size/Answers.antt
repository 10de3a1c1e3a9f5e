-- `header_size` adds the bytes of both lengths to the rest.
-- Assumes nothing.
use native.Mathlib.Omega.{arith}
use Prim.Native.Nat.{◌+◌}
use Rattle.vlq.proofs.Least.{least-in}
use Rattle.title_nodes.proofs.Lengths.{header-found}
use Rattle.title_nodes.proofs.header_size.Goals as goal

pub overflow_add-result : goal.overflow_add-result
overflow_add-result c = omega (arith, c.self_bytes.ensures, (least-in (λ k. k + (c.args.a + c.args.fixed))).1)

pub overflow_add-result-2 : goal.overflow_add-result-2
overflow_add-result-2 c = omega (arith, c.self_bytes.ensures, (least-in (λ k. k + (c.args.a + c.args.fixed))).1)

pub returns : goal.returns
returns c = header-found c.args.fixed c.args.a c.self_bytes.ensures
