-- `length_bytes` gives the least count for NodeLength, by NodeHeaderLength at each count.
-- Assumes nothing.
use native.Mathlib.Omega.{arith}
use Prim.Native.Nat.{◌+◌}
use mathlib.Core.Path.{ap}
use Rattle.title_text.specs.Text.{header_size, length_bytes}
use Rattle.title_nodes.proofs.Lengths.{header-few}
use Rattle.title_nodes.proofs.length_bytes.Goals as goal

pub overflow_add-one : goal.overflow_add-one
overflow_add-one c = omega (arith, header-few _ _ c.header_size.ensures)

pub overflow_add-two : goal.overflow_add-two
overflow_add-two c = omega (arith, header-few _ _ c.header_size-2.ensures)

pub overflow_add-three : goal.overflow_add-three
overflow_add-three c = omega (arith, header-few _ _ c.header_size-3.ensures)

pub returns : goal.returns
unfolding length_bytes
returns c = c.least_bytes.ensures (λ k. header_size c.args.fixed k + c.args.contents)
    (ap (λ n. n + c.args.contents) c.header_size.ensures)
    (ap (λ n. n + c.args.contents) c.header_size-2.ensures)
    (ap (λ n. n + c.args.contents) c.header_size-3.ensures)
