-- `tree_start` gives TreeStart with the least count for FileLength.
-- Assumes nothing.
use native.Mathlib.Omega.{arith}
use mathlib.Core.Path.{ap, ◌∙◌}
use Prim.Native.Nat.{ℕ, ◌+◌}
use Rattle.vlq.proofs.Least.{least-in}
use Rattle.title_text.specs.Text.{start_at, file_bytes}
use Rattle.title_nodes.proofs.Lengths.{start-few}
use Rattle.title_file.proofs.tree_start.Goals as goal

pub overflow_add-one : goal.overflow_add-one
overflow_add-one c = omega (arith, start-few _ _ _ c.start_at.ensures)

pub overflow_add-one-2 : goal.overflow_add-one-2
overflow_add-one-2 c = omega (arith, start-few _ _ _ c.start_at.ensures)

pub overflow_add-two : goal.overflow_add-two
overflow_add-two c = omega (arith, start-few _ _ _ c.start_at-2.ensures)

pub overflow_add-two-2 : goal.overflow_add-two-2
overflow_add-two-2 c = omega (arith, start-few _ _ _ c.start_at-2.ensures)

pub overflow_add-three : goal.overflow_add-three
overflow_add-three c = omega (arith, start-few _ _ _ c.start_at-3.ensures)

pub overflow_add-three-2 : goal.overflow_add-three-2
overflow_add-three-2 c = omega (arith, start-few _ _ _ c.start_at-3.ensures)

pub start_at-requires-4 : goal.start_at-requires-4
start_at-requires-4 c = let n : ℕ → ℕ = λ x. start_at c.args.fixed c.args.tree x + c.args.tree + c.args.after in let e =
    c.least_bytes.ensures n (ap (λ s. s + c.args.tree + c.args.after) c.start_at.ensures)
    (ap (λ s. s + c.args.tree + c.args.after) c.start_at-2.ensures)
    (ap (λ s. s + c.args.tree + c.args.after) c.start_at-3.ensures) in omega (arith, e, (least-in n).0, (least-in n).1)

pub returns : goal.returns
unfolding file_bytes
returns c = c.start_at-4.ensures ∙ ap (start_at c.args.fixed c.args.tree)
    (c.least_bytes.ensures (λ x. start_at c.args.fixed c.args.tree x + c.args.tree + c.args.after)
    (ap (λ s. s + c.args.tree + c.args.after) c.start_at.ensures)
    (ap (λ s. s + c.args.tree + c.args.after) c.start_at-2.ensures)
    (ap (λ s. s + c.args.tree + c.args.after) c.start_at-3.ensures))
