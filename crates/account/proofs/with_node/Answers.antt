-- `with_node` adds what `with_node` adds.
-- Assumes nothing.
use mathlib.Core.Path.{◌≡◌, refl}
use Prim.Native.Nat.{◌-◌}
use native.Mathlib.Omega.{arith}
use Rattle.account.specs.ByRows.{meta_at, meta_end}
use Rattle.account.proofs.Ways.{from_start, spans}
use Rattle.account.proofs.with_node.Goals as goal

pub overflow_sub-result : goal.overflow_sub-result
overflow_sub-result c = omega (arith, c.meta_at-meta.ensures, from_start c.args.file.now c.args.row)

pub overflow_add-result-2 : goal.overflow_add-result-2
overflow_add-result-2 c = omega (arith, c.meta_at-meta.ensures, spans c.args.file.now c.args.row c.meta_at-meta.ensures c.block_size-block.ensures, c.requires)

pub returns : goal.returns
returns c = let block : c.block_size-block.result ≡ meta_end c.args.file.now c.args.row - meta_at c.args.file.now c.args.row = omega (arith, c.meta_at-meta.ensures, spans c.args.file.now c.args.row c.meta_at-meta.ensures c.block_size-block.ensures) in
    rw (block, c.meta_at-meta.ensures, c.follow_size.ensures, c.inline_size.ensures) refl
