-- `mark_node` marks the parts of a node.
-- Assumes nothing.
use native.Mathlib.Omega.{arith}
use Rattle.account.proofs.Ways.{spans}
use Rattle.account.proofs.Marking.{past, node-spans}
use Rattle.account.proofs.marks.mark_node.Goals as goal

pub overflow_add-unpackers : goal.overflow_add-unpackers
overflow_add-unpackers c = omega (arith, spans c.args.file.now c.args.row c.meta_at-meta.ensures c.block_size.ensures, c.requires)

pub returns : goal.returns
returns c = let unpackers = spans _ _ c.meta_at-meta.ensures c.block_size.ensures in
    let inline = past _ _ _ (omega (
      arith,
      c.well_formed,
      c.fill.ensures.same,
      c.fill-2.ensures.same,
      c.fill-3.ensures.same,
      c.fill-4.ensures.same,
    ))
    (rw (c.on-behind.ensures, c.inline_size.ensures) at c.fill-5.ensures) in
    node-spans _ _ c.meta_at-meta.ensures unpackers c.contents_at-contents.ensures c.fill.ensures c.fill-2.ensures
    c.fill-3.ensures c.fill-4.ensures inline
