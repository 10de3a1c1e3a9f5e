-- `copy_resource` answers, and leaves tables and buffer, as `copy_into` says of what the file reads as.
-- Assumes nothing.
use lib.ListN.{length}
use native.Mathlib.Omega.{arith}
use Rattle.resolve.proofs.Exits.{part-inside}
use Rattle.resolve.proofs.Copied.{zeros, copy-refused, copy-full, copy-good}
use Rattle.resolve.proofs.copy_resource.Goals as goal

pub overflow_add-at : goal.overflow_add-at
overflow_add-at c = omega (arith, part-inside c.args.file.now (length c.args.nodes.now) (length c.args.items.now) c.args.row c.resolve.result c.resolve.ensures.answer c.in-Ok.is)

pub slice_bounds-store-end : goal.slice_bounds-store-end
slice_bounds-store-end c = omega (arith, part-inside c.args.file.now (length c.args.nodes.now) (length c.args.items.now) c.args.row c.resolve.result c.resolve.ensures.answer c.in-Ok.is)

pub returns-else-out-size : goal.returns-else-out-size
returns-else-out-size c = let s = copy-good c.args.file.now (length c.args.nodes.now) (length c.args.items.now) c.args.row c.args.out.now c.resolve.result c.resolve.ensures.answer
    c.in-Ok.is c.if-out-size.false c.resolve.ensures.nodes c.resolve.ensures.items c.store.ensures c.store.auto.xs c.fill_from.ensures in
    record {
      answer = s.0;
      nodes = s.1;
      items = s.2;
      out = s.3;
    }

pub returns-in-Err : goal.returns-in-Err
returns-in-Err c = let s = copy-refused c.args.file.now (length c.args.nodes.now) (length c.args.items.now) c.args.row c.args.out.now c.resolve.result c.resolve.ensures.answer
    c.in-Err.is c.resolve.ensures.nodes c.resolve.ensures.items (c.fill.ensures.after (λ _ e. e)) in
    record {
      answer = s.0;
      nodes = s.1;
      items = s.2;
      out = s.3;
    }

pub returns-then-out-size : goal.returns-then-out-size
returns-then-out-size c = let s = copy-full c.args.file.now (length c.args.nodes.now) (length c.args.items.now) c.args.row c.args.out.now c.resolve.result c.resolve.ensures.answer
    c.in-Ok.is c.if-out-size.true (zeros c.clear_all.ensures.nodes c.resolve.auto.nodes) (zeros c.clear_all.ensures.items c.resolve.auto.items) (c.fill-then-out-size.ensures.after (λ _ e. e)) in
    record {
      answer = s.0;
      nodes = s.1;
      items = s.2;
      out = s.3;
    }
