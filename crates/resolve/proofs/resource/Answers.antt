-- `resource` gives the part of the file that `resolve` names; it lies in the file. On a refusal it gives an empty part.
-- Assumes nothing.
use lib.ListN.{length}
use Rattle.resolve.proofs.Exits.{part_none, part_at, part-inside}
use native.Mathlib.Omega.{arith}
use Rattle.resolve.proofs.resource.Goals as goal

pub overflow_add-result : goal.overflow_add-result
overflow_add-result c = omega (
  arith,
  part-inside c.args.file.now (length c.args.nodes.now) (length c.args.items.now) c.args.row
      c.resolve.result c.resolve.ensures.answer c.in-Ok.is,
)

pub slice_bounds-result-end-in-Ok : goal.slice_bounds-result-end-in-Ok
slice_bounds-result-end-in-Ok c = omega (
  arith,
  part-inside c.args.file.now (length c.args.nodes.now) (length c.args.items.now) c.args.row
      c.resolve.result c.resolve.ensures.answer c.in-Ok.is,
)

pub returns-in-Err : goal.returns-in-Err
returns-in-Err c = record {
  gives = part_none c.args.file.now c.resolve.result c.resolve.ensures.answer
      c.in-Err.is;
  in_nodes = c.resolve.ensures.nodes;
  in_items = c.resolve.ensures.items;
}

pub returns-in-Ok : goal.returns-in-Ok
returns-in-Ok c = record {
  gives = part_at c.args.file.now c.resolve.result c.resolve.ensures.answer
      c.in-Ok.is;
  in_nodes = c.resolve.ensures.nodes;
  in_items = c.resolve.ensures.items;
}
