-- `store_part` fills a part, which it lends.
-- Assumes nothing.
use native.Mathlib.Omega.{arith}
use lib.ListN.{length}
use Rattle.shelf.proofs.Parts.{part_in, part_filled}
use Rattle.shelf.proofs.store_part.Goals as goal

pub overflow_mul-at : goal.overflow_mul-at
overflow_mul-at c = record { fits = omega (arith, part_in (length c.args.text.now) c.args.i c.requires.0) }

pub overflow_add-end : goal.overflow_add-end
overflow_add-end c = record { fits = omega (arith, part_in (length c.args.text.now) c.args.i c.requires.0) }

pub slice_bounds-fill-end : goal.slice_bounds-fill-end
slice_bounds-fill-end c = part_in (length c.args.text.now) c.args.i c.requires.0

pub returns : goal.returns
returns c = part_filled c.args.text.now c.args.i c.args.sheet.now c.requires.0 c.requires.1 c.fill.ensures
