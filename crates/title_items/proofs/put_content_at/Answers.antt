-- `put_content_at` puts the title, or the part of the file that the row names.
-- Assumes nothing.
use native.Mathlib.Omega.{arith}
use mathlib.Core.Path.{refl}
use Rattle.title_items.proofs.Putting.{row_inside, content-title, content-file}
use Rattle.title_items.proofs.put_content_at.Goals as goal

pub returns-then-k-row : goal.returns-then-k-row
returns-then-k-row c = content-title _ _ _ _ _ c.item_at-item.ensures c.if-k-row.true (c.put_content.ensures _)

pub overflow_add-end : goal.overflow_add-end
overflow_add-end c = omega (arith, (row_inside c.item_at-item.ensures c.requires.1).0)

pub slice_bounds-put_content-end : goal.slice_bounds-put_content-end
slice_bounds-put_content-end c = omega (arith, (row_inside c.item_at-item.ensures c.requires.1).0)

pub returns : goal.returns
returns c = content-file _ _ _ _ _ c.item_at-item.ensures c.if-k-row.false refl (c.put_content-2.ensures _)
