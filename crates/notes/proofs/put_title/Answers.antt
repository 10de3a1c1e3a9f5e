-- `put_title` puts the field of an item row's text, which stands in its buffer.
-- Assumes nothing.
use native.Mathlib.Omega.{arith}
use Rattle.io.proofs.Counting.{prefix_len_of_le}
use Rattle.room.proofs.Counting.{counts-then, counts-as}
use Rattle.notes.proofs.Changes.{field-none, field_is}
use Rattle.notes.proofs.put_title.Goals as goal

pub returns-then-n-gt196608 : goal.returns-then-n-gt196608
returns-then-n-gt196608 c = counts-as (field-none _ _ c.put_row_text-n.ensures c.title_buffer-text.ensures c.if-n-gt196608.true) c.put_byte-next.ensures

pub slice_bounds-put_safe-end : goal.slice_bounds-put_safe-end
slice_bounds-put_safe-end c = (prefix_len_of_le c.put_row_text-n.result c.put_row_text-n.new.out (omega (arith, c.if-n-gt196608.false, c.put_row_text-n.auto.out, c.title_buffer-text.ensures))).1

pub returns : goal.returns
returns c = counts-as (field_is _ _ c.put_row_text-n.ensures c.title_buffer-text.ensures c.if-n-gt196608.false) (counts-then c.put_byte-next.ensures c.put_safe.ensures)
