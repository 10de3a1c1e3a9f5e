-- `make_retitled` answers the file with another title, or the refusal.
-- Assumes nothing.
use Rattle.lines.proofs.Ending.{gives_as}
use Rattle.titles.proofs.Retitling.{plain-is, units-bad, units-counted, units-good}
use Rattle.titles.proofs.make_retitled.Goals as goal

pub returns-then-title_format-ne2 : goal.returns-then-title_format-ne2
returns-then-title_format-ne2 c = gives_as (plain-is _ _ _ _ c.title_format.ensures c.if-title_format-ne2.true) c.make_corrected.ensures

pub slice_bounds-units-end : goal.slice_bounds-units-end
slice_bounds-units-end c = (units-counted _ _ c.to_utf16.ensures.answer c.in-Ok.is _ c.to_utf16.ensures.units).0

pub slice_bounds-make_corrected-end : goal.slice_bounds-make_corrected-end
slice_bounds-make_corrected-end c = (units-counted _ _ c.to_utf16.ensures.answer c.in-Ok.is _ c.to_utf16.ensures.units).1

pub returns-in-Err : goal.returns-in-Err
returns-in-Err c = gives_as (units-bad _ _ _ _ c.title_format.ensures c.if-title_format-ne2.false c.large_buffer-units.ensures c.to_utf16.ensures.answer c.in-Err.is) c.refuse.ensures

pub returns-in-Ok : goal.returns-in-Ok
returns-in-Ok c = gives_as (units-good _ _ _ _ c.title_format.ensures c.if-title_format-ne2.false c.large_buffer-units.ensures c.to_utf16.ensures.answer c.in-Ok.is _
    c.to_utf16.ensures.units) c.make_corrected-in-Ok.ensures
