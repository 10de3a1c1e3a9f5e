-- `after_mark` gives the place after a leading mark.
-- Assumes nothing.
use mathlib.Core.Path.{sym, ap, ◌∙◌}
use Rattle.utf16.specs.Told.{char_told}
use Rattle.utf16.proofs.Converting.{mark-bad, mark-kept, mark-dropped, mark-in}
use native.Mathlib.Omega.{arith}
use Rattle.utf16.proofs.after_mark.Goals as goal

pub returns-then-value-eq65279 : goal.returns-then-value-eq65279
returns-then-value-eq65279 c = record {
  units_value = mark-dropped c.args.units.now (sym (ap char_told c.in-Some.is) ∙ c.char16.ensures)
      (λ i. omega (arith, c.shared_slice_known-1.given i)) c.if-value-eq65279.true;
  upper_bound = mark-in c.args.units.now
      (sym (ap char_told c.in-Some.is) ∙ c.char16.ensures)
      (λ i. omega (arith, c.shared_slice_known-1.given i));
}

pub returns-in-None : goal.returns-in-None
returns-in-None c = record {
  units_value = mark-bad c.args.units.now (sym (ap char_told c.in-None.is) ∙ c.char16.ensures);
  upper_bound = omega arith;
}

pub returns-else-value-eq65279 : goal.returns-else-value-eq65279
returns-else-value-eq65279 c = record {
  units_value = mark-kept c.args.units.now (sym (ap char_told c.in-Some.is) ∙ c.char16.ensures)
      (λ i. omega (arith, c.shared_slice_known-1.given i)) c.if-value-eq65279.false;
  upper_bound = omega arith;
}
