-- `drop` asks for the card, then clears card and part.
-- Assumes nothing.
use native.Mathlib.Omega.{arith}
use Rattle.refusals.proofs.Passing.{passed_on}
use Rattle.shelf.proofs.Ways.{sheet_at, sheet_part, drop-refused, drop-done}
use Rattle.shelf.proofs.drop.Goals as goal

pub offset_bounds-cards-i : goal.offset_bounds-cards-i
offset_bounds-cards-i c = record { fits = omega (arith, sheet_part c.args.cards.now c.args.text.now c.args.label c.find_sheet.ensures c.in_ok-i.was) }

pub bounds-cards-i : goal.bounds-cards-i
bounds-cards-i c = (sheet_at c.args.cards.now c.args.text.now c.args.label c.find_sheet.ensures c.in_ok-i.was).within

pub store_part-requires : goal.store_part-requires
store_part-requires c = (omega (arith, sheet_part c.args.cards.now c.args.text.now c.args.label c.find_sheet.ensures c.in_ok-i.was), omega arith)

pub returns-in_err-i : goal.returns-in_err-i
returns-in_err-i c = rw (passed_on c.from_residual.ensures.1) (drop-refused c.args.cards.now c.args.text.now c.args.label c.find_sheet.ensures c.in_err-i.was)

pub returns : goal.returns
returns c = drop-done c.args.cards.now c.args.text.now c.args.label c.find_sheet.ensures c.in_ok-i.was c.store_part.ensures
