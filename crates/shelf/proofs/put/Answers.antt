-- `put` asks for the card, then stores card and sheet.
-- Assumes nothing.
use native.Mathlib.Omega.{arith}
use Rattle.refusals.proofs.Passing.{passed_on}
use Rattle.shelf.proofs.Ways.{place_at, place-part, put_refused, put-done}
use Rattle.shelf.proofs.put.Goals as goal

pub offset_bounds-cards-i : goal.offset_bounds-cards-i
offset_bounds-cards-i c = record { fits = omega (arith, place-part c.args.cards.now c.args.text.now c.args.label c.args.sheet.now c.find_place.ensures c.in_ok-i.was) }

pub bounds-cards-i : goal.bounds-cards-i
bounds-cards-i c = (place_at c.args.cards.now c.args.text.now c.args.label c.args.sheet.now c.find_place.ensures c.in_ok-i.was).within

pub store_part-requires : goal.store_part-requires
store_part-requires c = let l = c.args.label in (
  place-part c.args.cards.now c.args.text.now l c.args.sheet.now c.find_place.ensures c.in_ok-i.was,
  (place_at c.args.cards.now c.args.text.now l c.args.sheet.now c.find_place.ensures c.in_ok-i.was).fits,
)

pub returns-in_err-i : goal.returns-in_err-i
returns-in_err-i c = rw (passed_on c.from_residual.ensures.1) (put_refused c.args.cards.now c.args.text.now c.args.label c.args.sheet.now c.find_place.ensures c.in_err-i.was)

pub returns : goal.returns
returns c = rw c.card_for.ensures (put-done c.args.cards.now c.args.text.now c.args.label c.args.sheet.now c.find_place.ensures c.in_ok-i.was c.store_part.ensures)
