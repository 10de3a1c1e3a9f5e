-- `get` asks for the card, then gives its sheet.
-- Assumes nothing.
use native.Mathlib.Omega.{arith}
use lib.ListN.{length}
use Rattle.shelf.specs.Runs.{answer}
use Rattle.shelf.proofs.Parts.{part_in}
use Rattle.shelf.proofs.Ways.{sheet_at, sheet_part, sheet_in, get_refused, get-given, get-done}
use Rattle.shelf.proofs.get.Goals as goal

pub offset_bounds-cards-i : goal.offset_bounds-cards-i
offset_bounds-cards-i c = record { fits = omega (arith, sheet_part c.args.cards.now c.args.text.now c.args.label c.find_sheet.ensures c.in-Ok.is) }

pub bounds-cards-i : goal.bounds-cards-i
bounds-cards-i c = (sheet_at c.args.cards.now c.args.text.now c.args.label c.find_sheet.ensures c.in-Ok.is).within

pub overflow_mul-i : goal.overflow_mul-i
overflow_mul-i c = let i = sheet_part c.args.cards.now c.args.text.now c.args.label c.find_sheet.ensures c.in-Ok.is in
    record { fits = omega (arith, part_in (length c.args.text.now) c.in-Ok.i i) }

pub give-requires : goal.give-requires
give-requires c = sheet_in c.args.cards.now c.args.text.now c.args.label c.find_sheet.ensures c.in-Ok.is

pub returns-in-Err : goal.returns-in-Err
returns-in-Err c = get_refused c.args.cards.now c.args.text.now c.args.label c.find_sheet.ensures c.args.out.now c.in-Err.is (c.fill.ensures.after (λ _ e. e))

pub returns-in-Ok : goal.returns-in-Ok
unfolding answer
returns-in-Ok c = get-done (length c.args.out.now) (get-given c.args.cards.now c.args.text.now c.args.label c.find_sheet.ensures c.in-Ok.is) c.give.ensures
