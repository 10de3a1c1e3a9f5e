-- `drop_words` asks for the card among those that it reads into an array, then clears card and part.
-- Assumes nothing.
use mathlib.Core.Path.{refl}
use native.Mathlib.Omega.{arith}
use Rattle.refusals.proofs.Passing.{passed_on}
use Rattle.shelf.specs.Runs.{dropping}
use Rattle.shelf.proofs.Rows.{changed, one_stored, none_stored, among, many-changed}
use Rattle.shelf.proofs.Ways.{sheet_at, sheet_part, drop-refused, drop-done}
use Rattle.shelf.proofs.drop_words.Goals as goal

pub store_card-requires : goal.store_card-requires
store_card-requires c = among c.args.words.now c.args.text.now refl _ c.read_cards.ensures (sheet_at _ _ _ c.find_sheet.ensures c.in_ok-place.was).within

pub store_part-requires : goal.store_part-requires
store_part-requires c = (omega (arith, sheet_part _ _ _ c.find_sheet.ensures c.in_ok-place.was), omega arith)

pub returns-then-n-gt-MOST_CARDS : goal.returns-then-n-gt-MOST_CARDS
returns-then-n-gt-MOST_CARDS c = let all = many-changed c.args.words.now c.args.text.now c.if-n-gt-MOST_CARDS.true (dropping c.args.label) in
    record { result_value = all.0; words_value = all.1; text_value = all.2 }

pub returns-in_err-place : goal.returns-in_err-place
returns-in_err-place c = let all = changed c.args.words.now c.args.text.now refl _ c.read_cards.ensures (dropping c.args.label)
    (drop-refused _ _ _ c.find_sheet.ensures c.in_err-place.was) (none_stored c.args.words.now c.args.text.now refl _ c.read_cards.ensures) in
    rw (passed_on c.from_residual.ensures.1) (record { result_value = all.0; words_value = all.1; text_value = all.2 })

pub returns : goal.returns
returns c = let all = changed c.args.words.now c.args.text.now refl _ c.read_cards.ensures (dropping c.args.label)
    (drop-done _ _ _ c.find_sheet.ensures c.in_ok-place.was c.store_part.ensures)
    (one_stored c.args.words.now c.args.text.now refl _ c.read_cards.ensures _ refl c.store_card.ensures) in
    record { result_value = all.0; words_value = all.1; text_value = all.2 }
