-- `get_words` lends the cards, in an array, to `get`.
-- Assumes nothing.
use mathlib.Core.Path.{refl}
use lib.ListN.{length}
use Rattle.shelf.specs.Runs.{getting}
use Rattle.shelf.proofs.Rows.{got, many-got}
use Rattle.shelf.proofs.get_words.Goals as goal

pub returns-then-n-gt-MOST_CARDS : goal.returns-then-n-gt-MOST_CARDS
returns-then-n-gt-MOST_CARDS c = let all = many-got c.args.words.now c.args.text.now c.if-n-gt-MOST_CARDS.true (getting c.args.label (length c.args.out.now)) (length c.args.out.now) (c.fill.ensures.after (λ _ e. e)) in
    record { result_value = all.0; out_value = all.1 }

pub returns : goal.returns
returns c = let all = got c.args.words.now c.args.text.now refl _ c.read_cards.ensures c.args.label c.args.out.now c.get.ensures in
    record { result_value = all.0; out_value = all.1 }
