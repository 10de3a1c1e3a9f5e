-- `get` lends the text to the call on a shelf.
-- Assumes nothing.
use lib.ListN.{length}
use Rattle.shelf.specs.Runs.{getting}
use Rattle.shelf_file.proofs.Left.{other-got, got}
use Rattle.shelf_file.proofs.get.Goals as goal

pub returns-then-file-ne-SIZE : goal.returns-then-file-ne-SIZE
returns-then-file-ne-SIZE c = let all = (other-got (getting c.args.label (length c.args.out.now)) c.args.file.now c.if-file-ne-SIZE.true (length c.args.out.now)
    (c.fill.ensures.after (λ _ e. e))) in record { result_value = all.0; out_value = all.1 }

pub returns : goal.returns
returns c = let all = (got (getting c.args.label (length c.args.out.now)) c.args.file.now c.if-file-ne-SIZE.false (length c.args.out.now)
    c.words_in-words.ensures (c.get_words.ensures.result_value, c.get_words.ensures.out_value)) in record { result_value = all.0; out_value = all.1 }
