-- `put` lends the text to the call on a shelf, and puts the words of the cards back.
-- Assumes nothing.
use Rattle.shelf.specs.Runs.{putting}
use Rattle.shelf.proofs.Rows.{put_keeps}
use Rattle.shelf_file.specs.Layout.{shelf_in}
use Rattle.shelf_file.proofs.Left.{other-answer, other-file, left}
use borrow.Author.Rules.{rules}
use Rattle.shelf_file.proofs.put.Goals as goal

pub returns-then-file-ne-SIZE : goal.returns-then-file-ne-SIZE
returns-then-file-ne-SIZE c = let x = putting c.args.label c.args.sheet.now in
    record {
      result_value = other-answer x c.args.file.now c.if-file-ne-SIZE.true;
      file_value = other-file x c.args.file.now c.if-file-ne-SIZE.true;
    }

pub returns : goal.returns
returns c = let all = (left (putting c.args.label c.args.sheet.now) c.args.file.now c.if-file-ne-SIZE.false
    (put_keeps c.args.label c.args.sheet.now (shelf_in c.args.file.now)) c.words_in-words.ensures (c.put_words-outcome.ensures.result_value, (c.put_words-outcome.ensures.words_value, c.put_words-outcome.ensures.text_value))
    (search rules)
    c.put_words.ensures) in record { result_value = all.0; file_value = all.1 }
