-- Of the whole, the words from some word on are still to be put.
-- Assumes nothing.
use lib.ListN.{drop}
use Rattle.room.proofs.Counting.{Going}
use Rattle.shelf_file.specs.Layout.{eights}
use Rattle.shelf_file.proofs.put_words.Given as goal

abbrev pub invariant-loop-word : goal.invariant-loop-word
invariant-loop-word l = Going l.initial.out l.out l.initial.next l.next (eights l.words) (eights (drop l.word-index l.words))
