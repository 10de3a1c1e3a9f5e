-- `sum` adds word by word. The invariant: the sum so far and the words that are left.
-- Assumes nothing.
use Rattle.title_nodes.proofs.Passes.{Adding}
use Rattle.title_nodes.proofs.sum.Given as goal

abbrev pub invariant-loop-word : goal.invariant-loop-word
invariant-loop-word l = Adding l.word-items l.r l.word-index
