-- `read_tree` gives what `answer_of` gives of the file's reading.
-- Assumes nothing.
use Rattle.file.proofs.Whole.{tree_is, tree-no}
use Rattle.refusals.proofs.Passing.{passed_on}
use Rattle.file.proofs.read_tree.Goals as goal

pub returns-in_err-s : goal.returns-in_err-s
returns-in_err-s c = record {
  answer = rw (passed_on c.from_residual.ensures.1) (tree-no _ c.read_file.ensures.answer c.in_err-s.was);
  nodes = c.read_file.ensures.nodes;
  items = c.read_file.ensures.items;
}

pub returns : goal.returns
returns c = record {
  answer = tree_is _ c.read_file.ensures.answer c.in_ok-s.was;
  nodes = c.read_file.ensures.nodes;
  items = c.read_file.ensures.items;
}
