-- `put_tree` goes from the first row to the last. The invariant: the rows before row i are appended.
-- Assumes nothing.
use Rattle.title_nodes.specs.Passes.{task}
use Rattle.title_nodes.proofs.Passes.{Putting}
use Rattle.title_nodes.proofs.put_tree.Given as goal

abbrev pub invariant-loop-i : goal.invariant-loop-i
invariant-loop-i l = Putting (task l.file l.nodes l.items l.count l.total l.row l.title) l.initial.out l.out l.to l.run l.first l.i
