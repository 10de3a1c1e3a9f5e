-- `measure_tree` goes from the last row to the first. The invariant: the rows from row i on are measured, and the stack has the sizes of the nodes that no other of these holds.
-- Assumes nothing.
use Rattle.title_nodes.specs.Passes.{task}
use Rattle.title_nodes.proofs.Passes.{Measuring}
use Rattle.title_nodes.proofs.measure_tree.Given as goal

abbrev pub invariant-loop-i : goal.invariant-loop-i
invariant-loop-i l = Measuring (task l.file l.nodes l.items l.count l.total l.row l.title) l.i l.end l.top l.sizes l.metadata l.packed l.same l.headers l.lengths
