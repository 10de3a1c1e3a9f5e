-- `end_node` gives what is left of a folder whose children were read.
-- Assumes nothing.
use Rattle.metadata.proofs.Gives.{no, yes}
use Rattle.tree.proofs.Nodes.{end-left, end-reached}
use native.Mathlib.Omega.{arith}
use Rattle.tree.proofs.end_node.Goals as goal

pub returns-then-place-end : goal.returns-then-place-end
returns-then-place-end c = λ s t u. no (end-left _ _ _ _ _ c.if-place-end.true)

pub returns : goal.returns
returns c = λ s t u. yes (end-reached _ _ _ _ _ c.if-place-end.false) (omega (arith, c.requires))
