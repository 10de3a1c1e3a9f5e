-- `read_root` gives what `tree` gives.
-- Assumes nothing.
use Rattle.tree.proofs.Nodes.{root_is}
use native.Mathlib.Omega.{arith}
use Rattle.file.proofs.read_root.Goals as goal

pub read_children-requires : goal.read_children-requires
read_children-requires c = omega (arith, c.requires)

pub returns : goal.returns
returns c = root_is _ _ _ _ _ c.read_children.ensures
