-- `xmf_read_tree` leaves the outcome of the first question.
-- Assumes nothing.
use Rattle.promises.specs.Calls.{read-tree}
use Rattle.capi.proofs.Calls.{leaves}
use Rattle.capi.proofs.xmf_read_tree.Goals as goal

pub returns : goal.returns
returns c = leaves _ (read-tree c.read_tree.result c.read_tree.ensures.answer c.read_tree.ensures.nodes c.read_tree.ensures.items) c.put_tree.ensures
