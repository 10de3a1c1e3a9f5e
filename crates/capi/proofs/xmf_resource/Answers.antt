-- `xmf_resource` leaves the outcome of the copy.
-- Assumes nothing.
use Rattle.promises.specs.Calls.{copy-resource}
use Rattle.capi.proofs.Calls.{leaves}
use Rattle.capi.proofs.xmf_resource.Goals as goal

pub returns : goal.returns
returns c = leaves _ (copy-resource _ c.copy_resource.result (record { answers = c.copy_resource.ensures.answer; in_nodes = c.copy_resource.ensures.nodes; in_items = c.copy_resource.ensures.items })
    c.copy_resource.ensures.out) c.put_resolved.ensures
