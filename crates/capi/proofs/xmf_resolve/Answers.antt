-- `xmf_resolve` leaves the outcome of Resolve.
-- Assumes nothing.
use Rattle.promises.specs.Calls.{resolve-row}
use Rattle.capi.proofs.Calls.{leaves}
use Rattle.capi.proofs.xmf_resolve.Goals as goal

pub returns : goal.returns
returns c = leaves _ (resolve-row _ c.resolve.result (record { answers = c.resolve.ensures.answer; in_nodes = c.resolve.ensures.nodes; in_items = c.resolve.ensures.items })) c.put_resolved.ensures
