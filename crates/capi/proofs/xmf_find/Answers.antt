-- `xmf_find` leaves the outcome of Find.
-- Assumes nothing.
use Rattle.promises.specs.Promises.{find_item}
use Rattle.promises.specs.Calls.{find-item}
use Rattle.capi.proofs.Calls.{asks-standard, asks-custom, leaves}
use Rattle.capi.proofs.xmf_find.Goals as goal

pub returns-then-kind-eq0 : goal.returns-then-kind-eq0
returns-then-kind-eq0 c = asks-standard find_item _ _ _ _ c.if-kind-eq0.true
    (leaves _ (find-item _ _ c.find_standard.result (record { answers = c.find_standard.ensures.answer; in_nodes = c.find_standard.ensures.nodes; in_items = c.find_standard.ensures.items }))
    c.put_found.ensures)

pub returns-else-kind-eq0 : goal.returns-else-kind-eq0
returns-else-kind-eq0 c = asks-custom find_item _ _ _ _ c.if-kind-eq0.false
    (leaves _ (find-item _ _ c.find_custom.result (record { answers = c.find_custom.ensures.answer; in_nodes = c.find_custom.ensures.nodes; in_items = c.find_custom.ensures.items }))
    c.put_found-else-kind-eq0.ensures)
