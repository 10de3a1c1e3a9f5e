-- `xmf_find_own` leaves the outcome of the own find.
-- Assumes nothing.
use Rattle.promises.specs.Promises.{find_own}
use Rattle.promises.specs.Calls.{find-own}
use Rattle.capi.proofs.Calls.{asks-standard, asks-custom, leaves}
use Rattle.capi.proofs.xmf_find_own.Goals as goal

pub returns-then-kind-eq0 : goal.returns-then-kind-eq0
returns-then-kind-eq0 c = asks-standard find_own _ _ _ _ c.if-kind-eq0.true
    (leaves _ (find-own _ _ c.find_own_standard.result (record { answers = c.find_own_standard.ensures.answer; in_nodes = c.find_own_standard.ensures.nodes; in_items = c.find_own_standard.ensures.items }))
    c.put_found.ensures)

pub returns-else-kind-eq0 : goal.returns-else-kind-eq0
returns-else-kind-eq0 c = asks-custom find_own _ _ _ _ c.if-kind-eq0.false
    (leaves _ (find-own _ _ c.find_own_custom.result (record { answers = c.find_own_custom.ensures.answer; in_nodes = c.find_own_custom.ensures.nodes; in_items = c.find_own_custom.ensures.items }))
    c.put_found-else-kind-eq0.ensures)
