-- `xmf_voice_count` leaves the outcome of the count.
-- Assumes nothing.
use Rattle.promises.specs.Calls.{count-for}
use Rattle.capi.proofs.Calls.{leaves}
use Rattle.capi.proofs.xmf_voice_count.Goals as goal

pub returns : goal.returns
returns c = leaves _ (count-for _ _ _ c.count_for.result (record { answers = c.count_for.ensures.answer; in_nodes = c.count_for.ensures.nodes; in_items = c.count_for.ensures.items })) c.put_number.ensures
