-- `xmf_judge` leaves the outcome of the verdict.
-- Assumes nothing.
use Rattle.promises.specs.Calls.{judge}
use Rattle.capi.proofs.Calls.{leaves}
use Rattle.capi.proofs.xmf_judge.Goals as goal

pub returns : goal.returns
returns c = leaves _ (judge c.judge.result (record { answers = c.judge.ensures.answer; in_nodes = c.judge.ensures.nodes; in_items = c.judge.ensures.items })) c.put_number.ensures
