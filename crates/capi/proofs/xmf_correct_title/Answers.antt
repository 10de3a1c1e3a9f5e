-- `xmf_correct_title` leaves the outcome of the correction.
-- Assumes nothing.
use Rattle.promises.specs.Calls.{correct-title}
use Rattle.capi.proofs.Calls.{leaves}
use Rattle.capi.proofs.xmf_correct_title.Goals as goal

pub returns : goal.returns
returns c = leaves _ (correct-title _ _ c.correct_title.result (record { answers = c.correct_title.ensures.answer; in_buffer = c.correct_title.ensures.out }) c.correct_title.ensures.nodes
    c.correct_title.ensures.items) c.put_size.ensures
