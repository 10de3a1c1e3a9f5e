-- `xmf_mend` leaves the outcome of mending.
-- Assumes nothing.
use Rattle.promises.specs.Calls.{mend-header}
use Rattle.capi.proofs.Calls.{leaves}
use Rattle.capi.proofs.xmf_mend.Goals as goal

pub returns : goal.returns
returns c = leaves _ (mend-header c.mend.result c.mend.ensures.answer c.mend.ensures.nodes c.mend.ensures.items c.mend.ensures.copy c.mend.ensures.lines) c.put_mended.ensures
