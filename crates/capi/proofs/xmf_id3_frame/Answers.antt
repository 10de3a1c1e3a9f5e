-- `xmf_id3_frame` leaves the outcome of a frame.
-- Assumes nothing.
use mathlib.Core.List.{[]}
use Rattle.promises.specs.Calls as calls
use Rattle.capi.proofs.Calls.{leaves}
use Rattle.capi.proofs.xmf_id3_frame.Goals as goal

pub returns : goal.returns
returns c = leaves _ (calls.tag-frame {f = []} _ _ c.frame.result c.frame.ensures) c.put_frame.ensures
