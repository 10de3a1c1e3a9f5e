-- `xmf_id3_count` leaves the outcome of the count of frames.
-- Assumes nothing.
use mathlib.Core.List.{[]}
use Rattle.promises.specs.Calls as calls
use Rattle.capi.proofs.Calls.{leaves}
use Rattle.capi.proofs.xmf_id3_count.Goals as goal

pub returns : goal.returns
returns c = leaves _ (calls.count-frames {f = []} _ c.frame_count.result c.frame_count.ensures) c.put_size.ensures
