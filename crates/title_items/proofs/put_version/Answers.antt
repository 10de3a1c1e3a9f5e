-- `put_version` puts the declared type, the length and the data.
-- Assumes nothing.
use mathlib.Core.Path.{refl}
use Rattle.room.proofs.Counting.{put_two}
use Rattle.vlq.proofs.Sized.{put-block}
use Rattle.title_items.proofs.put_version.Goals as goal

pub returns : goal.returns
returns c = put_two _ _ c.put_number-a.ensures (put-block _ _ refl c.put_number-b.ensures c.put_bytes.ensures)
