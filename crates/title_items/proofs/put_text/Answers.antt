-- `put_text` puts string format and data.
-- Assumes nothing.
use Rattle.room.proofs.Counting.{put_two}
use Rattle.title_items.proofs.put_text.Goals as goal

pub returns : goal.returns
returns c = put_two _ _ c.put_number-a.ensures c.put_bytes.ensures
