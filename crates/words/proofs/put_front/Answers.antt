-- `put_front` stores as `stored` says.
-- Assumes nothing.
use Rattle.words.proofs.Putting.{all-stored, part-stored}
use Rattle.words.proofs.put_front.Goals as goal

pub returns-then-words-room : goal.returns-then-words-room
returns-then-words-room c = all-stored _ _ c.if-words-room.true c.store.ensures

pub returns-else-words-room : goal.returns-else-words-room
returns-else-words-room c = part-stored _ _ c.store-else-words-room.ensures
