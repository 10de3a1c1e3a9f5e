-- `Cursor::byte` gives the byte, and the cursor after it.
-- Assumes nothing.
use Rattle.cursor.proofs.Cursor.byte.Goals as goal

pub returns : goal.returns
returns c = record { is = c.wide-value.ensures.0; on = c.on-next.ensures }
