-- `put_too_long` puts the line of a file that is too long.
-- Assumes nothing.
use Rattle.room.proofs.Counting.{counts-as}
use Rattle.xmf_sheet.proofs.Fits.{long-is}
use Rattle.xmf_sheet.proofs.put_too_long.Goals as goal

pub returns : goal.returns
returns c = counts-as long-is c.put_bytes.ensures
