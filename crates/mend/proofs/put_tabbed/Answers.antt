-- A tab, and a number.
-- Assumes nothing.
use Rattle.mend.proofs.Ways.{tabbed-is}
use Rattle.mend.proofs.put_tabbed.Goals as goal

pub returns : goal.returns
returns c = tabbed-is _ c.put_byte-a.ensures c.put_decimal.ensures
