-- `put_number` puts a tab and the digits.
-- Assumes nothing.
use Rattle.room.proofs.Counting.{counts-then, counts-as}
use Rattle.text.proofs.Numbers.{number_is}
use Rattle.text.proofs.put_number.Goals as goal

pub returns : goal.returns
returns c = counts-as (number_is _) (counts-then c.put_byte-next.ensures c.put_decimal.ensures)
