-- `put_part` puts the part that it lends.
-- Assumes nothing.
use mathlib.Core.Path.{refl}
use Rattle.room.proofs.Counting.{counts-as, lent-part}
use Rattle.room.proofs.Counting.{counts-as}
use Rattle.room.proofs.put_part.Goals as goal

pub returns : goal.returns
returns c = counts-as (lent-part _ c.args.from _ refl) c.put_bytes.ensures
