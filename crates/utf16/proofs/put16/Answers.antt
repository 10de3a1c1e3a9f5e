-- `put16` puts the bytes of the units that `utf16` has.
-- Assumes nothing.
use Rattle.room.proofs.Counting.{counts-then, counts-as}
use Rattle.utf16.proofs.Sixteen.{short-bytes, long-bytes}
use Rattle.utf16.proofs.put16.Goals as goal

pub returns-then-c-lt65536 : goal.returns-then-c-lt65536
returns-then-c-lt65536 c = counts-as (short-bytes _ c.if-c-lt65536.true) c.put_unit.ensures

pub returns : goal.returns
returns c = counts-as (long-bytes _ c.if-c-lt65536.false) (counts-then c.put_unit-one.ensures c.put_unit-2.ensures)
