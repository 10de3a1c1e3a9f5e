-- `put_shown_char` puts a character of a converted text.
-- Assumes nothing.
use Rattle.room.proofs.Counting.{counts-as}
use Rattle.text.proofs.Shown.{shown-low, shown-high}
use Rattle.text.proofs.put_shown_char.Goals as goal

pub returns-then-c-lt128 : goal.returns-then-c-lt128
returns-then-c-lt128 c = counts-as (shown-low _ c.if-c-lt128.true) c.put_escaped_byte.ensures

pub returns : goal.returns
returns c = counts-as (shown-high _ c.if-c-lt128.false) c.put8.ensures
