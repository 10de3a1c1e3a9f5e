-- `meta_at` reads three numbers.
-- Assumes nothing.
use Rattle.account.proofs.Ways.{four-left, thrice}
use borrow.Author.Rules.{rules}
use Rattle.account.proofs.meta_at.Goals as goal

pub last_byte-contained-requires : goal.last_byte-contained-requires
last_byte-contained-requires c = ((four-left _ _ c.requires).0, search rules)

pub last_byte-header-requires : goal.last_byte-header-requires
last_byte-header-requires c = (rw c.last_byte-contained.ensures.0 (four-left _ _ c.requires).1, search rules)

pub last_byte-requires : goal.last_byte-requires
last_byte-requires c = (rw (c.last_byte-header.ensures.0, c.last_byte-contained.ensures.0) (four-left _ _ c.requires).2, search rules)

pub returns : goal.returns
returns c = thrice _ _ c.last_byte-contained.ensures.0 c.last_byte-header.ensures.0 c.last_byte.ensures.0
