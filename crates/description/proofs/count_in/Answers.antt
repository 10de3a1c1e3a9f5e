-- `count_in` gives what `count_in` gives.
-- Assumes nothing.
use mathlib.Core.Bool.{not}
use mathlib.Core.Path.{ap}
use Rattle.description.proofs.Exits.{row_other, row-text, row_count}
use Rattle.description.proofs.count_in.Goals as goal

pub returns-then-not-is_field : goal.returns-then-not-is_field
returns-then-not-is_field c = row_other _ _ _ _ c.is_field.ensures (ap not c.if-not-is_field.true)

pub returns-then-not-is_binary : goal.returns-then-not-is_binary
returns-then-not-is_binary c = row-text _ _ _ _ c.is_field.ensures (ap not c.if-not-is_field.false) c.is_binary.ensures (ap not c.if-not-is_binary.true)

pub count_of-requires : goal.count_of-requires
count_of-requires c = c.requires.0

pub returns : goal.returns
returns c = row_count _ _ _ _ c.is_field.ensures (ap not c.if-not-is_field.false) c.is_binary.ensures (ap not c.if-not-is_binary.false) c.count_of.ensures
