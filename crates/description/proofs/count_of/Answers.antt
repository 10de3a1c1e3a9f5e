-- `count_of` says what is found of a channel and a resource.
-- Assumes nothing.
use mathlib.Core.Path.{sym, ap, ◌∙◌}
use Rattle.machine.proofs.Laws.{was}
use Rattle.file.specs.Asking.{good}
use Rattle.description.specs.Told.{told}
use Rattle.description.proofs.Ways.{count-refused, count-none, count-some}
use Rattle.description.proofs.count_of.Goals as goal

pub returns-in-Err : goal.returns-in-Err
returns-in-Err c = count-refused _ _ _ (sym (was told c.read_description.ensures c.in-Err.is))

pub returns-in-Ok-None : goal.returns-in-Ok-None
returns-in-Ok-None c = count-none _ _ _ (ap good (sym c.in-Ok-None.field-0-is) ∙ sym (was told c.read_description.ensures c.in-Ok-None.is))

pub returns-in-Ok-Some : goal.returns-in-Ok-Some
returns-in-Ok-Some c = count-some _ _ _ (ap good (sym c.in-Ok-Some.field-0-is) ∙ sym (was told c.read_description.ensures c.in-Ok-Some.is))
