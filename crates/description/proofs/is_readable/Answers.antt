-- `is_readable` says whether the item is readable.
-- Assumes nothing.
use mathlib.Core.Path.{◌∙◌}
use Rattle.description.proofs.Ways.{read_is}
use Rattle.description.proofs.is_readable.Goals as goal

pub returns : goal.returns
returns c = c.is_ok.ensures.value ∙ read_is 0 0 _ _ _ c.read_description.ensures
