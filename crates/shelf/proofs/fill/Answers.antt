-- `fill` stores the sheet and clears what is behind it.
-- Assumes nothing.
use mathlib.Core.Path.{◌∙◌}
use Rattle.shelf.proofs.Parts.{filled}
use Rattle.shelf.proofs.fill.Goals as goal

pub returns : goal.returns
returns c = c.fill_from.ensures ∙ filled c.args.out.now c.args.sheet.now c.requires (cc)
