-- `make_item_tag` answers the frames of the tag that is an item row's data, or the refusal; nothing where the row is kept back.
-- Assumes nothing.
use mathlib.Core.Path.{refl}
use Rattle.lines.proofs.Ending.{gives_as}
use Rattle.needs.proofs.Needing.{nothing-printed}
use Rattle.frames.proofs.Tagging.{tag-kept, tag-lent}
use Rattle.frames.proofs.make_item_tag.Goals as goal

pub returns-then-is_withheld : goal.returns-then-is_withheld
returns-then-is_withheld c = gives_as (nothing-printed _ (tag-kept _ _ _ _ _ c.is_withheld.ensures c.if-is_withheld.true)) c.hidden.ensures

pub returns : goal.returns
returns c = gives_as (tag-lent _ _ _ _ _ c.is_withheld.ensures c.if-is_withheld.false _ refl) c.make_tag.ensures
