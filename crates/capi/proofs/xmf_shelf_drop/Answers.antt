-- `xmf_shelf_drop` leaves what `drop` leaves.
-- Assumes nothing.
use mathlib.Core.Path.{refl}
use Rattle.shelf.specs.Shelf.{label}
use Rattle.shelf.specs.Runs.{dropping}
use Rattle.capi.proofs.Calls.{shelf-leaves}
use Rattle.capi.proofs.xmf_shelf_drop.Goals as goal

pub returns : goal.returns
returns c = shelf-leaves (dropping (label c.args.desk c.args.call c.args.boat)) refl _ c.drop_words.result (c.drop_words.ensures.result_value, (c.drop_words.ensures.words_value, c.drop_words.ensures.text_value)) c.put_outcome.ensures
