-- `xmf_shelf_put` leaves what `put` leaves.
-- Assumes nothing.
use mathlib.Core.Path.{refl}
use Rattle.shelf.specs.Shelf.{label}
use Rattle.shelf.specs.Runs.{putting}
use Rattle.capi.proofs.Calls.{shelf-leaves}
use Rattle.capi.proofs.xmf_shelf_put.Goals as goal

pub returns : goal.returns
returns c = shelf-leaves (putting (label c.args.desk c.args.call c.args.boat) c.args.sheet.now) refl _ c.put_words.result (c.put_words.ensures.result_value, (c.put_words.ensures.words_value, c.put_words.ensures.text_value)) c.put_outcome.ensures
