-- `give` lends that part of the text to `fill`.
-- Assumes nothing.
use native.Mathlib.Omega.{arith}
use lib.ListN.{length}
use Rattle.shelf.proofs.Ways.{given-none, given-all}
use Rattle.shelf.proofs.give.Goals as goal

pub returns-then-out-size : goal.returns-then-out-size
returns-then-out-size c = given-none c.args.text.now c.args.at c.args.size (length c.args.out.now) c.requires (omega arith) (c.fill.ensures.after (λ _ e. e))

pub returns : goal.returns
returns c = given-all c.args.text.now c.args.at c.args.size (length c.args.out.now) c.requires (omega arith) c.fill-2.ensures
