-- `is_card_faulty` looks at the card, and for its label from the next one on.
-- Assumes nothing.
use mathlib.Core.Path.{refl, ◌∙◌}
use Prim.Native.Nat.{◌+◌}
use lib.ListN.{get_or}
use Rattle.shelf.specs.Shelf.{fresh_card, is_for, label_of}
use native.Mathlib.Omega.{arith}
use Rattle.shelf.proofs.Search.{faulty-free, faulty-long, faulty-twice, some-from}
use Rattle.shelf.proofs.is_card_faulty.Goals as goal

pub returns-then-c-eq0 : goal.returns-then-c-eq0
returns-then-c-eq0 c = faulty-free _ refl _ c.if-c-eq0.true

pub returns-then-part-c : goal.returns-then-part-c
returns-then-part-c c = faulty-long _ refl _ c.if-c-eq0.false c.if-part-c.true

pub returns : goal.returns
returns c =
    some-from (is_for (label_of (get_or c.args.cards.now c.args.i fresh_card))) c.args.cards.now (c.args.i + 1) c.find_from.result (omega arith) (rw c.label.ensures at c.find_from.ensures)
    ∙ faulty-twice c.args.part refl _ c.if-c-eq0.false c.if-part-c.false
