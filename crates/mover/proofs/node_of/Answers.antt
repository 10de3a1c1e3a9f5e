-- `node_of` gives the node of an item line.
-- Assumes nothing.
use native.Mathlib.Omega.{arith}
use Rattle.editions.specs.Told.{NumberAt}
use Rattle.editions.proofs.Places.{as_told}
use Rattle.editions.proofs.Fields.{label-room, node-of_none, node-of_no, node-of_is}
use Rattle.mover.proofs.node_of.Goals as goal

pub returns-then-letter-ne77 : goal.returns-then-letter-ne77
returns-then-letter-ne77 c = λ k e. node-of_none c.args.line.now c.letter.ensures c.if-letter-ne77.true e

pub number_field-requires : goal.number_field-requires
number_field-requires c = label-room c.args.line.now 0 c.letter.ensures c.if-letter-ne77.false (omega arith) (omega arith)

pub returns-in-None : goal.returns-in-None
returns-in-None c = λ k e. node-of_no c.args.line.now c.letter.ensures c.if-letter-ne77.false
    (as_told (NumberAt c.args.line.now 2) c.number_field.ensures c.in-None.is) e

pub returns-in-Some : goal.returns-in-Some
returns-in-Some c = λ k e. node-of_is c.args.line.now c.letter.ensures c.if-letter-ne77.false
    (as_told (NumberAt c.args.line.now 2) c.number_field.ensures c.in-Some.is) e
