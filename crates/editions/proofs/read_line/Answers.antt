-- `read_line` gives what a line is.
-- Assumes nothing.
use native.Mathlib.Omega.{arith}
use Rattle.editions.specs.Told.{NumberAt}
use Rattle.editions.proofs.Places.{as_told}
use Rattle.editions.proofs.Fields.{label-room, line-none, node-no, node-bad, node-is, item-no, item-bad, item-is}
use Rattle.editions.proofs.read_line.Goals as goal

pub number_field-requires : goal.number_field-requires
number_field-requires c = label-room c.args.line.now 0 c.letter-b.ensures c.if-b-eq78.true (omega arith) (omega arith)

pub are_numbers-requires : goal.are_numbers-requires
are_numbers-requires c = ((as_told (NumberAt c.args.line.now 2) c.number_field.ensures c.in-Some.is).field.inside, omega arith)

pub returns-then-are_numbers : goal.returns-then-are_numbers
returns-then-are_numbers c = node-is c.args.line.now c.letter-b.ensures c.if-b-eq78.true
    (as_told (NumberAt c.args.line.now 2) c.number_field.ensures c.in-Some.is)
    c.are_numbers.ensures c.if-are_numbers.true

pub returns-in-None : goal.returns-in-None
returns-in-None c = node-no c.args.line.now c.letter-b.ensures c.if-b-eq78.true
    (as_told (NumberAt c.args.line.now 2) c.number_field.ensures c.in-None.is)

pub returns-else-are_numbers : goal.returns-else-are_numbers
returns-else-are_numbers c = node-bad c.args.line.now c.letter-b.ensures c.if-b-eq78.true
    (as_told (NumberAt c.args.line.now 2) c.number_field.ensures c.in-Some.is)
    c.are_numbers.ensures c.if-are_numbers.false

pub number_field-requires-then-b-eq77 : goal.number_field-requires-then-b-eq77
number_field-requires-then-b-eq77 c = label-room c.args.line.now 0 c.letter-b.ensures c.if-b-eq77.true (omega arith) (omega arith)

pub is_labelled-requires : goal.is_labelled-requires
is_labelled-requires c = (as_told (NumberAt c.args.line.now 2) c.number_field-then-b-eq77.ensures c.in-Some-number_field.is).field.inside

pub returns-then-is_labelled : goal.returns-then-is_labelled
returns-then-is_labelled c = item-is c.args.line.now c.letter-b.ensures c.if-b-eq77.true
    (as_told (NumberAt c.args.line.now 2) c.number_field-then-b-eq77.ensures c.in-Some-number_field.is)
    c.is_labelled.ensures c.if-is_labelled.true

pub returns-in-None-number_field : goal.returns-in-None-number_field
returns-in-None-number_field c = item-no c.args.line.now c.letter-b.ensures c.if-b-eq77.true
    (as_told (NumberAt c.args.line.now 2) c.number_field-then-b-eq77.ensures c.in-None-number_field.is)

pub returns-else-is_labelled : goal.returns-else-is_labelled
returns-else-is_labelled c = item-bad c.args.line.now c.letter-b.ensures c.if-b-eq77.true
    (as_told (NumberAt c.args.line.now 2) c.number_field-then-b-eq77.ensures c.in-Some-number_field.is)
    c.is_labelled.ensures c.if-is_labelled.false

pub returns : goal.returns
returns c = line-none c.args.line.now c.letter-b.ensures c.if-b-eq78.false c.if-b-eq77.false
