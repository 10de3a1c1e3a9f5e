-- `is_labelled` judges a label and what stands behind it.
-- Assumes nothing.
use native.Mathlib.Omega.{arith}
use Rattle.editions.specs.Told.{NumberAt, NameAt}
use Rattle.editions.proofs.Places.{as_told}
use Rattle.editions.proofs.Fields.{label-room, label-none, standard-no, standard-is, custom-no, custom-is}
use Rattle.editions.proofs.is_labelled.Goals as goal

pub overflow_add-at : goal.overflow_add-at
overflow_add-at c = omega (arith, label-room c.args.line.now _ c.letter-b.ensures c.if-b-eq83.true (omega arith) (omega arith))

pub number_field-requires : goal.number_field-requires
number_field-requires c = label-room c.args.line.now _ c.letter-b.ensures c.if-b-eq83.true (omega arith) (omega arith)

pub is_tail-requires : goal.is_tail-requires
is_tail-requires c = (as_told (NumberAt c.args.line.now _) c.number_field.ensures c.in-Some.is).field.inside

pub returns-in-None : goal.returns-in-None
returns-in-None c = standard-no c.args.line.now _ c.letter-b.ensures c.if-b-eq83.true
    (as_told (NumberAt c.args.line.now _) c.number_field.ensures c.in-None.is)

pub returns-in-Some : goal.returns-in-Some
returns-in-Some c = standard-is c.args.line.now _ c.letter-b.ensures c.if-b-eq83.true
    (as_told (NumberAt c.args.line.now _) c.number_field.ensures c.in-Some.is) c.is_tail.ensures

pub overflow_add-at-then-b-eq67 : goal.overflow_add-at-then-b-eq67
overflow_add-at-then-b-eq67 c = omega (arith, label-room c.args.line.now _ c.letter-b.ensures c.if-b-eq67.true (omega arith) (omega arith))

pub name_field-requires : goal.name_field-requires
name_field-requires c = label-room c.args.line.now _ c.letter-b.ensures c.if-b-eq67.true (omega arith) (omega arith)

pub is_tail-requires-in-Some-name_field : goal.is_tail-requires-in-Some-name_field
is_tail-requires-in-Some-name_field c = (as_told (NameAt c.args.line.now _) c.name_field.ensures c.in-Some-name_field.is).field.inside

pub returns-in-None-name_field : goal.returns-in-None-name_field
returns-in-None-name_field c = custom-no c.args.line.now _ c.letter-b.ensures c.if-b-eq67.true
    (as_told (NameAt c.args.line.now _) c.name_field.ensures c.in-None-name_field.is)

pub returns-in-Some-name_field : goal.returns-in-Some-name_field
returns-in-Some-name_field c = custom-is c.args.line.now _ c.letter-b.ensures c.if-b-eq67.true (as_told (NameAt c.args.line.now _) c.name_field.ensures c.in-Some-name_field.is) c.is_tail-in-Some-name_field.ensures

pub returns : goal.returns
returns c = label-none c.args.line.now _ c.letter-b.ensures c.if-b-eq83.false c.if-b-eq67.false
