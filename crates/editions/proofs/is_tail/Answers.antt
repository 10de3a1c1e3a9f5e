-- `is_tail` judges version, format and text.
-- Assumes nothing.
use native.Mathlib.Omega.{arith}
use Rattle.editions.specs.Told.{NumberAt}
use Rattle.editions.proofs.Places.{next-piece, as_told, absent}
use Rattle.editions.proofs.Fields.{tail-first, tail-second, tail-odd, tail_more, tail-last}
use Rattle.editions.proofs.is_tail.Goals as goal

pub number_field-requires-2 : goal.number_field-requires-2
number_field-requires-2 c = (as_told (NumberAt c.args.line.now c.args.at)
    c.number_field.ensures c.in-Some.is).field.inside

pub returns-then-format-ne0 : goal.returns-then-format-ne0
returns-then-format-ne0 c = tail-odd c.args.line.now _ (as_told (NumberAt c.args.line.now c.args.at) c.number_field.ensures c.in-Some.is)
    (as_told (NumberAt c.args.line.now _) c.number_field-2.ensures c.in-Some-number_field.is) c.if-format-ne0.true

pub piece_end-end-requires : goal.piece_end-end-requires
piece_end-end-requires c = (as_told (NumberAt c.args.line.now _)
    c.number_field-2.ensures c.in-Some-number_field.is).field.inside

pub returns-then-end-line : goal.returns-then-end-line
returns-then-end-line c = let told = as_told (NumberAt c.args.line.now _) c.number_field-2.ensures c.in-Some-number_field.is in
    let told' = as_told (NumberAt c.args.line.now c.args.at) c.number_field.ensures c.in-Some.is in
    let piece = next-piece 0x09 c.args.line.now _ (omega (arith, told.field.inside)) c.piece_end-end.ensures.1 in
    tail_more c.args.line.now _ told' told c.if-format-ne0.false piece c.if-end-line.true

pub is_text-requires : goal.is_text-requires
is_text-requires c = (omega (arith, c.piece_end-end.ensures.1), omega (arith, c.piece_end-end.ensures.0))

pub returns-in_default : goal.returns-in_default
returns-in_default c = let told = as_told (NumberAt c.args.line.now c.args.at)
    c.number_field.ensures (absent c.in_default.not-Some) in
    tail-first c.args.line.now c.args.at told

pub returns-in_default-number_field : goal.returns-in_default-number_field
returns-in_default-number_field c = tail-second c.args.line.now _ (as_told (NumberAt c.args.line.now c.args.at) c.number_field.ensures c.in-Some.is)
    (as_told (NumberAt c.args.line.now _) c.number_field-2.ensures (absent c.in_default-number_field.not-Some))

pub returns : goal.returns
returns c = let told = as_told (NumberAt c.args.line.now _) c.number_field-2.ensures c.in-Some-number_field.is in
    let told' = as_told (NumberAt c.args.line.now c.args.at) c.number_field.ensures c.in-Some.is in
    let piece = next-piece 0x09 c.args.line.now _ (omega (arith, told.field.inside)) c.piece_end-end.ensures.1 in
    tail-last c.args.line.now _ told' told c.if-format-ne0.false piece c.if-end-line.false c.is_text.ensures
