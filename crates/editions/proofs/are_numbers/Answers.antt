-- `are_numbers` judges the numbers one by one. The invariant: what is left of them is the whole.
-- Assumes nothing.
use mathlib.Core.Path.{◌≡◌, refl, sym, ap, ◌∙◌}
use Prim.Native.Nat.{◌+◌, ◌-◌}
use native.Mathlib.Omega.{arith}
use lib.ListN.{replicate}
use borrow.Author.Tests.{ne_eqb}
use Rattle.editions.specs.Sheets.{is_number, fits}
use Rattle.editions.specs.Reads.{number_of, fields_at}
use Rattle.editions.specs.Told.{NumberAt}
use Rattle.editions.proofs.Places.{next-piece, as_told, absent}
use Rattle.editions.proofs.Judging.{lent}
use Rattle.editions.proofs.Fields.{numbers-no, numbers_on, numbers_more, numbers-last}
use Rattle.editions.proofs.are_numbers.Goals as goal

pub loop-i-init : goal.loop-i-init
loop-i-init c = let e : c.args.count - (1 - 1) ≡ c.args.count = omega arith in (rw e refl, omega arith)

pub number_field-requires : goal.number_field-requires
number_field-requires c = c.loop-i.invariant.1

pub returns-in_default : goal.returns-in_default
returns-in_default c = let told = as_told (NumberAt c.args.line.now c.loop-i.from) c.number_field.ensures (absent c.in_default.not-Some) in
    sym (c.loop-i.invariant.0 ∙ numbers-no c.args.line.now c.loop-i.from (c.args.count - (c.loop-i.i - 1)) (omega arith) told)

pub loop-i-preserved : goal.loop-i-preserved
loop-i-preserved c = let told = as_told (NumberAt c.args.line.now c.loop-i.from) c.number_field.ensures c.in-Some.is in
    let e : c.args.count - (c.loop-i.i - 1) - 1 ≡ c.args.count - (c.loop-i.i + 1 - 1) = omega arith in (
      c.loop-i.invariant.0 ∙ numbers_on c.args.line.now c.loop-i.from (c.args.count - (c.loop-i.i - 1)) (omega arith) told
          ∙ ap (λ k. fits (replicate k is_number) (fields_at c.args.line.now c.in-Some.next)) e,
      told.field.inside,
    )

pub piece_end-end-requires : goal.piece_end-end-requires
piece_end-end-requires c = c.loop-i.invariant.1

pub returns-then-end-line : goal.returns-then-end-line
returns-then-end-line c = let piece = next-piece 0x09 c.args.line.now c.loop-i.from (c.loop-i.invariant.1) c.piece_end-end.ensures.1 in
    c.is_some.ensures ∙ numbers-last c.args.line.now c.loop-i.from (c.args.count - (c.loop-i.i - 1)) (omega arith) piece (omega arith)
    (c.read_number.ensures ∙ ap number_of (lent c.args.line.now _ _ (omega (arith, c.piece_end-end.ensures.1)) c.piece_end-end.ensures.0)) ∙ sym c.loop-i.invariant.0

pub returns-else-end-line : goal.returns-else-end-line
returns-else-end-line c = let piece = next-piece 0x09 c.args.line.now c.loop-i.from (c.loop-i.invariant.1) c.piece_end-end.ensures.1 in
    ne_eqb _ _ c.if-end-line.false ∙ sym (c.loop-i.invariant.0 ∙ numbers_more c.args.line.now c.loop-i.from (c.args.count - (c.loop-i.i - 1)) (omega arith) piece (omega (arith, c.piece_end-end.ensures.0, c.if-end-line.false)))
