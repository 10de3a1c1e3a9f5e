-- `number_field` reads a number that has another field behind it.
-- Assumes nothing.
use mathlib.Core.Path.{sym, ap, ◌∙◌}
use native.Mathlib.Omega.{arith}
use Rattle.editions.specs.Sheets.{is_number}
use Rattle.editions.specs.Reads.{number_of}
use Rattle.editions.proofs.Places.{next-piece}
use Rattle.editions.proofs.Judging.{lent}
use Rattle.editions.proofs.Fields.{no_other, number-no, number_is}
use Rattle.editions.proofs.number_field.Goals as goal

pub returns-then-line-end : goal.returns-then-line-end
returns-then-line-end c = no_other c.args.line.now _ (next-piece 0x09 c.args.line.now c.args.at (omega arith) c.piece_end-end.ensures.1) is_number c.if-line-end.true

pub returns-in_err-v : goal.returns-in_err-v
returns-in_err-v c = rw c.from_residual.ensures (number-no c.args.line.now _ (next-piece 0x09 c.args.line.now c.args.at (omega arith) c.piece_end-end.ensures.1) c.if-line-end.false
    (sym c.in_err-v.was ∙ c.read_number.ensures ∙ ap number_of (lent c.args.line.now _ _ (omega (arith, c.piece_end-end.ensures.1)) c.piece_end-end.ensures.0)))

pub returns : goal.returns
returns c = number_is c.args.line.now _ (next-piece 0x09 c.args.line.now c.args.at (omega arith) c.piece_end-end.ensures.1) c.if-line-end.false
    (sym c.in_ok-v.was ∙ c.read_number.ensures ∙ ap number_of (lent c.args.line.now _ _ (omega (arith, c.piece_end-end.ensures.1)) c.piece_end-end.ensures.0))
