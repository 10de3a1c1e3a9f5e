-- `name_field` reads a name that has another field behind it.
-- Assumes nothing.
use native.Mathlib.Omega.{arith}
use Rattle.editions.specs.Sheets.{is_name}
use Rattle.editions.proofs.Places.{next-piece}
use Rattle.editions.proofs.Fields.{no_other}
use Rattle.editions.proofs.Texts.{name-none, name-bad, name-is}
use Rattle.editions.proofs.name_field.Goals as goal

pub returns-then-line-end : goal.returns-then-line-end
returns-then-line-end c = no_other c.args.line.now _ (next-piece 0x09 c.args.line.now c.args.at (omega arith) c.piece_end-end.ensures.1) is_name c.if-line-end.true

pub returns-then-end-at : goal.returns-then-end-at
returns-then-end-at c = let piece = next-piece 0x09 c.args.line.now c.args.at (omega arith)
    c.piece_end-end.ensures.1 in
    name-none c.args.line.now _ piece c.if-line-end.false (omega (arith, c.piece_end-end.ensures.1))

pub returns-then-not-is_text : goal.returns-then-not-is_text
returns-then-not-is_text c = name-bad c.args.line.now _ (next-piece 0x09 c.args.line.now c.args.at (omega arith) c.piece_end-end.ensures.1)
    c.if-line-end.false c.if-end-at.false c.is_text.ensures c.if-not-is_text.true

pub returns : goal.returns
returns c = name-is c.args.line.now _ (next-piece 0x09 c.args.line.now c.args.at (omega arith) c.piece_end-end.ensures.1)
    c.if-line-end.false c.if-end-at.false c.is_text.ensures c.if-not-is_text.false
