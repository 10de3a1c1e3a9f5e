-- `char8` gives what `first8` gives of the bytes from a place on.
-- Assumes nothing.
use mathlib.Core.Path.{◌∙◌}
use Rattle.utf16.proofs.Tails.{no_byte, one_byte, tail-byte, two_bytes, three_bytes, four_bytes, wrong_byte}
use Rattle.utf16.proofs.char8.Goals as goal

pub returns-then-text-at : goal.returns-then-text-at
returns-then-text-at c = no_byte c.args.text.now c.args.at c.if-text-at.true

pub returns-then-b-lt128 : goal.returns-then-b-lt128
returns-then-b-lt128 c = one_byte c.args.text.now c.args.at c.if-text-at.false c.wide-b.ensures.0 c.if-b-lt128.true

pub returns-then-b-lt192 : goal.returns-then-b-lt192
returns-then-b-lt192 c = tail-byte c.args.text.now c.args.at c.if-text-at.false c.wide-b.ensures.0 c.if-b-lt128.false c.if-b-lt192.true

pub returns-then-b-lt224 : goal.returns-then-b-lt224
returns-then-b-lt224 c = c.read_tails.ensures ∙ two_bytes c.args.text.now c.args.at c.if-text-at.false c.wide-b.ensures.0 c.if-b-lt192.false c.if-b-lt224.true

pub returns-then-b-lt240 : goal.returns-then-b-lt240
returns-then-b-lt240 c = c.read_tails-then-b-lt240.ensures ∙ three_bytes c.args.text.now c.args.at c.if-text-at.false c.wide-b.ensures.0 c.if-b-lt224.false c.if-b-lt240.true

pub returns-then-b-lt248 : goal.returns-then-b-lt248
returns-then-b-lt248 c = c.read_tails-then-b-lt248.ensures ∙ four_bytes c.args.text.now c.args.at c.if-text-at.false c.wide-b.ensures.0 c.if-b-lt240.false c.if-b-lt248.true

pub returns : goal.returns
returns c = wrong_byte c.args.text.now c.args.at c.if-text-at.false c.wide-b.ensures.0 c.if-b-lt248.false
