-- `put_escaped_byte` puts a byte as `escaped` writes it.
-- Assumes nothing.
use mathlib.Core.Path.{sym, ◌∙◌}
use Rattle.room.proofs.Counting.{counts-as}
use Rattle.text.proofs.Escapes.{escaped-plain, escaped-hex}
use Rattle.text.proofs.put_escaped_byte.Goals as goal

pub returns-then-is_plain : goal.returns-then-is_plain
returns-then-is_plain c = counts-as (escaped-plain _ (sym c.is_plain.ensures ∙ c.if-is_plain.true)) c.put_byte.ensures

pub returns : goal.returns
returns c = counts-as (escaped-hex _ (sym c.is_plain.ensures ∙ c.if-is_plain.false)) c.put_hex.ensures
