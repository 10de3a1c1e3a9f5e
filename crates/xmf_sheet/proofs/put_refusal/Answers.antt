-- `put_refusal` puts the line of a refusal.
-- Assumes nothing.
use mathlib.Core.Path.{ap, ◌∙◌}
use Rattle.room.proofs.Counting.{counts-then, counts-as}
use Rattle.xmf_sheet.specs.Answer.{refusal_line}
use Rattle.xmf_sheet.proofs.Fits.{refusal_is}
use Rattle.xmf_sheet.proofs.put_refusal.Goals as goal

pub returns : goal.returns
returns c = counts-as (refusal_is _ _ ∙ ap (λ n. refusal_line n c.args.refusal.1) c.number.ensures) (counts-then
    (counts-then (counts-then c.put_byte-a.ensures c.put_number-b.ensures) c.put_number-c.ensures)
    c.put_byte.ensures)
