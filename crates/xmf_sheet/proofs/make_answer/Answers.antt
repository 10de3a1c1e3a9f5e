-- `make_answer` makes the text of the answer: `too long`, the sheet, or a refusal's line.
-- Assumes nothing.
use mathlib.Core.Path.{◌∙◌}
use native.Mathlib.Omega.{arith}
use Rattle.refusals.specs.Reasons.{number_of}
use Rattle.xmf_sheet.proofs.Fits.{put_first, line-short, long-short, sheet_made, refusal-made, answer-long, answer-short}
use Rattle.xmf_sheet.proofs.make_answer.Goals as goal

pub returns-then-file-gt-LONGEST : goal.returns-then-file-gt-LONGEST
returns-then-file-gt-LONGEST c = let s = put_first c.put_too_long.ensures (omega (arith, long-short, c.requires)) (omega (arith, c.requires))
    in record {
      prefix_len = s.0;
      text_value = s.1 ∙ answer-long _ c.if-file-gt-LONGEST.true;
    }

pub returns-in-Ok : goal.returns-in-Ok
returns-in-Ok c = let s = sheet_made _ _ _ c.write_sheet.ensures.answer c.write_sheet.auto.sheet
    c.write_sheet.ensures.sheet c.in-Ok.is
    in record {
      prefix_len = s.0;
      text_value = s.1 ∙ answer-short _ c.node_table-nodes.ensures c.item_table-items.ensures c.requires c.if-file-gt-LONGEST.false;
    }

pub returns-in-Err : goal.returns-in-Err
returns-in-Err c = let s = put_first c.put_refusal.ensures
    (omega (
      arith,
      line-short (number_of c.in-Err.refusal.0) c.in-Err.refusal.1,
      c.write_sheet.auto.sheet,
      c.requires,
    )) (omega (arith, c.write_sheet.auto.sheet, c.requires))
    in record {
      prefix_len = s.0;
      text_value = s.1 ∙ refusal-made _ c.write_sheet.ensures.answer c.in-Err.is ∙ answer-short _
          c.node_table-nodes.ensures c.item_table-items.ensures c.requires c.if-file-gt-LONGEST.false;
    }
