-- `make_sheet` answers the sheet, or the refusal.
-- Assumes nothing.
use Rattle.lines.proofs.Ending.{gives_as}
use Rattle.outputs.proofs.Written.{sheet_as}
use Rattle.outputs.proofs.sheets.make_sheet.Goals as goal

pub returns : goal.returns
returns c = gives_as (sheet_as _ c.node_table-nodes.ensures c.item_table-items.ensures _ _ _)
    (c.settle.ensures _ _ c.write_edition-written.auto.text c.write_edition-written.ensures.answer c.write_edition-written.ensures.text)
