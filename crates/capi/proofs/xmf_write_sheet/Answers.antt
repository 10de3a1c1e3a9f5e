-- `xmf_write_sheet` leaves the outcome of the sheet.
-- Assumes nothing.
use Rattle.promises.specs.Calls.{write-sheet}
use Rattle.capi.proofs.Calls.{leaves}
use Rattle.capi.proofs.xmf_write_sheet.Goals as goal

pub returns : goal.returns
returns c = leaves _ (write-sheet c.write_sheet.result (record { answers = c.write_sheet.ensures.answer; in_buffer = c.write_sheet.ensures.sheet }) c.write_sheet.ensures.nodes
    c.write_sheet.ensures.items) c.put_size.ensures
