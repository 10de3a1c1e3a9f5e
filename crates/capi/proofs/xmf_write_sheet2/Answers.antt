-- `xmf_write_sheet2` leaves the outcome of the sheet in its second edition.
-- Assumes nothing.
use Rattle.promises.specs.Calls.{write-sheet2}
use Rattle.capi.proofs.Calls.{leaves}
use Rattle.capi.proofs.xmf_write_sheet2.Goals as goal

pub returns : goal.returns
returns c = leaves _ (write-sheet2 c.write_sheet2.result (record { answers = c.write_sheet2.ensures.answer; in_buffer = c.write_sheet2.ensures.sheet }) c.write_sheet2.ensures.nodes
    c.write_sheet2.ensures.items) c.put_size.ensures
