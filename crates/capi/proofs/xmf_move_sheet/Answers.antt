-- `xmf_move_sheet` leaves the outcome of the mover.
-- Assumes nothing.
use mathlib.Core.List.{[]}
use Rattle.promises.specs.Calls.{move-sheet}
use Rattle.capi.proofs.Calls.{leaves}
use Rattle.capi.proofs.xmf_move_sheet.Goals as goal

pub returns : goal.returns
returns c = leaves _ (move-sheet {f = []} c.move_sheet.result (record { answers = c.move_sheet.ensures.answer; in_buffer = c.move_sheet.ensures.room })) c.put_size.ensures
