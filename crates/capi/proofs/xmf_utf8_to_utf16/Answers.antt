-- `xmf_utf8_to_utf16` leaves the outcome of the conversion.
-- Assumes nothing.
use mathlib.Core.List.{[]}
use Rattle.promises.specs.Calls.{to-utf16}
use Rattle.capi.proofs.Calls.{leaves}
use Rattle.capi.proofs.xmf_utf8_to_utf16.Goals as goal

pub returns : goal.returns
returns c = leaves _ (to-utf16 {f = []} c.to_utf16.result (record { answers = c.to_utf16.ensures.answer; in_buffer = c.to_utf16.ensures.units })) c.put_size.ensures
