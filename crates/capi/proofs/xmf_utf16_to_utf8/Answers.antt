-- `xmf_utf16_to_utf8` leaves the outcome of the conversion.
-- Assumes nothing.
use mathlib.Core.List.{[]}
use Rattle.promises.specs.Calls.{to-utf8}
use Rattle.capi.proofs.Calls.{leaves}
use Rattle.capi.proofs.xmf_utf16_to_utf8.Goals as goal

pub returns : goal.returns
returns c = leaves _ (to-utf8 {f = []} c.to_utf8.result (record { answers = c.to_utf8.ensures.answer; in_buffer = c.to_utf8.ensures.text })) c.put_size.ensures
