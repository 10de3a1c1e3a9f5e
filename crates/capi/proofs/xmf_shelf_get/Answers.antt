-- `xmf_shelf_get` leaves what `get` leaves.
-- Assumes nothing.
use Rattle.capi.proofs.Calls.{sheet_leaves}
use Rattle.capi.proofs.xmf_shelf_get.Goals as goal

pub returns : goal.returns
returns c = sheet_leaves _ _ _ c.get_words.result (c.get_words.ensures.result_value, c.get_words.ensures.out_value) c.put_size.ensures
