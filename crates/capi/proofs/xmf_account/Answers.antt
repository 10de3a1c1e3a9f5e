-- `xmf_account` leaves the outcome of the account, and stores its totals.
-- Assumes nothing.
use Rattle.capi.proofs.Calls.{account-leaves}
use Rattle.capi.proofs.xmf_account.Goals as goal

pub returns : goal.returns
returns c = account-leaves _ _ c.account-said.result c.read_totals-before.ensures (c.account-said.ensures.answer, (c.account-said.ensures.totals, (c.account-said.ensures.nodes, c.account-said.ensures.items)))
    c.put_totals.ensures c.put_accounted.ensures
