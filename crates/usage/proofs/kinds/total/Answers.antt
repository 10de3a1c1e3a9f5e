-- `total` is the sum of the kinds.
-- Assumes nothing.
use Rattle.usage.proofs.Accounting.{total-is}
use Rattle.usage.proofs.kinds.total.Goals as goal

pub returns : goal.returns
returns c = total-is _ c.on-inline.ensures c.on-references.ensures c.on-unpackers.ensures c.on-hidden.ensures c.on-visible.ensures
    c.on-metadata.ensures c.on-nodes.ensures c.on.ensures
