-- `make_mended` answers the copy whose header is mended, or the refusal.
-- Assumes nothing.
use Rattle.outputs.proofs.Mended.{copy_counted, copy-settles}
use Rattle.outputs.proofs.mending.make_mended.Goals as goal

pub returns : goal.returns
returns c = copy-settles _ c.node_table-nodes.ensures c.item_table-items.ensures c.line_buffer-lines.ensures _ c.mend-said.auto.copy c.mend-said.result
    c.mend-said.ensures.answer c.mend-said.ensures.copy (λ x e. copy_counted x _ _ e c.copy_written.ensures) c.settle.ensures
