-- `make_mend_lines` answers the lines of what is mended, or the refusal.
-- Assumes nothing.
use Rattle.outputs.proofs.Mended.{lines_counted, lines-settle}
use Rattle.outputs.proofs.mending.make_mend_lines.Goals as goal

pub returns : goal.returns
returns c = lines-settle _ c.node_table-nodes.ensures c.item_table-items.ensures c.large_buffer-copy.ensures _ c.mend-said.auto.lines c.mend-said.result
    c.mend-said.ensures.answer c.mend-said.ensures.lines (λ x e. lines_counted x _ _ e c.lines_written.ensures) c.settle.ensures
