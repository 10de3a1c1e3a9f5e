-- `put_node` puts the three numbers, the rest of the header, and what follows it.
-- Assumes nothing.
use Prim.Native.Nat.{ℕ}
use Rattle.title_text.specs.Description.{shape}
use Rattle.title_nodes.proofs.Nodes.{body-inside, own_put, node-put}
use Rattle.title_nodes.proofs.put_node.Goals as goal

pub put_unpackers-g-requires : goal.put_unpackers-g-requires
put_unpackers-g-requires c = (c.requires.rows.1, c.requires.sizes.1)

pub put_reference-requires : goal.put_reference-requires
put_reference-requires c = body-inside c.args.file.now c.args.node c.requires.rows.0 c.body_size-body.ensures

pub returns : goal.returns
unfolding shape
returns c = λ (inner : ℕ) framed small. node-put _ _ inner framed small c.requires.sizes.0 c.put_number-a.ensures c.put_number-b.ensures
    c.put_number-c.ensures c.put_number-d.ensures c.put_items-e.ensures c.put_unpackers-g.ensures
    (own_put c.args.file.now c.args.node c.body_size-body.ensures c.put_reference.ensures)
