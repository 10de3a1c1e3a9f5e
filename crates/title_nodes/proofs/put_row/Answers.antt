-- `put_row` appends the node as it stands in the file; or puts what is to be put, and the node anew.
-- Assumes nothing.
use Prim.Native.Nat.{ℕ}
use native.Mathlib.Omega.{arith}
use Rattle.title_nodes.proofs.Runs.{append_as, append_anew, leaf_is}
use Rattle.title_nodes.proofs.put_row.Goals as goal

pub extend-requires : goal.extend-requires
extend-requires c = (c.requires.inside.0, omega (arith, c.requires.inside.1, (c.stands.ensures c.if-stands.true).1))

pub returns-then-stands : goal.returns-then-stands
returns-then-stands c = λ (inner : ℕ) none framed small. append_as
    (leaf_is c.args.file.now c.args.node _ c.requires.leaf (λ k. omega (arith, c.type_inv.file k)) none
    (c.stands.ensures c.if-stands.true) framed small)
    c.extend.ensures

pub put_part-a-requires : goal.put_part-a-requires
put_part-a-requires c = c.requires.inside.0

pub put_node-next-requires : goal.put_node-next-requires
put_node-next-requires c = record {
  rows = c.requires.rows;
  sizes = c.requires.sizes;
}

pub returns : goal.returns
returns c = λ (inner : ℕ) none framed small. append_anew c.args.file.now _ c.args.run c.put_part-a.ensures (c.put_node-next.ensures inner framed small)
