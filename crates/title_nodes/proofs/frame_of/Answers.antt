-- `frame_of` counts what the header has besides the two lengths, and finds these.
-- Assumes nothing.
use native.Mathlib.Omega.{arith}
use mathlib.Core.Path.{ap, ◌∙◌}
use mathlib.Core.List.{List}
use Prim.Native.Nat.{ℕ}
use Rattle.title_text.specs.Description.{Content, shape}
use Rattle.title_text.specs.Text.{header_size}
use Rattle.title_nodes.proofs.Lengths.{few, header-few, length-few}
use Rattle.title_nodes.proofs.Nodes.{body-inside, own_put, stopped_length, unpackers-counted, framed-by}
use Rattle.title_nodes.proofs.frame_of.Goals as goal

pub overflow_add-fixed : goal.overflow_add-fixed
overflow_add-fixed c = omega (arith, few _ c.vlq_size-2.ensures, few _ c.vlq_size-3.ensures)

pub overflow_add-fixed-2 : goal.overflow_add-fixed-2
overflow_add-fixed-2 c = omega (arith, few _ c.vlq_size-2.ensures, few _ c.vlq_size-3.ensures)

pub overflow_add-fixed-3 : goal.overflow_add-fixed-3
overflow_add-fixed-3 c = omega (arith, few _ c.vlq_size-2.ensures, few _ c.vlq_size-3.ensures, c.stopped-unpackers.ensures)

pub overflow_add-contents : goal.overflow_add-contents
overflow_add-contents c = omega (arith, c.stopped-own.ensures)

pub length_bytes-requires : goal.length_bytes-requires
length_bytes-requires c = (omega (arith, few _ c.vlq_size-2.ensures, few _ c.vlq_size-3.ensures, c.stopped-unpackers.ensures), omega (arith, c.stopped-own.ensures))

pub header_size-header-requires : goal.header_size-header-requires
header_size-header-requires c = (omega (arith, few _ c.vlq_size-2.ensures, few _ c.vlq_size-3.ensures, c.stopped-unpackers.ensures), length-few _ _ c.length_bytes.ensures)

pub overflow_add-header : goal.overflow_add-header
overflow_add-header c = omega (
  arith,
  header-few _ _ c.header_size-header.ensures,
  length-few _ _ c.length_bytes.ensures,
  few _
      c.vlq_size-2.ensures,
  few _ c.vlq_size-3.ensures,
  c.stopped-unpackers.ensures,
  c.stopped-own.ensures,
)

pub returns : goal.returns
unfolding shape
returns c = λ (f : List ℕ) (cs : List Content) inside packed e. framed-by _ cs _ e
    (stopped_length (unpackers-counted _ packed c.vlq_size.ensures c.on.ensures) c.stopped-unpackers.ensures)
    (stopped_length (own_put f c.args.row c.body_size-body.ensures
    (c.measure_reference.ensures f _ (body-inside f c.args.row inside c.body_size-body.ensures)))
    c.stopped-own.ensures) c.vlq_size-2.ensures c.vlq_size-3.ensures
    (c.header_size-header.ensures ∙ ap (header_size _) c.length_bytes.ensures) c.stopped-size.ensures
