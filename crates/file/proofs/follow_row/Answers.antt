-- `follow_row` leaves what `follow_row` leaves.
-- Assumes nothing.
use mathlib.Core.Path.{refl, sym, ap, ◌∙◌}
use Prim.Native.Nat.{◌+◌}
use Rattle.cursor.specs.declared.Node.{Node}
use Rattle.header.specs.Told.{header_of}
use Rattle.file.proofs.Growing.{stand_few, stand_rising, stand_inside, stand_attached, part_in, reach_other, reach_known, reach_nowhere, reach_node}
use Rattle.targets.proofs.Targets.{part-past, row-asked, asked-found, asked-none, asked-taken}
use native.Mathlib.Omega.{arith}
use Rattle.file.proofs.follow_row.Goals as goal

pub node_at-row-requires : goal.node_at-row-requires
node_at-row-requires c = omega (arith, c.requires.0.nodes-in, c.requires.1, c.requires.2.2.fits)

pub returns-then-row-ne3 : goal.returns-then-row-ne3
returns-then-row-ne3 c = λ σ log s. reach_other _ _ _ s c.requires.0.nodes-in _ c.requires.1 c.node_at-row.ensures c.if-row-ne3.true _

pub rows_asked-asked-requires : goal.rows_asked-asked-requires
rows_asked-asked-requires c = (stand_few c.requires.2.2 c.requires.0.nodes-in).0

pub row_starting-requires : goal.row_starting-requires
row_starting-requires c = (c.rows_asked-asked.ensures.0, omega (arith, c.rows_asked-asked.ensures.1, (stand_few c.requires.2.2 c.requires.0.nodes-in).1), stand_rising c.requires.2.2 c.requires.0.nodes-in)

pub returns-then-row_starting-asked : goal.returns-then-row_starting-asked
returns-then-row_starting-asked c = λ σ log s. reach_known _ _ _ s c.requires.0.nodes-in _ c.requires.1 c.node_at-row.ensures refl
    (asked-found c.args.nodes.now _ c.args.span c.rows_asked-asked.ensures c.row_starting.ensures c.if-row_starting-asked.true) _

pub offset_at-offset-requires : goal.offset_at-offset-requires
offset_at-offset-requires c = let w = stand_inside c.requires.2.2 c.requires.0.nodes-in _ c.requires.1
    in (c.requires.1, (stand_few c.requires.2.2 c.requires.0.nodes-in).1, omega arith, c.requires.0.short)

pub first_taken-taken-requires : goal.first_taken-taken-requires
first_taken-taken-requires c = let same = row-asked c.args.nodes.now _ c.args.span c.rows_asked-asked.ensures in (
  c.rows_asked-asked.ensures.0,
  omega (arith, c.rows_asked-asked.ensures.1, (stand_few c.requires.2.2 c.requires.0.nodes-in).1),
  (λ i l. let w = stand_inside c.requires.2.2 c.requires.0.nodes-in i (omega (arith, c.rows_asked-asked.ensures.1)) in omega (arith, c.requires.0.short, ap (λ (r : Node). r.start + r.size) (same i l))),
  λ i l. ap (λ (r : Node). r.detached) (same i (omega (arith, c.rows_asked-asked.ensures.0))) ∙ stand_attached c.requires.2.2 c.requires.0.nodes-in i l,
)

pub read_children-requires : goal.read_children-requires
read_children-requires c = let p = part_in (header_of c.args.h c.args.types.now) _ _ c.requires.0.start-in
    (c.part_end-end.ensures (header_of c.args.h c.args.types.now) refl) in omega
    (arith, c.requires.0.short, c.requires.0.types-in, c.requires.0.nodes-in, c.requires.0.items-in, c.requires.2.2.fits, p)

pub returns-then-is_outside : goal.returns-then-is_outside
returns-then-is_outside c = let h = header_of c.args.h c.args.types.now in
    let is-out = sym c.if-is_outside.true ∙ c.is_outside.ensures h refl in
    let end_is = c.part_end-end.ensures h refl in
    let inside = part_in h _ _ c.requires.0.start-in end_is in
    let taken_is = asked-taken c.args.nodes.now _ c.args.span c.rows_asked-asked.ensures c.requires.3 (stand_attached c.requires.2.2 c.requires.0.nodes-in)
    (omega (arith, part-past h _ _ is-out, end_is)) inside c.end_asked.ensures c.first_taken-taken.ensures in
    λ σ log s. reach_node _ _ h s c.requires.0.nodes-in _ c.requires.1
    c.node_at-row.ensures c.if-row-ne3.false refl (asked-none c.args.nodes.now _ c.args.span c.rows_asked-asked.ensures c.requires.3 c.row_starting.ensures c.if-row_starting-asked.false)
    is-out c.offset_at-offset.ensures end_is taken_is c.read_children.ensures

pub returns : goal.returns
returns c = let none = asked-none c.args.nodes.now _ c.args.span c.rows_asked-asked.ensures c.requires.3
    c.row_starting.ensures c.if-row_starting-asked.false in
    λ σ log s. reach_nowhere _ _ (header_of c.args.h c.args.types.now) s c.requires.0.nodes-in _ c.requires.1
    c.node_at-row.ensures c.if-row-ne3.false refl none
    (sym c.if-is_outside.false ∙ c.is_outside.ensures (header_of c.args.h c.args.types.now) refl)
    c.offset_at-offset.ensures
