-- `with_row` gives the span with the next row.
-- Assumes nothing.
use mathlib.Core.Path.{refl, sym, ap, ◌∙◌}
use Prim.Native.Nat.{◌+◌, min, max}
use Rattle.cursor.specs.declared.Node.{Node}
use Rattle.rows.proofs.Rows.{row_is}
use native.Mathlib.Omega.{arith}
use Rattle.targets.proofs.with_row.Goals as goal

pub returns-then-count-known : goal.returns-then-count-known
returns-then-count-known c = (λ l. refl, λ l. absurd (omega (arith, c.if-count-known.true)))

pub node_at-row-requires : goal.node_at-row-requires
node_at-row-requires c = omega (arith, c.requires.0, c.if-count-known.false)

pub overflow_add-row : goal.overflow_add-row
overflow_add-row c = let w = c.requires.1 c.args.known (omega (arith, c.if-count-known.false)) in
    omega (
      arith,
      ap (λ (r : Node). r.start + r.size)
          (row_is c.args.nodes.now c.args.count c.args.known (omega (arith, c.if-count-known.false)) c.node_at-row.ensures),
    )

pub returns : goal.returns
returns c = let e = sym (row_is c.args.nodes.now c.args.count c.args.known (omega (arith, c.if-count-known.false)) c.node_at-row.ensures) in (
  λ l. absurd (omega (arith, c.if-count-known.false)),
  λ l. record {
    first-is = c.lesser.ensures ∙ ap (λ (r : Node). min r.start c.args.span.first.0) e;
    beyond_is = c.greater.ensures ∙ ap (λ (r : Node). max c.args.span.beyond.0 (r.start + r.size)) e;
  },
)
