-- `follow` gives what `chain` gives. The measure is the number of references that may still be followed.
-- Assumes nothing.
use Rattle.resolve.proofs.Chain.{at_folder, at_one, at_uri, two-many, three_many, two-on, three_on, next-there}
use native.Mathlib.Omega.{arith}
use Rattle.resolve.proofs.+follow.Goals as goal

pub returns-then-row-ne0 : goal.returns-then-row-ne0
returns-then-row-ne0 t c = at_folder _ _ _ _ _ (omega (arith, c.requires)) c.node_at-row.ensures c.if-row-ne0.true

pub returns-then-row-eq1 : goal.returns-then-row-eq1
returns-then-row-eq1 t c = at_one _ _ _ _ _ (omega (arith, c.requires))
    c.node_at-row.ensures c.if-row-ne0.false c.if-row-eq1.true

pub returns-then-left-eq0 : goal.returns-then-left-eq0
returns-then-left-eq0 t c = two-many _ _ _ _ _ (omega (arith, c.requires))
    c.node_at-row.ensures c.if-row-ne0.false
    c.if-row-eq2.true c.if-left-eq0.true

pub returns-then-row-eq2 : goal.returns-then-row-eq2
returns-then-row-eq2 t c = two-on _ _ _ _ _ (omega (arith, c.requires))
    c.node_at-row.ensures c.if-row-ne0.false
    c.if-left-eq0.false c.if-row-eq2.true

pub returns-then-row-ne3 : goal.returns-then-row-ne3
returns-then-row-ne3 t c = at_uri _ _ _ _ _
    (omega (arith, c.requires))
    c.node_at-row.ensures
    c.if-row-ne0.false c.if-row-eq1.false
    c.if-row-eq2.false c.if-row-ne3.true

pub returns-then-left-eq0-2 : goal.returns-then-left-eq0-2
returns-then-left-eq0-2 t c = three_many _ _ _ _ _
    (omega (arith, c.requires))
    c.node_at-row.ensures
    c.if-row-ne0.false c.if-row-ne3.false c.if-left-eq0-2.true

pub follow-requires : goal.follow-requires
follow-requires t c = (
  omega (arith, c.requires),
  (
    omega (arith, c.requires),
    next-there _ _ _
        (omega (arith, c.requires))
        c.requires.3
        c.node_at-row.ensures c.if-row-ne3.false
        c.row_starting-next.ensures,
    omega
        (arith, c.requires),
    c.requires.3,
    omega
        (arith, c.requires),
    c.requires.5,
  ),
)

pub returns : goal.returns
returns t c = three_on _ _ _ _ _
    (omega (arith, c.requires))
    c.node_at-row.ensures
    c.if-row-ne0.false c.if-left-eq0-2.false
    c.if-row-ne3.false c.row_starting-next.ensures c.follow.ensures
