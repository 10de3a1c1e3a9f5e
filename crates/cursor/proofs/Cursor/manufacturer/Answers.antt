use Rattle.cursor.proofs.Leaves.{manufacturer-none, manufacturer-one, manufacturer-cut, manufacturer-three}
use native.Mathlib.Omega.{arith}
use Rattle.cursor.proofs.Cursor.manufacturer.Goals as goal

pub returns-then-end-at : goal.returns-then-end-at
returns-then-end-at c = λ κ. manufacturer-none κ _ _ _ c.if-end-at.true

pub returns-then-b-ne0 : goal.returns-then-b-ne0
returns-then-b-ne0 c = λ κ. manufacturer-one κ _ _ _ c.if-end-at.false c.wide-b.ensures.0 c.if-b-ne0.true

pub returns-then-end-at-lt3 : goal.returns-then-end-at-lt3
returns-then-end-at-lt3 c = λ κ. manufacturer-cut κ _ _ _ c.if-end-at.false c.wide-b.ensures.0 c.if-b-ne0.false (omega arith)

pub returns : goal.returns
returns c = λ κ. manufacturer-three κ _ _ _ c.if-end-at.false c.wide-b.ensures.0 c.if-b-ne0.false (omega arith)
