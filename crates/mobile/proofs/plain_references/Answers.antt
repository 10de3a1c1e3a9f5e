-- `plain_references` says what `plain_references` says. The invariant: what is left of the rows decides.
-- Assumes nothing.
use mathlib.Core.Path.{sym, ◌∙◌}
use Rattle.mobile.proofs.Lists.{nodes-no, nodes-on, nodes-yes}
use Rattle.mobile.proofs.Tests.{plain-are}
use native.Mathlib.Omega.{arith}
use Rattle.mobile.proofs.plain_references.Goals as goal

pub loop-i-init : goal.loop-i-init
loop-i-init c = (omega arith, plain-are _)

pub returns-then-not-is_plain : goal.returns-then-not-is_plain
returns-then-not-is_plain c = nodes-no _ _ _ _ c.loop-i.invariant.1 c.loop-i-test.true c.node_at-row.ensures
    (sym c.is_plain.ensures ∙ c.if-not-is_plain.true)

pub loop-i-preserved : goal.loop-i-preserved
loop-i-preserved c = (
  omega arith,
  nodes-on _ _ _ _ c.loop-i.invariant.1 c.loop-i-test.true c.node_at-row.ensures
      (sym c.is_plain.ensures ∙ c.if-not-is_plain.false),
)

pub returns : goal.returns
returns c = nodes-yes _ _ _ _ c.loop-i.invariant.1 c.loop-i-test.false
