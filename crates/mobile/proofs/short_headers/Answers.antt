-- `short_headers` says what `all is_short` says. The invariant: what is left of the rows decides.
-- Assumes nothing.
use mathlib.Core.Path.{refl}
use Rattle.mobile.proofs.Lists.{nodes-no, nodes-on, nodes-yes}
use Rattle.mobile.proofs.Tests.{short-no, short-yes}
use native.Mathlib.Omega.{arith}
use Rattle.mobile.proofs.short_headers.Goals as goal

pub loop-i-init : goal.loop-i-init
loop-i-init c = (omega arith, refl)

pub returns-then-row-gt65535 : goal.returns-then-row-gt65535
returns-then-row-gt65535 c = nodes-no _ _ _ _ c.loop-i.invariant.1 c.loop-i-test.true c.node_at-row.ensures (short-no _ c.if-row-gt65535.true)

pub loop-i-preserved : goal.loop-i-preserved
loop-i-preserved c = (omega arith, nodes-on _ _ _ _ c.loop-i.invariant.1 c.loop-i-test.true c.node_at-row.ensures (short-yes _ c.if-row-gt65535.false))

pub returns : goal.returns
returns c = nodes-yes _ _ _ _ c.loop-i.invariant.1 c.loop-i-test.false
