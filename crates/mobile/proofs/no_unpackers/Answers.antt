-- `no_unpackers` says what `no_unpackers` says. The invariant: what is left of the rows decides.
-- Assumes nothing.
use Rattle.mobile.proofs.Lists.{nodes-no, nodes-on, nodes-yes}
use Rattle.mobile.proofs.Tests.{unpacked_no, unpacked_yes, unpackers-are}
use native.Mathlib.Omega.{arith}
use Rattle.mobile.proofs.no_unpackers.Goals as goal

pub loop-i-init : goal.loop-i-init
loop-i-init c = (omega arith, unpackers-are _)

pub returns-then-row-ne0 : goal.returns-then-row-ne0
returns-then-row-ne0 c = nodes-no _ _ _ _ c.loop-i.invariant.1 c.loop-i-test.true c.node_at-row.ensures (unpacked_no _ c.if-row-ne0.true)

pub loop-i-preserved : goal.loop-i-preserved
loop-i-preserved c = (omega arith, nodes-on _ _ _ _ c.loop-i.invariant.1 c.loop-i-test.true c.node_at-row.ensures (unpacked_yes _ c.if-row-ne0.false))

pub returns : goal.returns
returns c = nodes-yes _ _ _ _ c.loop-i.invariant.1 c.loop-i-test.false
