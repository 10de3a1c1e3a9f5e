-- `read_versions` reads the versions one after the other. The invariant: what is left of them comes to what the whole comes to.
-- Assumes nothing.
use mathlib.Core.Path.{ap}
use native.Mathlib.Omega.{arith}
use Rattle.refusals.proofs.Passing.{passed_on}
use Rattle.metadata.specs.Told.{walked}
use Rattle.metadata.proofs.Ways.{versions_begun, versions_done, versions_no, versions_on}
use Rattle.metadata.proofs.read_versions.Goals as goal

pub loop-init : goal.loop-init
loop-init c = versions_begun _ _ _ _ _ _ _ _ (omega arith) (omega arith)

pub read_version-requires : goal.read_version-requires
read_version-requires c = omega (arith, c.requires, c.loop.invariant.long, c.loop.invariant.nodes-fit, c.loop.invariant.items-fit, c.loop.invariant.since)

pub returns-in_err-m : goal.returns-in_err-m
returns-in_err-m c = rw (passed_on c.from_residual.ensures.1)
    (versions_no _ _ _ _ _ _ _ _ c.loop.invariant c.loop-test.true c.read_version.ensures (ap (walked _) c.in_err-m.was))

pub loop-preserved : goal.loop-preserved
loop-preserved c = versions_on _ _ _ _ _ _ _ _ c.loop.invariant c.loop-test.true c.read_version.ensures
    (ap (walked _) c.in_ok-m.was) c.read_version.auto.items

pub returns : goal.returns
returns c = versions_done _ _ _ _ _ _ _ _ c.loop.invariant c.loop-test.false
