-- `files_only` says what `files_only` says. The invariant: what is left of the rows decides.
-- Assumes nothing.
use Rattle.mobile.proofs.Lists.{nodes-no, nodes-on, nodes-yes}
use Rattle.mobile.proofs.Tests.{file-no, file-yes, root_none, root_file, root_folder}
use native.Mathlib.Omega.{arith}
use Rattle.mobile.proofs.files_only.Goals as goal

pub returns-then-many-eq0 : goal.returns-then-many-eq0
returns-then-many-eq0 c = root_none _ _ c.if-many-eq0.true

pub returns-then-root-eq0 : goal.returns-then-root-eq0
returns-then-root-eq0 c = root_file _ _ (omega arith) c.node_at-root.ensures c.if-root-eq0.true

pub loop-i-init : goal.loop-i-init
loop-i-init c = (omega arith, root_folder _ _ (omega arith) c.node_at-root.ensures c.if-root-eq0.false)

pub returns-then-row-ne0 : goal.returns-then-row-ne0
returns-then-row-ne0 c = nodes-no _ _ _ _ c.loop-i.invariant.1 c.loop-i-test.true c.node_at-row.ensures (file-no _ c.if-row-ne0.true)

pub loop-i-preserved : goal.loop-i-preserved
loop-i-preserved c = (omega arith, nodes-on _ _ _ _ c.loop-i.invariant.1 c.loop-i-test.true c.node_at-row.ensures (file-yes _ c.if-row-ne0.false))

pub returns : goal.returns
returns c = nodes-yes _ _ _ _ c.loop-i.invariant.1 c.loop-i-test.false
