-- `read_entries` reads the entries one after the other. The invariant: what is left of them is the whole, and no more than 32 are made.
-- Assumes nothing.
use mathlib.Core.Path.{refl, ◌∙◌}
use Rattle.header.proofs.Ways.{entries-begun, entries-done, entries-no, entries-on}
use Rattle.refusals.proofs.Passing.{passed_on}
use native.Mathlib.Omega.{arith}
use Rattle.header.proofs.read_entries.Goals as goal

pub loop-made-init : goal.loop-made-init
loop-made-init c = (refl, entries-begun _ _ _ _ _)

pub read_entry-requires : goal.read_entry-requires
read_entry-requires c = omega (arith, c.loop-made.invariant.0, c.loop-made.invariant.1.few, c.requires)

pub returns-in_err-next-clause-types_value : goal.returns-in_err-next-clause-types_value
returns-in_err-next-clause-types_value c = rw (passed_on c.from_residual.ensures.1) (entries-no c.loop-made.invariant.1 c.loop-made-test.true _ _ c.read_entry.ensures c.in_err-next.was)

pub loop-made-preserved : goal.loop-made-preserved
loop-made-preserved c = (
  c.read_entry.auto.types ∙ c.loop-made.invariant.0,
  entries-on c.loop-made.invariant.1 c.loop-made-test.true _ _
      c.read_entry.ensures c.in_ok-next.was,
)

pub returns : goal.returns
returns c = record {
  types_value = entries-done c.loop-made.invariant.1 (omega arith);
  listed = omega (arith, c.loop-made.invariant.1.few);
}
