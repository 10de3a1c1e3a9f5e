-- `read_numbers` reads the numbers one by one and keeps one of them. The invariant: what is picked of all of them is picked of those that are left, or was kept. Each turn reads a byte
-- of the item or more: there are no more turns than it has bytes, whatever the count.
-- Assumes nothing.
use mathlib.Core.Logic.{inl, inr}
use Rattle.cursor.specs.Rows.{meta_frame}
use Rattle.cursor.specs.Told.{number_told}
use Rattle.refusals.proofs.Passing.{passed_on}
use Rattle.machine.proofs.Laws.{was}
use Rattle.cursor.proofs.Leaves.{number-inside}
use Rattle.description.proofs.Ways.{further-none, further-on, numbers-begun, numbers-done, numbers-no, numbers_on}
use Rattle.description.proofs.read_numbers.Goals as goal
use Rattle.description.proofs.read_numbers.Goals.{then-i-index, else-i-index}

pub loop-i-init : goal.loop-i-init
loop-i-init c = (numbers-begun _ _ _ _ _, further-none _ _)

pub returns-in_err-v : goal.returns-in_err-v
returns-in_err-v c = rw (passed_on c.from_residual.ensures.1) (numbers-no c.loop-i.invariant.0 c.loop-i-test.true (was number_told (c.number.ensures meta_frame) c.in_err-v.was))

pub loop-i-preserved : goal.loop-i-preserved
loop-i-preserved c = let z = was number_told (c.number.ensures meta_frame) c.in_ok-v.was in
    let m = number-inside _ _ _ _ _ z in (
      numbers_on c.loop-i.invariant.0 c.loop-i-test.true z
          (elim c.if-i-index.branch [ then-i-index w ↦ inl (w.if-i-index.true, w.kept-is) | else-i-index w ↦ inr (w.if-i-index.false, w.kept-is) ]),
      further-on c.loop-i.invariant.1 m.0 m.2,
    )

pub returns : goal.returns
returns c = numbers-done c.loop-i.invariant.0 c.loop-i-test.false
