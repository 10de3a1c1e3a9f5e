-- `walk` goes through the whole tag.
-- Assumes nothing.
use native.Mathlib.Omega.{arith}
use Rattle.cursor.specs.Told.{pass_told}
use Rattle.machine.proofs.Laws.{was}
use Rattle.id3.specs.Told.{head_told}
use Rattle.refusals.proofs.Passing.{passed_on}
use Rattle.id3.proofs.Ends.{head-ends}
use Rattle.id3.proofs.Ways.{walk-head, walk-front, walk-frames}
use Rattle.id3.proofs.walk.Goals as goal

pub read_front-requires : goal.read_front-requires
read_front-requires c = (
  (head-ends _ _ (was head_told c.read_head.ensures c.in_ok-flags.was)).2,
  omega
      (arith, head-ends _ _ (was head_told c.read_head.ensures c.in_ok-flags.was)),
)

pub read_frames-requires : goal.read_frames-requires
read_frames-requires c = (head-ends _ _ (was head_told c.read_head.ensures c.in_ok-flags.was)).2

pub returns-in_err-flags : goal.returns-in_err-flags
returns-in_err-flags c = rw (passed_on c.from_residual.ensures.1) (walk-head _ _ (was head_told c.read_head.ensures c.in_err-flags.was))

pub returns-in_err-d : goal.returns-in_err-d
returns-in_err-d c = rw (passed_on c.from_residual-in_err-d.ensures.1) (walk-front _ _ (was head_told c.read_head.ensures c.in_ok-flags.was) (was pass_told c.read_front.ensures c.in_err-d.was))

pub returns : goal.returns
returns c = walk-frames _ _ (was head_told c.read_head.ensures c.in_ok-flags.was)
    (was pass_told c.read_front.ensures c.in_ok-d.was) c.read_frames.ensures
