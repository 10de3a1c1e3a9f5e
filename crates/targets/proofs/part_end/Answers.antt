-- `part_end` gives what `part_end` gives.
-- Assumes nothing.
use Rattle.targets.proofs.Targets.{part-before, part-after}
use Rattle.targets.proofs.part_end.Goals as goal

pub returns-then-place-start : goal.returns-then-place-start
returns-then-place-start c = λ h e. part-before h _ _ e c.if-place-start.true

pub returns : goal.returns
returns c = λ h e. part-after h _ _ e c.if-place-start.false
