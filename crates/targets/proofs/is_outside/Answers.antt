-- `is_outside` says what `outside` says.
-- Assumes nothing.
use Rattle.targets.proofs.Targets.{out_header, out_file, out_before, out_after}
use native.Mathlib.Omega.{arith}
use Rattle.targets.proofs.is_outside.Goals as goal

pub returns-then-place-end : goal.returns-then-place-end
returns-then-place-end c = λ h e. out_header h _ _ e c.if-place-end.true

pub returns-then-size-place : goal.returns-then-size-place
returns-then-size-place c = λ h e. out_file h _ _ e (omega arith) c.if-size-place.true

pub returns-then-place-start : goal.returns-then-place-start
returns-then-place-start c = λ h e. out_before h _ _ e (omega arith) (omega arith) c.if-place-start.true

pub returns : goal.returns
returns c = λ h e. out_after h _ _ e (omega arith) (omega arith) (omega arith)
