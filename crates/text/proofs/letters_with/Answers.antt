-- `letters_with` counts units that stand for themselves, whose first character is known.
-- Assumes nothing.
use Rattle.text.proofs.LowBytes.{letters_none}
use native.Mathlib.Omega.{arith}
use Rattle.text.proofs.letters_with.Goals as goal

pub returns-then-first-ge128 : goal.returns-then-first-ge128
returns-then-first-ge128 c = letters_none _ _ (omega arith)
