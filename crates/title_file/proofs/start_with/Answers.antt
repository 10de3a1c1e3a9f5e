-- `start_with` adds the bytes of the three numbers to the rest.
-- Assumes nothing.
use native.Mathlib.Omega.{arith}
use Rattle.title_nodes.proofs.Lengths.{last-few}
use Rattle.title_file.proofs.start_with.Goals as goal

pub overflow_add-result-2 : goal.overflow_add-result-2
overflow_add-result-2 c = omega (arith, last-few _ _ _ _ c.last_bytes.ensures)

pub overflow_add-result-3 : goal.overflow_add-result-3
overflow_add-result-3 c = omega (arith, last-few _ _ _ _ c.last_bytes.ensures)
