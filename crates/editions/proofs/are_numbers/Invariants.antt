-- `are_numbers` judges the numbers one by one. The invariant: what is left of them is the whole.
-- Assumes nothing.
use mathlib.Core.Path.{◌≡◌}
use Prim.Native.Nat.{◌-◌, ◌≤◌}
use lib.ListN.{length, replicate}
use Rattle.editions.specs.Sheets.{is_number, fits}
use Rattle.editions.specs.Reads.{fields_at}
use Rattle.editions.proofs.are_numbers.Given as goal

abbrev pub invariant-loop-i : goal.invariant-loop-i
invariant-loop-i l = (fits (replicate l.count is_number) (fields_at l.line l.at) ≡ fits (replicate (l.count - (l.i - 1)) is_number) (fields_at l.line l.from)) × (l.from ≤ length l.line)
