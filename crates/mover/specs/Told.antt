-- The item line that the mover has found next, and what stands behind it.
-- Assumes nothing.
use Rattle.std.specs.Prelude.{◌≡◌, Option, Some, None, List, [], ◌∷◌, ℕ, ◌+◌, ◌-◌, ◌≤◌, ◌<◌, length, drop}
use Rattle.std.proofs.Math.Seq.{slice}
use Rattle.editions.specs.Sheets.{parted, written, item, kind, nodes_of, items_of}
use Rattle.editions.specs.Reads.{AllKnown, walk}

-- the item lines from one that was found on; its places are right, and the lines behind it known
abbrev pub item_lines : List ℕ → Option (ℕ × ℕ × ℕ) → List (List ℕ)
item_lines s (Some (at, end, k)) = slice at end s ∷ items_of (parted 0x0A (drop (end + 1) s))
item_lines s None = []

abbrev pub Right : List ℕ → (low : ℕ) → Option (ℕ × ℕ × ℕ) → Type 0
Right s low (Some (at, end, k)) = (low ≤ at) × (at < length s) × (at ≤ end) × (end ≤ length s) × (kind (slice at end s) ≡ item k) × AllKnown (parted 0x0A (drop (end + 1) s))
Right s low None = Unit {0}

-- the bytes of a sheet whose node lines have the item lines of their rows behind them
abbrev pub grouped : List ℕ → List ℕ
grouped s = written (walk 0 (nodes_of (parted 0x0A s)) (items_of (parted 0x0A s)))

-- how many bytes of the sheet are left where it begins
abbrev pub left_of : List ℕ → Option (ℕ × ℕ × ℕ) → ℕ
left_of s (Some (at, end, k)) = length s - at + 1
left_of s None = 0
