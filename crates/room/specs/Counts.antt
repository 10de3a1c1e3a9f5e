-- What a writer does to a buffer: it counts its bytes, and puts them where they fit.
-- Assumes nothing.
use Rattle.std.specs.Prelude.{◌≡◌, List, ℕ, ◌+◌, ◌-◌, ◌≤◌, ◌<◌, ◌^◌, min, length}
use Rattle.std.proofs.lemmas.List.Edits.{sets}

-- a place that is counted stops there: every buffer is shorter
abbrev pub too_many : ℕ
too_many = 2 ^ 64 - 1

-- `out` became `out'` when bytes were put at `to`, and r is the place after them, whether they fit or not; where they do not, nothing is said of what
-- is written. So the same writer measures, into an empty buffer.
pub record Counts (out out' : List ℕ) (to : ℕ) (bytes : List ℕ) (r : ℕ) : Type 0 where
  pub after : r ≡ min (to + length bytes) too_many
  pub fits : r < too_many → r ≤ length out → out' ≡ sets out to bytes
  pub long : length out' ≡ length out
