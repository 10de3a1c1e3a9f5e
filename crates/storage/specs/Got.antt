-- What the answer of reading a file says of the buffer.
-- Assumes nothing.
use Rattle.std.specs.Prelude.{List, ℕ, Option, Some, None}
use Rattle.io.specs.Counts.{IsPrefixLen}

-- the bytes of a file that could be read stand at the start of the buffer
abbrev pub Inside : Option ℕ → List ℕ → Type 0
Inside (Some n) buf = IsPrefixLen n buf
Inside None buf = Unit {0}
