-- What the answer of reading an input says of the buffer.
-- Assumes nothing.
use Rattle.std.specs.Prelude.{List, ℕ, Result, Ok, Err}
use Rattle.io.specs.Counts.{IsPrefixLen}

-- the bytes of an input stand at the start of the buffer
abbrev pub Inside : {E : Type 0} → Result ℕ E → List ℕ → Type 0
Inside (Ok n) buf = IsPrefixLen n buf
Inside (Err e) buf = Unit {0}
