-- What a `Result` of the code says, as a result of the definitions.
-- Assumes nothing.
use Rattle.std.specs.Prelude.{ℕ, Ok, Err}
use Rattle.std.specs.Prelude as std
use Rattle.refusals.specs.Reasons.{number_of}
use Rattle.refusals.specs.declared.Refusal.{Refusal}
use Rattle.room.specs.Room.{Result, good, bad}

-- an answer is the answer; a refusal is its reason's number, and its place
abbrev pub told : {A : Type 0} → std.Result A Refusal → Result A
told (Ok a) = good a
told (Err r) = bad (number_of r.0) r.1
