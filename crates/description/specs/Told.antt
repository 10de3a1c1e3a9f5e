-- What the code's answers say.
-- Assumes nothing.
use Rattle.std.specs.Prelude.{Option, Some, None, cond, ◌&&◌, List, ℕ, ◌+◌, ◌*◌, ltb, get_or}
use Rattle.machine.specs.Machine.{Out, ok, refused}
pub use Rattle.refusals.specs.Told.{told}
use Rattle.file.specs.Asking.{Result, good, bad}
use Rattle.description.specs.Description.{Description}

-- of numbers that were read, the one at i
abbrev pub picked : ℕ → Out (List ℕ) → Out ℕ
picked i (ok vs q) = ok (get_or vs i 0) q
picked i (refused n p) = refused n p

-- of an item that was read, the count of a channel and a resource, if it has them
abbrev pub found : (channel resource : ℕ) → Out Description → Result (Option ℕ)
found c r (ok d q) = good (cond (ltb c d.channels && ltb r d.resources) (Some (get_or d.counts (c * d.resources + r) 0)) None)
found c r (refused n p) = bad n p
