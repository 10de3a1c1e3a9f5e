-- What the code's field and answer say.
-- Assumes nothing.
use Rattle.std.specs.Prelude.{Bool, true, false, Ok, Err, List, ℕ}
use Rattle.std.specs.Prelude as std
use Rattle.refusals.specs.Reasons.{number_of}
use Rattle.refusals.specs.declared.Refusal.{Refusal}
use Rattle.cursor.specs.declared.Node.{Node}
use Rattle.cursor.specs.declared.Item.{Item}
use Rattle.file.specs.Asking.{Asks, Result, good, bad}
use Rattle.file.specs.Own.{Numbered}
use Rattle.find.specs.Find.{Wanted, standard, custom, look, nearest, find, find_own}
use Rattle.find.specs.declared.Field.{Field}
use Rattle.find.specs.declared.Field.TheVariants as field

-- the field that is looked for, with the name that stands beside it
abbrev pub wanted_of : Field → List ℕ → Wanted
wanted_of (field.Standard n) name = standard n
wanted_of field.Custom name = custom name

abbrev pub told : std.Result (ℕ × Item) Refusal → Result Numbered
told (Ok (i, r)) = good (record { row = i; item = r })
told (Err r) = bad (number_of r.0) r.1

-- what is found from node k: the nearest item, or its own
abbrev pub found_by : (climbs : Bool) → List ℕ → Wanted → List Node → List Item → ℕ → Result Numbered
found_by true f w ns is k = nearest f w ns is k
found_by false f w ns is k = look f w is k

-- the question
abbrev pub question : (climbs : Bool) → Wanted → (row : ℕ) → Asks Numbered
question true w row = find w row
question false w row = find_own w row
