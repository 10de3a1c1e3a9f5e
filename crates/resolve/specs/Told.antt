-- What the code's answer says, what its second call gives, and what the code needs of the rows of an accepted file.
-- Assumes nothing.
use Rattle.std.specs.Prelude.{◌≡◌, Ok, Err, List, ℕ, ◌<◌, length}
use Rattle.std.specs.Prelude as std
use Rattle.refusals.specs.Reasons.{number_of}
use Rattle.refusals.specs.declared.Refusal.{Refusal}
use Rattle.cursor.specs.declared.Node.{Node}
use Rattle.rows.specs.Rows.{node_at}
use Rattle.file.specs.Asking.{Result, good, bad, answered, nodes_left, items_left}
use Rattle.resolve.specs.Resolve.{Resource, row_starting, resolve, part}
use Rattle.resolve.specs.declared.Resolved.{Resolved}

abbrev pub told : std.Result Resolved Refusal → Result Resource
told (Ok r) = good (record { place = r.place.0; size = r.size; row = r.last; hops = r.hops })
told (Err r) = bad (number_of r.0) r.1

-- the second call, of a file and two tables: it gave `bytes` and left the tables t and u
pub record Given (row : ℕ) (nodes items f bytes t u : List ℕ) : Type 0 where
  pub gives : bytes ≡ part f (answered nodes items f (resolve row))
  pub in_nodes : t ≡ nodes_left nodes items f (resolve row)
  pub in_items : u ≡ items_left nodes items f (resolve row)

-- each reference 3 leads to a row
abbrev pub Linked : List Node → Type 0
Linked ns = (i : ℕ) → i < length ns → (node_at ns i).reference ≡ 3 → row_starting ns (node_at ns i).target < length ns
