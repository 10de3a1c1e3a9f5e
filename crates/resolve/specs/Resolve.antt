-- The question Resolve (01, Questions): where a row's resource is, and the resource itself. It is answered of the node rows alone: no definition before `resolve` takes the file.
-- Assumes nothing.
use Rattle.std.specs.Prelude.{cond, not, List, [], ◌∷◌, ◌++◌, ℕ, zero, suc, ◌+◌, ltb, leb, eqb, length, take, drop}
use Rattle.cursor.specs.Refusals.{no_such_row, ends_at_folder, ends_at_uri, too_many_hops}
use Rattle.room.specs.Room.{no_room, padded}
use Rattle.cursor.specs.declared.Node.{Node}
use Rattle.rows.specs.Rows.{node_at}
unfoldable pub use Rattle.rows.specs.Rows.{row_starting}
use Rattle.file.specs.Asking.{Asks, Result, good, bad, answered}

-- place and length of the resource, the row whose unpackers apply, the number of references followed
pub record Resource : Type 0 where
  pub place : ℕ
  pub size : ℕ
  pub row : ℕ
  pub hops : ℕ

-- the most references that are followed
abbrev pub most_hops : ℕ
most_hops = 4

-- the resource that node r of row k names, after `hops` references
unfoldable pub resource_of : Node → (k hops : ℕ) → Result Resource
resource_of r k hops = good (record { place = r.target; size = r.extent; row = k; hops = hops })

-- The answer at node r of row k, after `hops` references: `two` is the answer if its reference 2 is followed, `three` if its reference 3 is.
unfoldable pub reached : Node → (k hops : ℕ) → (two three : Result Resource) → Result Resource
reached r k hops two three =
    cond (not (eqb r.contained 0)) (bad ends_at_folder 0)
    (cond (eqb r.reference 1) (resource_of r k hops)
    (cond (eqb r.reference 2) two
    (cond (eqb r.reference 3) three
    (bad ends_at_uri 0))))

-- the answer from row k on, after `hops` references, where `left` more may be followed
unfoldable pub chain : (left : ℕ) → List Node → (k hops : ℕ) → Result Resource
chain zero ns k hops = reached (node_at ns k) k hops (bad too_many_hops 0) (bad too_many_hops 0)
chain (suc left) ns k hops =
    reached (node_at ns k) k hops (resource_of (node_at ns k) k (hops + 1)) (chain left ns (row_starting ns (node_at ns k).target) (hops + 1))

-- the answer for a row
unfoldable pub resolve_row : (row : ℕ) → List Node → Result Resource
resolve_row row ns = cond (ltb row (length ns)) (chain most_hops ns row 0) (bad no_such_row 0)

-- the question
unfoldable pub resolve : (row : ℕ) → Asks Resource
resolve row f h ns is = resolve_row row ns

-- the resource itself: that part of the file; empty on a refusal
unfoldable pub part : List ℕ → Result Resource → List ℕ
part f (good r) = take r.size (drop r.place f)
part f (bad n p) = []

-- the question whose answer is copied into a buffer: resolve, and then whether `room` bytes hold the resource
unfoldable pub fitting : (room : ℕ) → Result Resource → Result Resource
fitting room (good r) = cond (leb r.size room) (good r) (bad no_room 0)
fitting room (bad n p) = bad n p

unfoldable pub copy_into : (row room : ℕ) → Asks Resource
copy_into row room f h ns is = fitting room (resolve row f h ns is)

-- what the call leaves in the buffer: the resource's bytes, and zeros behind them
abbrev pub copy_left : (out nodes items file : List ℕ) → (row : ℕ) → List ℕ
copy_left out nodes items file row = padded (length out) (part file (answered nodes items file (copy_into row (length out))))

-- their own refusals, after the reader's
abbrev pub refusals : List ℕ
refusals = no_such_row ∷ ends_at_folder ∷ ends_at_uri ∷ too_many_hops ∷ []

abbrev pub copy_refusals : List ℕ
copy_refusals = refusals ++ no_room ∷ []
