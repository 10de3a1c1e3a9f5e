-- Where a resource is, its bytes, and where it comes from.
-- Assumes nothing.
use Rattle.std.specs.Prelude.{cond, List, [], ◌∷◌, ◌++◌, ℕ, eqb}
use Rattle.room.specs.Parts.{part}
use Rattle.cursor.specs.declared.Node.{Node}
use Rattle.room.specs.Room.{Result, good, bad}
use Rattle.room.specs.Decimal.{decimal}
use Rattle.rows.specs.Rows.{node_at}
use Rattle.file.specs.Asking.{Asks, ask}
use Rattle.text.specs.Text.{number}
use Rattle.resolve.specs.Resolve.{Resource, resolve, resolve_row}
use Rattle.lines.specs.Answer.{Answer, plainly, printed, reads}

-- ---- a resource: `P`, place, length, the row whose unpackers apply, the number of references followed

unfoldable pub place_line : Resource → List ℕ
place_line r = 0x50 ∷ number r.place ++ number r.size ++ number r.row ++ number r.hops ++ 0x0A ∷ []

abbrev pub placed : Resource → Answer
placed r = plainly (place_line r)

unfoldable pub place_answer : (room row : ℕ) → List ℕ → Answer
place_answer room row f = printed room [] placed (ask (reads f) (resolve row f))

-- the resource itself
abbrev pub resource_bytes : List ℕ → Resource → Answer
resource_bytes f r = plainly (part f r.place r.size)

unfoldable pub resource_answer : (room row : ℕ) → List ℕ → Answer
resource_answer room row f = printed room [] (resource_bytes f) (ask (reads f) (resolve row f))

-- where it comes from: ` bytes from byte `; what a reference 2 names may be any bytes of the file, and `, which may hold hidden data` says so
unfoldable pub origin_line : (reference : ℕ) → Resource → List ℕ
origin_line reference r =
    decimal r.size
    ++ (0x20 ∷ 0x62 ∷ 0x79 ∷ 0x74 ∷ 0x65 ∷ 0x73 ∷ 0x20 ∷ 0x66 ∷ 0x72 ∷ 0x6F ∷ 0x6D ∷ 0x20 ∷ 0x62 ∷ 0x79 ∷ 0x74 ∷ 0x65 ∷ 0x20 ∷ [])
    ++ decimal r.place
    ++ cond (eqb reference 2)
    (0x2C ∷ 0x20 ∷ 0x77 ∷ 0x68 ∷ 0x69 ∷ 0x63 ∷ 0x68 ∷ 0x20 ∷ 0x6D ∷ 0x61 ∷ 0x79 ∷ 0x20 ∷ 0x68 ∷ 0x6F ∷ 0x6C ∷ 0x64 ∷ 0x20 ∷ 0x68 ∷ 0x69 ∷ 0x64 ∷ 0x64 ∷ 0x65 ∷ 0x6E ∷ 0x20 ∷ 0x64 ∷ 0x61 ∷ 0x74 ∷ 0x61 ∷ 0x0A ∷ [])
    (0x0A ∷ [])

-- the reference of the row that a resource was found at
unfoldable pub origin_of : List Node → Result Resource → Result (List ℕ)
origin_of ns (good r) = good (origin_line (node_at ns r.row).reference r)
origin_of ns (bad n p) = bad n p

unfoldable pub origin : (row : ℕ) → Asks (List ℕ)
origin row f h ns is = origin_of ns (resolve_row row ns)

unfoldable pub origin_answer : (room row : ℕ) → List ℕ → Answer
origin_answer room row f = printed room [] plainly (ask (reads f) (origin row f))
