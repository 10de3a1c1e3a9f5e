-- The types that a file declares, and the format of one; read off the words of a table, two words a type.
-- Assumes nothing.
use Rattle.std.specs.Prelude.{Bool, true, false, cond, Option, Some, None, List, [], ◌∷◌, ℕ, zero, suc, ◌+◌, ◌*◌, eqb, get_or}

-- the most types
abbrev pub most_types : ℕ
most_types = 32

pub record Declared : Type 0 where
  pub type : ℕ
  pub format : ℕ

pub data Known : Type 0 where
  known : ℕ → Known
  unknown : Known

-- the format of a type, if it is declared
unfoldable pub format_of : List Declared → ℕ → Known
format_of [] t = unknown
format_of (d ∷ ds) t = cond (eqb d.type t) (known d.format) (format_of ds t)

abbrev pub is_unknown : Known → Bool
is_unknown (known f) = false
is_unknown unknown = true

-- n types of the words, from row i on
unfoldable pub types_from : ℕ → ℕ → List ℕ → List Declared
types_from i zero ws = []
types_from i (suc n) ws = record { type = get_or ws (i * 2) 0; format = get_or ws (i * 2 + 1) 0 } ∷ types_from (i + 1) n ws

unfoldable pub types_of : ℕ → List ℕ → List Declared
types_of n ws = types_from 0 n ws

abbrev pub found_told : Option ℕ → Known
found_told (Some f) = known f
found_told None = unknown
