-- Parts of lent bytes, and bytes one after the other.
-- Assumes nothing.
use Rattle.std.specs.Prelude.{List, [], ◌∷◌, ◌++◌, ℕ, take, drop}

-- n bytes, from `at` on
abbrev pub part : List ℕ → (at n : ℕ) → List ℕ
part f at n = take n (drop at f)

-- fields one after the other
abbrev pub joined : List (List ℕ) → List ℕ
joined [] = []
joined (s ∷ ss) = s ++ joined ss
