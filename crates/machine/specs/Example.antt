-- A worked example: entries to the file's end, each a byte that counts the bytes behind it, which are passed over and not read. Refusal 1, at the entry: it runs past the end.
-- Assumes nothing.
use Rattle.std.specs.Prelude.{◌≡◌, refl, List, [], ◌∷◌, ℕ, suc, ◌+◌, leb, length}
use Rattle.machine.specs.Machine.{Prog, ret, byte, Out, ok, refused, seen, passed, run, trace, ◌>>=◌, ◌>>◌, when◌then◌else◌, place, skip, check, turns, many}

-- what is read, and what is passed over
pub data Read : Type 0 where
  count : Read

pub data Passed : Type 0 where
  contents : Passed

-- one entry more
unfoldable pub entry : (end entries : ℕ) → Prog Read Passed ℕ
entry end entries = do
  p ← place
  size ← byte count ret
  check (leb (p + 1 + size) end) 1 p
  skip contents size
  ret (suc entries)

-- how many there are
unfoldable pub entries_of : List ℕ → Out ℕ
entries_of f = run (many (length f) (entry (length f)) 0) f 0

-- three entries, one of them empty; an entry that runs past the end; and what is read and passed over in two entries
cases : (entries_of (2 ∷ 7 ∷ 7 ∷ 0 ∷ 1 ∷ 7 ∷ []) ≡ ok 3 6)
    × (entries_of (2 ∷ 7 ∷ 7 ∷ 2 ∷ 7 ∷ []) ≡ refused 1 3)
    × (trace (many 3 (entry 3) 0) (1 ∷ 7 ∷ 0 ∷ []) 0 ≡ seen count 0 ∷ passed contents 1 1 ∷ seen count 2 ∷ passed contents 3 0 ∷ [])
unfolding run trace ◌>>=◌ ◌>>◌ when◌then◌else◌ place skip check turns many entry entries_of
cases = (refl, refl, refl)
