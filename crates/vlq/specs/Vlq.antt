-- Numbers as they are written: in a given count of bytes, and in the least that holds them, also where a length counts its own bytes.
-- Assumes nothing.
use Rattle.std.specs.Prelude.{cond, List, [], ◌∷◌, ℕ, zero, suc, ◌+◌, ◌/◌, ◌%◌, ◌^◌, ltb, length}
use Rattle.room.specs.Parts.{joined}

-- what a byte with k bytes after it has added: 80h, and the last nothing
abbrev pub mark : ℕ → ℕ
mark zero = 0
mark (suc k) = 0x80

-- n in k bytes: seven bits a byte, high part first
unfoldable pub in_bytes : ℕ → ℕ → List ℕ
in_bytes zero n = []
in_bytes (suc k) n = (mark k + n / 128 ^ k % 128) ∷ in_bytes k n

-- the first of the counts k to k + more that holds the number n, which may depend on the count; the last of them if none does
unfoldable pub from : (more k : ℕ) → (ℕ → ℕ) → ℕ
from zero k n = k
from (suc more) k n = cond (ltb (n k) (128 ^ k)) k (from more (suc k) n)

-- the least count of bytes, 1 to 4, that holds the number n, which may depend on that count
unfoldable pub least : (ℕ → ℕ) → ℕ
least n = from 3 1 n

-- a number in its shortest form
unfoldable pub vlq : ℕ → List ℕ
vlq n = in_bytes (least (λ _. n)) n

-- a block and its length
unfoldable pub sized : List ℕ → List ℕ
sized s = joined (vlq (length s) ∷ s ∷ [])
