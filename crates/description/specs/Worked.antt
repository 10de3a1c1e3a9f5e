-- Descriptions computed in one test: the example of document 002, section 10.4, with all its counts; every kind; and what is refused, where.
-- Assumes nothing.
use Rattle.std.specs.Prelude.{◌≡◌, refl, List, [], ◌∷◌, ◌++◌, ℕ, length, take}
use Rattle.machine.specs.Machine.{run, ◌>>=◌, ◌>>◌, when◌then◌else◌, place, check, times}
use Rattle.cursor.specs.Leaves.{next, digits, number, manufacturer}
use Rattle.file.specs.Asking.{Result, good, bad}
use Rattle.description.specs.Description.{value, a_byte, guid, identifier, resource, numbers, lists, table, description}
use Rattle.description.specs.Count.{count_at, count_of}

-- the count that the bytes, as an item's whole data, give for a channel and a resource
unfoldable pub count : List ℕ → (channel resource : ℕ) → Result ℕ
count s c r = count_of c r (run (description (length s)) s 0)

-- section 10.4: MIP message 0, four channels, three resources; the standard resources 1, 2 and 3, their groups, and the table
abbrev pub example : List ℕ
example =
    0x00 ∷ 0x04 ∷ 0x03 ∷ 0x00 ∷ 0x01 ∷ 0x00 ∷ 0x02 ∷ 0x00 ∷ 0x03 ∷ 0x00 ∷ 0x00 ∷ 0x02
    ∷ 0x02 ∷ 0x00 ∷ 0x01
    ∷ 0x03 ∷ 0x00 ∷ 0x01
    ∷ 0x05 ∷ 0x00 ∷ 0x01
    ∷ 0x05 ∷ 0x02 ∷ 0x01 ∷ []

-- sixteen bytes, any of which may be 80h or more
abbrev pub sixteen : List ℕ
sixteen = 0x80 ∷ 0xFF ∷ 0xFF ∷ 0xFF ∷ 0xFF ∷ 0x00 ∷ 0x7F ∷ 0x06 ∷ 0x80 ∷ 0x80 ∷ 0x80 ∷ 0x80 ∷ 0x01 ∷ 0x02 ∷ 0x03 ∷ 0xC5 ∷ []

-- one channel, and a resource of each kind, the manufacturer's with one byte and with three
abbrev pub kinds : List ℕ
kinds =
    0x02 ∷ 0x01 ∷ 0x07 ∷ 0x00 ∷ 0x04 ∷ 0x01 ∷ 0x41 ∷ 0x0A ∷ 0x01 ∷ 0x00 ∷ 0x7C ∷ 0x7F ∷ 0x0A ∷ 0x02 ∷ 0x81 ∷ 0x45
    ∷ 0x03 ∷ sixteen ++ 0x04 ∷ 0x01 ∷ 0x05 ∷ sixteen
    ++ 0x00 ∷ 0x00 ∷ 0x00 ∷ 0x00 ∷ 0x00 ∷ 0x01 ∷ 0x01
    ∷ 0x0A ∷ 0x0B ∷ 0x0C ∷ 0x0D ∷ 0x0E ∷ 0x80 ∷ 0x80 ∷ 0x80 ∷ 0x0F ∷ 0xFF ∷ 0xFF ∷ 0xFF ∷ 0x7F ∷ []

cases : (count example 0 0 ≡ good 2)
    × (count example 0 1 ≡ good 0)
    × (count example 0 2 ≡ good 1)
    × (count example 1 0 ≡ good 3)
    × (count example 1 1 ≡ good 0)
    × (count example 1 2 ≡ good 1)
    × (count example 2 0 ≡ good 5)
    × (count example 2 1 ≡ good 0)
    × (count example 2 2 ≡ good 1)
    × (count example 3 0 ≡ good 5)
    × (count example 3 1 ≡ good 2)
    × (count example 3 2 ≡ good 1)
    × (count example 4 0 ≡ bad 23 0)
    × (count example 0 3 ≡ bad 23 0)
    × (count (take 23 example) 0 0 ≡ bad 25 23)
    × (count (take 23 example) 4 0 ≡ bad 25 23)
    × (count (example ++ 0x00 ∷ []) 4 0 ≡ bad 25 24)
    × (count kinds 0 0 ≡ good 10)
    × (count kinds 0 5 ≡ good 15)
    × (count kinds 0 6 ≡ good 268435455)
    × (count (0x00 ∷ 0x01 ∷ 0x01 ∷ 0x02 ∷ 0xC5 ∷ 0x00 ∷ 0x07 ∷ []) 0 0 ≡ bad 25 7)
    × (count (0x00 ∷ 0x01 ∷ 0x01 ∷ 0x06 ∷ 0x00 ∷ 0x00 ∷ 0x07 ∷ []) 0 0 ≡ bad 25 3)
    × (count (0x00 ∷ 0x01 ∷ 0x01 ∷ 0x03 ∷ take 15 sixteen) 0 0 ≡ bad 25 4)
    × (count (0x00 ∷ 0x01 ∷ 0x01 ∷ 0x03 ∷ []) 0 0 ≡ bad 25 4)
    × (count (0x00 ∷ 0x01 ∷ 0x01 ∷ 0x01 ∷ 0x00 ∷ 0x7C ∷ []) 0 0 ≡ bad 25 4)
    × (count (0x00 ∷ 0xFF ∷ 0xFF ∷ 0xFF ∷ 0xFF ∷ []) 0 0 ≡ bad 25 1)
    × (count (0x00 ∷ 0xFF ∷ 0xFF ∷ 0xFF ∷ 0x7F ∷ 0x00 ∷ []) 0 0 ≡ bad 23 0)
    × (count (0x00 ∷ 0xFF ∷ 0xFF ∷ 0xFF ∷ 0x7F ∷ 0x00 ∷ 0x00 ∷ []) 0 0 ≡ bad 25 6)
    × (count (0x00 ∷ 0x00 ∷ 0xFF ∷ 0xFF ∷ 0xFF ∷ 0x7F ∷ 0x00 ∷ 0x00 ∷ []) 0 0 ≡ bad 25 8)
    × (count (0x00 ∷ 0x00 ∷ 0x01 ∷ 0x00 ∷ 0x00 ∷ 0x00 ∷ []) 0 0 ≡ bad 23 0)
    × (count [] 0 0 ≡ bad 25 0)
unfolding run ◌>>=◌ ◌>>◌ when◌then◌else◌ place check times next digits number manufacturer value a_byte guid identifier resource numbers lists table description count_at count_of count
cases = (refl, refl, refl, refl, refl, refl, refl, refl, refl, refl, refl, refl, refl, refl, refl, refl, refl, refl, refl, refl, refl, refl, refl, refl, refl, refl, refl, refl, refl, refl, refl)
