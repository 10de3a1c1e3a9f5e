-- A content description (02, E4; document 002, section 10): the data of field 13, one line a field, in a part that ends at `end`.
-- Assumes nothing.
use Rattle.std.specs.Prelude.{cond, ◌||◌, List, [], ◌∷◌, ℕ, zero, suc, ◌*◌, leb, eqb}
use Rattle.machine.specs.Machine.{ret, ◌>>=◌, ◌>>◌, place, check, times}
use Rattle.cursor.specs.Rows.{P, meta_frame}
use Rattle.cursor.specs.Refusals.{cut_short, bad_description}
use Rattle.cursor.specs.Leaves.{next, number, manufacturer}

-- ---- the resource list

-- a VLQ whose value is not kept
unfoldable pub value : ℕ → P (Unit {0})
value end = do
  v ← number meta_frame cut_short end
  ret tt

-- a byte of a GUID that began at p
unfoldable pub a_byte : (end p : ℕ) → P (Unit {0})
a_byte end p = do
  b ← next meta_frame cut_short end p
  ret tt

-- sixteen plain bytes
unfoldable pub guid : ℕ → P (Unit {0})
guid end = do
  p ← place
  times 16 (λ _. a_byte end p) tt

-- what names a resource, by its kind: 0, 2 and 4 a VLQ, 1 a manufacturer and a VLQ, 3 and 5 a GUID
unfoldable pub identifier : (kind end : ℕ) → P (Unit {0})
identifier kind end =
    cond (eqb kind 3 || eqb kind 5) (guid end)
    (cond (eqb kind 1)
    (do
      m ← manufacturer meta_frame end
      value end)
    (value end))

-- an entry: a kind, and what names the resource
unfoldable pub resource : ℕ → P (Unit {0})
resource end = do
  p ← place
  kind ← number meta_frame cut_short end
  check (leb kind 5) bad_description p
  identifier kind end

-- ---- the whole item

-- n numbers, in their order
unfoldable pub numbers : (n end : ℕ) → P (List ℕ)
numbers zero end = ret []
numbers (suc n) end = do
  v ← number meta_frame cut_short end
  vs ← numbers n end
  ret (v ∷ vs)

-- what an item says: how many channels and resources it describes, and the count table, row after row: a row a channel, a count a resource
pub record Description : Type 0 where
  pub channels : ℕ
  pub resources : ℕ
  pub counts : List ℕ

-- the resource list and the group list
unfoldable pub lists : (resources end : ℕ) → P (Unit {0})
lists resources end = do
  named ← times resources (λ _. resource end) tt
  groups ← numbers resources end
  ret tt

-- the count table, and no byte more; with no resources it is empty, whatever the channels
unfoldable pub table : (channels resources end : ℕ) → P Description
table channels resources end = do
  counts ← numbers (channels * resources) end
  p ← place
  check (leb end p) bad_description p
  ret (record { channels = channels; resources = resources; counts = counts })

-- the item
unfoldable pub description : ℕ → P Description
description end = do
  message ← number meta_frame cut_short end
  channels ← number meta_frame cut_short end
  resources ← number meta_frame cut_short end
  l ← lists resources end
  table channels resources end
