-- The fields that everything is made of: numbers, a length with its block, manufacturers, GUIDs.
-- A field is in a part that ends at `end`; where it runs past, the refusal is `past`, placed at its first byte.
-- Assumes nothing.
use Rattle.std.specs.Prelude.{ℕ, zero, suc, ◌+◌, ◌*◌, ◌%◌, ltb, leb, eqb}
use Rattle.machine.specs.Machine.{ret, refuse, here, byte, ◌>>=◌, ◌>>◌, when◌then◌else◌, place, check}
use Rattle.cursor.specs.Rows.{Frame, P}
use Rattle.cursor.specs.Refusals.{cut_short, bad_number}

-- the next byte of a field that began at p
unfoldable pub next : Frame → (past end p : ℕ) → P ℕ
next κ past end p = here λ at. when ltb at end then byte κ ret else refuse past p

-- The rest of a number that began at p: `left` bytes may still come, v is what the earlier ones gave. A byte of 80h or more goes on.
unfoldable pub digits : Frame → (past end p left v : ℕ) → P ℕ
digits κ past end p zero v = refuse bad_number p
digits κ past end p (suc left) v = do
  b ← next κ past end p
  when ltb b 0x80 then ret (v * 128 + b) else digits κ past end p left (v * 128 + b % 0x80)

-- a VLQ: at most four bytes
unfoldable pub number : Frame → (past end : ℕ) → P ℕ
number κ past end = do
  p ← place
  digits κ past end p 4 0

-- a length and the block that it counts, which are one field: judged at the length, before the block is read
unfoldable pub block : Frame → (past end : ℕ) → P ℕ
block κ past end = do
  p ← place
  size ← number κ past end
  q ← place
  check (leb (q + size) end) past p
  ret size

-- one byte, or three when the first is 0
unfoldable pub manufacturer : Frame → (end : ℕ) → P (Unit {0})
manufacturer κ end = do
  p ← place
  b ← next κ cut_short end p
  when eqb b 0
      then (do
        c ← next κ cut_short end p
        d ← next κ cut_short end p
        ret tt)
      else ret tt

-- a GUID: 1 to 19 bytes, ended by the first below 80h as a number is; its value is not kept
unfoldable pub guid : Frame → (end : ℕ) → P (Unit {0})
guid κ end = do
  p ← place
  v ← digits κ cut_short end p 19 0
  ret tt
