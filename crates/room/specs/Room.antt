-- A call's answer or refusal; and what it leaves in lent room that it fills afresh.
-- Assumes nothing.
use Rattle.std.specs.Prelude.{cond, List, ◌++◌, ℕ, ◌-◌, leb, length, replicate}

-- an answer, or a refusal's number and place
pub data Result (A : Type 0) : Type 0 where
  good : A → Result A
  bad : ℕ → ℕ → Result A

-- the refusal of a call whose room does not suffice; all other numbers are the format's
abbrev pub no_room : ℕ
no_room = 22

-- what is written, and then zeros to the room's end
unfoldable pub padded : ℕ → List ℕ → List ℕ
padded size ws = ws ++ replicate (size - length ws) 0

-- the bytes, if a buffer of `room` bytes holds them
unfoldable pub fitting : ℕ → Result (List ℕ) → Result (List ℕ)
fitting room (good s) = cond (leb (length s) room) (good s) (bad no_room 0)
fitting room (bad n p) = bad n p

-- the answer: the number of bytes
unfoldable pub counted : Result (List ℕ) → Result ℕ
counted (good s) = good (length s)
counted (bad n p) = bad n p

-- what the buffer holds: the bytes and zeros to its end; on a refusal zeros
unfoldable pub kept : ℕ → Result (List ℕ) → List ℕ
kept room (good s) = padded room s
kept room (bad n p) = replicate room 0
