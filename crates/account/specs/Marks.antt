-- The kinds of all places of a file, in file order, in a buffer with a byte for each (02, E9).
-- Assumes nothing.
use Rattle.std.specs.Prelude.{◌≡◌, List, ℕ, ◌<◌, length, get_or}
use Rattle.room.specs.Room.{Result, good, fitting}
use Rattle.metadata.specs.Tables.{limits}
use Rattle.metadata.specs.declared.Limits.{Limits}
use Rattle.file.specs.Asking.{Asks, reads, answered, kept_nodes, kept_items}
use Rattle.account.specs.Account.{kinds_from, events_of}
use Rattle.account.specs.ByPlace.{over}

-- the question: 22 where a buffer of `room` bytes has fewer than the file
unfoldable pub marks_of : Limits → (room : ℕ) → Asks (List ℕ)
marks_of lim room f h ns is = fitting room (good (kinds_from (events_of lim f h) 0 (length f)))

-- ---- of the tables and the file that are lent, and a buffer of `room` bytes: the answer, and the tables

abbrev pub marked : (nodes items file : List ℕ) → (room : ℕ) → Result (List ℕ)
marked nodes items file room = answered nodes items file (marks_of (limits (length nodes) (length items)) room)

abbrev pub nodes_marked : (nodes items file : List ℕ) → (room : ℕ) → List ℕ
nodes_marked nodes items file room = kept_nodes (length nodes) (reads nodes items file) (marked nodes items file room)

abbrev pub items_marked : (nodes items file : List ℕ) → (room : ℕ) → List ℕ
items_marked nodes items file room = kept_items (length items) (reads nodes items file) (marked nodes items file room)

-- ---- the code's way: marks that are painted over, the later over the earlier

-- each mark is what a map of places says
abbrev pub Shows : List ℕ → (ℕ → ℕ) → Type 0
Shows t m = (k : ℕ) → k < length t → get_or t k 0 ≡ m k

-- marks that showed a map show it changed
pub record Becomes (t t' : List ℕ) (change : (ℕ → ℕ) → ℕ → ℕ) : Type 0 where
  pub same : length t' ≡ length t
  pub shows : (m : ℕ → ℕ) → Shows t m → Shows t' (change m)

-- by a span
unfoldable pub spanned : (from to kind : ℕ) → (ℕ → ℕ) → ℕ → ℕ
spanned from to kind m = over m (record { from = from; to = to; kind = kind })
