-- What the code's answer says, and what a call leaves: each is one line of its contract.
-- Assumes nothing.
use Rattle.std.specs.Prelude.{List, [], ◌∷◌, ℕ, length}
use Rattle.refusals.specs.Told as refusals
use Rattle.metadata.specs.Tables.{limits}
use Rattle.file.specs.Asking.{Result, kept_nodes, kept_items, reads, answered}
use Rattle.account.specs.Account.{kinds_of}
use Rattle.account.specs.Totals.{allowed, totals_left}
use Rattle.account.specs.declared.Kinds.{Kinds}
use Rattle.account.specs.declared.Totals.{Totals}
use Rattle.account.specs.declared.Accounted.{Accounted}

abbrev pub told : Accounted → Result Kinds
told a = refusals.told a.kinds

abbrev pub totals_in : Accounted → Totals
totals_in a = a.totals

-- in words: the nine counts; files, refused and the nine sums
abbrev pub kind_words : Kinds → List ℕ
kind_words k = k.header ∷ k.nodes ∷ k.metadata ∷ k.visible ∷ k.hidden ∷ k.unpackers ∷ k.references ∷ k.inline ∷ k.rest ∷ []

abbrev pub total_words : Totals → List ℕ
total_words t = t.files ∷ t.refused ∷ kind_words t.kinds

-- ---- of the tables and the file that are lent, and the totals handed in

-- what the file by itself gives
abbrev pub in_file : (nodes items file : List ℕ) → Result Kinds
in_file nodes items file = answered nodes items file (kinds_of (limits (length nodes) (length items)))

-- the answer, the totals, and the tables
abbrev pub answer : Totals → (nodes items file : List ℕ) → Result Kinds
answer t nodes items file = allowed t (in_file nodes items file)

abbrev pub totals_after : Totals → (nodes items file : List ℕ) → Totals
totals_after t nodes items file = totals_left t (in_file nodes items file)

abbrev pub nodes_after : Totals → (nodes items file : List ℕ) → List ℕ
nodes_after t nodes items file = kept_nodes (length nodes) (reads nodes items file) (answer t nodes items file)

abbrev pub items_after : Totals → (nodes items file : List ℕ) → List ℕ
items_after t nodes items file = kept_items (length items) (reads nodes items file) (answer t nodes items file)
