-- The count depends on the rows and on the data of its own row alone: no other byte of the file counts. Nor does any other byte for whether a row is readable.
-- Assumes nothing.
use mathlib.Core.Path.{◌≡◌, refl, ap}
use mathlib.Core.Bool.{Bool, true, false, cond, ◌||◌}
use mathlib.Core.List.{List}
use Prim.Native.Nat.{ℕ, zero, suc, ◌+◌, ◌<◌}
use lib.Dec.{ltb, eqb}
use lib.ListN.{length}
use borrow.Author.Tests.{ltb-true}
use Rattle.cursor.specs.Rows.{P}
use Rattle.cursor.specs.declared.Node.{Node}
use Rattle.cursor.specs.declared.Item.{Item}
use Rattle.machine.proofs.Within.{Within, same, after, ends, checks, places, counts}
use Rattle.cursor.proofs.Within.{next-within, number-within, manufacturer-within}
use Rattle.machine.proofs.Agree.{Agree}
use Rattle.header.specs.Header.{Header}
use Rattle.rows.specs.Rows.{item_at}
use Rattle.description.specs.Row.{is_description}
use Rattle.description.specs.Description.{value, a_byte, guid, identifier, resource, numbers, lists, table, description}
use Rattle.description.specs.Count.{data_read, is_readable, is_read, count_of, count_in, count_row, count_for}
use Rattle.description.proofs.Tests.{description-is}

-- ---- a description is read in its part

module _ (end : ℕ) where
  value-within : Within end (value end)
  unfolding value
  value-within = after (number-within _ _ end) λ v. ends

  guid-within : Within end (guid end)
  unfolding guid a_byte
  guid-within = places λ p. counts 16 tt λ _. after (next-within _ end _ p) λ b. ends

  by_test : (b : Bool) {m n : P (Unit {0})} → Within end m → Within end n → Within end (cond b m n)
  by_test true h k = h
  by_test false h k = k

  resource-within : Within end (resource end)
  unfolding resource identifier
  resource-within =
      places λ p. after (number-within _ _ end) λ kind. checks _ _ _
      (by_test (eqb kind 3 || eqb kind 5) guid-within (by_test (eqb kind 1) (after (manufacturer-within _ end) λ m. value-within) value-within))

  numbers-within : (n : ℕ) → Within end (numbers n end)
  unfolding numbers
  numbers-within zero = ends
  numbers-within (suc n) = after (number-within _ _ end) λ v. after (numbers-within n) λ vs. ends

  pub description-within : Within end (description end)
  unfolding description lists table
  description-within =
      after (number-within _ _ end) λ message. after (number-within _ _ end) λ channels. after (number-within _ _ end) λ resources.
      after (after (counts resources tt λ _. resource-within) λ named. after (numbers-within resources) λ groups. ends) λ l.
      after (numbers-within _) λ counts. places λ p. checks _ _ _ ends

-- ---- two files that agree on a row's data

module _ (f g : List ℕ) where
  abbrev pub Same : Item → Type 0
  Same r = Agree f g r.place r.size

  data_same : (r : Item) → Same r → data_read f r ≡ data_read g r
  unfolding data_read
  data_same r h = same (description-within (r.place + r.size)) f g r.place h

  pub readable_same : (r : Item) → Same r → is_readable f r ≡ is_readable g r
  unfolding is_readable
  readable_same r h = ap is_read (data_same r h)

  -- ---- the question

  where_true : {A : Type 0} (b : Bool) {x y : A} (z : A) → (b ≡ true → x ≡ y) → cond b x z ≡ cond b y z
  where_true true z h = h refl
  where_true false z h = refl

  -- the files agree on a row's data if its field is 13
  abbrev pub Described : Item → Type 0
  Described r = r.kind ≡ 0 → r.field ≡ 13 → Same r

  in_same : (channel resource : ℕ) (r : Item) → Described r → count_in f channel resource r ≡ count_in g channel resource r
  unfolding count_in
  in_same channel resource r h = where_true (is_description r) _ λ t. let x = description-is r t in ap (count_of channel resource) (data_same r (h x.0 x.1))

  pub count_same : (row channel resource : ℕ) (h : Header) (ns : List Node) (is : List Item) → ((i : ℕ) → i < length is → Described (item_at is i))
      → count_for row channel resource f h ns is ≡ count_for row channel resource g h ns is
  unfolding count_for count_row
  count_same row channel resource h ns is d = where_true (ltb row (length is)) _ λ t. in_same channel resource (item_at is row) (d row (ltb-true row (length is) t))
