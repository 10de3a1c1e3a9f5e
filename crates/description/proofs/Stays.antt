-- A content description is read in the file: refusal 25 is placed at one of its bytes, or at its end.
-- Assumes nothing.
use mathlib.Core.Path.{◌≡◌, refl}
use mathlib.Core.Bool.{Bool, true, false, cond, ◌&&◌, ◌||◌}
use mathlib.Core.List.{List}
use Prim.Native.Nat.{ℕ, zero, suc, ◌+◌, ◌≤◌}
use native.Mathlib.Omega.{arith}
use lib.Dec.{ltb, eqb}
use lib.ListN.{length}
use borrow.Author.Tests.{ltb-true}
use Rattle.machine.specs.Machine.{Out, ok, refused}
use Rattle.cursor.specs.Rows.{P}
use Rattle.cursor.specs.declared.Node.{Node}
use Rattle.cursor.specs.declared.Item.{Item}
use Rattle.cursor.proofs.Stays.{Inside, Stays, after, ends, places, checks, counts, next-stays, number-stays, manufacturer-stays}
use Rattle.header.specs.Header.{Header}
use Rattle.room.specs.Room.{bad}
use Rattle.cursor.specs.Refusals.{PlacedIn}
use Rattle.cursor.proofs.Listed.{placed-if}
use Rattle.rows.specs.Rows.{item_at, ItemsIn}
use Rattle.description.specs.Row.{is_description}
use Rattle.description.specs.Description.{Description, value, a_byte, guid, identifier, resource, numbers, lists, table, description}
use Rattle.description.specs.Count.{data_read, count_at, count_of, count_in, count_row, count_for}

module _ {f : List ℕ} where
  -- in a part that ends at `end`
  module _ (end : ℕ) (o : end ≤ length f) where
    value_stays : Stays f (value end)
    unfolding value
    value_stays = after (number-stays _ _ end o) λ v. ends

    guid-stays : Stays f (guid end)
    unfolding guid a_byte
    guid-stays = places λ p l. counts 16 tt λ _. after (next-stays _ _ end o p l) λ b. ends

    by_test : (b : Bool) {m n : P (Unit {0})} → Stays f m → Stays f n → Stays f (cond b m n)
    by_test true h k = h
    by_test false h k = k

    resource-stays : Stays f (resource end)
    unfolding resource identifier
    resource-stays =
        places λ p l. after (number-stays _ _ end o) λ kind. checks _ _ l λ t.
        by_test (eqb kind 3 || eqb kind 5) guid-stays (by_test (eqb kind 1) (after (manufacturer-stays _ end o) λ m. value_stays) value_stays)

    numbers_stay : (n : ℕ) → Stays f (numbers n end)
    unfolding numbers
    numbers_stay zero = ends
    numbers_stay (suc n) = after (number-stays _ _ end o) λ v. after (numbers_stay n) λ vs. ends

    description-stays : Stays f (description end)
    unfolding description lists table
    description-stays =
        let n = number-stays _ _ end o in
        after n λ message. after n λ channels. after n λ resources.
        after (after (counts resources tt λ _. resource-stays) λ named. after (numbers_stay resources) λ groups. ends) λ l.
        after (numbers_stay _) λ table. places λ p k. checks _ _ k λ t. ends

-- ---- the question

module _ (f : List ℕ) (c r : ℕ) where
  read-placed : (o : Out Description) → Inside (length f) o → PlacedIn (length f) (count_of c r o)
  unfolding count_of count_at
  read-placed (ok d q) w = placed-if _ (ltb c d.channels && ltb r d.resources) _ _ tt (λ i. absurd i)
  read-placed (refused n p) w = λ i. w

  row-placed : (x : Item) → x.place + x.size ≤ length f → PlacedIn (length f) (count_in f c r x)
  unfolding count_in data_read
  row-placed x l = placed-if _ (is_description x) _ _ (read-placed _ ((description-stays (x.place + x.size) l).from x.place (omega arith)).inside) (λ i. absurd i)

  pub count-placed : (row : ℕ) (h : Header) (ns : List Node) (is : List Item) → ItemsIn (length f) is → PlacedIn (length f) (count_for row c r f h ns is)
  unfolding count_for count_row
  count-placed row h ns is a = by (ltb row (length is)) refl
    where
      by : (b : Bool) → ltb row (length is) ≡ b → PlacedIn (length f) (cond b (count_in f c r (item_at is row)) (bad 18 0))
      by true e = row-placed (item_at is row) (a row (ltb-true _ _ e)).0
      by false e = λ i. absurd i
