-- The refusals of a count are its own.
-- Assumes nothing.
use mathlib.Core.Bool.{◌&&◌}
use mathlib.Core.List.{List}
use Prim.Native.Nat.{ℕ}
use lib.Dec.{ltb}
use lib.ListN.{length}
use Rattle.machine.specs.Machine.{Out, ok, refused}
use Rattle.cursor.specs.declared.Node.{Node}
use Rattle.cursor.specs.declared.Item.{Item}
use Rattle.header.specs.Header.{Header}
use Rattle.cursor.specs.Refusals.{Among}
use Rattle.cursor.proofs.Listed.{among-if}
use Rattle.rows.specs.Rows.{item_at}
use Rattle.description.specs.Row.{is_description}
use Rattle.description.specs.Description.{Description}
use Rattle.description.specs.Count.{data_read, count_at, count_of, count_in, count_row, count_for, refusals}

read-listed : (channel resource : ℕ) (o : Out Description) → Among refusals (count_of channel resource o)
unfolding count_of count_at
read-listed channel resource (ok d q) = among-if refusals (ltb channel d.channels && ltb resource d.resources) _ _ tt tt
read-listed channel resource (refused n p) = tt

row_listed : (f : List ℕ) (channel resource : ℕ) (x : Item) → Among refusals (count_in f channel resource x)
unfolding count_in
row_listed f channel resource x = among-if refusals (is_description x) _ _ (read-listed channel resource (data_read f x)) tt

pub count-listed : (item channel resource : ℕ) (f : List ℕ) (h : Header) (ns : List Node) (is : List Item) → Among refusals (count_for item channel resource f h ns is)
unfolding count_for count_row
count-listed item channel resource f h ns is = among-if refusals (ltb item (length is)) _ _ (row_listed f channel resource (item_at is item)) tt
