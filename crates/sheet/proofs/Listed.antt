-- The refusals of the sheet are its own, in both editions.
-- Assumes nothing.
use mathlib.Core.List.{List}
use Prim.Native.Nat.{ℕ}
use Rattle.cursor.specs.declared.Node.{Node}
use Rattle.cursor.specs.declared.Item.{Item}
use Rattle.header.specs.Header.{Header}
use Rattle.room.specs.Room.{good}
use Rattle.cursor.specs.Refusals.{Among}
use Rattle.cursor.proofs.Listed.{fitting-among}
use Rattle.sheet.specs.Sheet.{sheet_of, write, lines2_of, write2, refusals}

pub sheet_listed : (room : ℕ) (f : List ℕ) (h : Header) (ns : List Node) (is : List Item) → Among refusals (write room f h ns is)
unfolding write
sheet_listed room f h ns is = fitting-among refusals tt room (good (sheet_of f h ns is)) tt

pub sheet2_listed : (room : ℕ) (f : List ℕ) (h : Header) (ns : List Node) (is : List Item) → Among refusals (write2 room f h ns is)
unfolding write2
sheet2_listed room f h ns is = fitting-among refusals tt room (good (lines2_of h.version f ns is)) tt
