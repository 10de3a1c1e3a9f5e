-- The refusals of the correction of a title are its own.
-- Assumes nothing.
use mathlib.Core.List.{List}
use Prim.Native.Nat.{ℕ, ◌^◌}
use lib.Dec.{ltb, leb}
use lib.ListN.{length}
use Rattle.cursor.specs.declared.Node.{Node}
use Rattle.cursor.specs.declared.Item.{Item}
use Rattle.header.specs.Header.{Header}
use Rattle.cursor.specs.Refusals.{Among}
use Rattle.cursor.proofs.Listed.{among-if}
use Rattle.rows.specs.Rows.{item_at}
use Rattle.title_text.specs.Title.{elsewhere, is_no_title, titled_file, fitting, correct_title, refusals}

pub title-listed : (i : ℕ) (text : List ℕ) (room : ℕ) (f : List ℕ) (h : Header) (ns : List Node) (is : List Item) → Among refusals (correct_title i text room f h ns is)
unfolding correct_title fitting
title-listed i text room f h ns is =
    among-if refusals (leb (length is) i) _ _ tt (among-if refusals (elsewhere ns) _ _ tt (among-if refusals (is_no_title (item_at is i)) _ _ tt
    (among-if refusals (leb (2 ^ 28) (length (titled_file i text f h ns is))) _ _ tt (among-if refusals (ltb room (length (titled_file i text f h ns is))) _ _ tt tt))))
