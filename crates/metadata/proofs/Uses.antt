-- What a node's metadata is made of: bytes of its frame; custom names and item rows, which are passed over.
-- Assumes nothing.
use Prim.Native.Nat.{ℕ, ◌+◌}
use Rattle.cursor.specs.Rows.{meta_frame, item_row, plain, name}
use Rattle.cursor.specs.Refusals.{bad_node}
use Rattle.cursor.specs.declared.Item.{Item}
use Rattle.cursor.proofs.Uses.{Allowed, Uses, after, ends, stops, either, checks, places, passes, repeats, counts, number-uses, block-uses, block_with}
use Rattle.header.specs.Types.{Known, known, unknown, format_of}
use Rattle.metadata.specs.Metadata.{Context, field, contents, item_frame, universal, declared_format, version, rows_for, item, Count, next_item, meta_items, metadata}
use Rattle.metadata.specs.declared.Made.{Made}
use Rattle.metadata.specs.declared.Label.{Label}
use Rattle.metadata.specs.declared.Contents.{Contents}
use Rattle.metadata.specs.declared.Contents.TheVariants.{Universal, Versions}

pub format-uses : {S : Allowed} (p : ℕ) (k : Known) → Uses S (declared_format p k)
unfolding declared_format
format-uses p (known k) = ends
format-uses p unknown = stops tt

module _ {S : Allowed} (r : S.frame meta_frame) (w : S.part (plain name)) where
  pub frame-uses : (end : ℕ) → Uses S (item_frame end)
  unfolding item_frame field contents
  frame-uses end =
      after (after (block-uses _ r _) λ n. either _ (after (number-uses _ r _) λ k. ends) (places λ p. passes _ _ w ends)) λ f.
      after (after (number-uses _ r _) λ n. either _ ends ends) λ c. ends

  module _ (d : (i : Item) → S.part (item_row i)) (x : Context) where
    rows-use : (l : Label) (end : ℕ) (k : Contents) (m : Made) → Uses S (rows_for x l end k m)
    unfolding rows_for universal version
    rows-use l end Universal m =
        places λ p. checks _ _ _ tt (after (block-uses _ r _) λ n. checks _ _ _ tt (places λ q. after (number-uses _ r _) λ format. places λ s. passes _ _ (d _) ends))
    rows-use l end (Versions n) m = counts n m λ m'.
        places λ p. checks _ _ _ tt (after (number-uses _ r _) λ t. after (format-uses p (format_of x.types t)) λ format. after (block-uses _ r _)
        λ n. places λ q. passes _ _ (d _) ends)

    pub metadata-uses : (node end : ℕ) (m : Made) → Uses S (metadata x node end m)
    unfolding metadata meta_items next_item item
    metadata-uses node end m =
        after (block_with _ r bad_node end (λ p. S.listed bad_node p tt)) λ n. places λ q.
        after (repeats (q + n) _ (λ (k : Count). after (after (frame-uses (q + n)) λ i. rows-use _ (q + n) i.contents k.made) λ m'. ends)) λ k. ends
