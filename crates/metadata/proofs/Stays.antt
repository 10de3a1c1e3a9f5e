-- Metadata is read in the file: it ends there, or is refused at a place there.
-- Assumes nothing.
use mathlib.Core.List.{List}
use Prim.Native.Nat.{ℕ, ◌+◌, ◌≤◌}
use native.Mathlib.Omega.{arith}
use lib.ListN.{length}
use Rattle.cursor.proofs.Stays.{Stays, anywhere, after, ends, stops, places, place_at, check-at, either_at, skip_at, either, checks, repeats, counts, number-stays, blocks}
use Rattle.header.specs.Types.{Known, known, unknown, format_of}
use Rattle.metadata.specs.Metadata.{Context, field, contents, item_frame, declared_format, universal, version, rows_for, item, Count, next_item, meta_items, metadata}
use Rattle.metadata.specs.declared.Made.{Made}
use Rattle.metadata.specs.declared.Label.{Label}
use Rattle.metadata.specs.declared.Contents.{Contents}
use Rattle.metadata.specs.declared.Contents.TheVariants.{Universal, Versions}

module _ {f : List ℕ} where
  format-stays : (p : ℕ) → p ≤ length f → (k : Known) → Stays f (declared_format p k)
  unfolding declared_format
  format-stays p l (known k) = ends
  format-stays p l unknown = stops l

  -- in a part that ends at `end`
  module _ (end : ℕ) (o : end ≤ length f) where
    field-stays : Stays f (field end)
    unfolding field
    field-stays = blocks _ _ end o λ n q k. either_at _ ((after (number-stays _ _ end o) λ v. ends).from q (omega arith)) (place_at _ q (skip_at _ n (omega arith) ends))

    frame-stays : Stays f (item_frame end)
    unfolding item_frame contents
    frame-stays = after field-stays λ v. after (after (number-stays _ _ end o) λ n. either _ ends ends) λ c. ends

    rows_stay : (x : Context) (l : Label) (k : Contents) (m : Made) → Stays f (rows_for x l end k m)
    unfolding rows_for universal version
    rows_stay x l Universal m =
        places λ p i. checks _ _ i λ t. blocks _ _ end o λ n q k. let j : q + n ≤ length f = omega arith in
        check-at _ _ i λ u. place_at _ q ((after (number-stays _ _ (q + n) j) λ format. anywhere λ r h. place_at _ r (skip_at _ _ (omega arith) ends)).from q (omega arith))
    rows_stay x l (Versions n) m = counts n m λ m'.
        places λ p i. checks _ _ i λ t. after (number-stays _ _ end o) λ k. after (format-stays p i (format_of x.types k)) λ format.
        blocks _ _ end o λ n q h. place_at _ q (skip_at _ n (omega arith) ends)

  pub metadata-stays : (x : Context) (node end : ℕ) (m : Made) → end ≤ length f → Stays f (metadata x node end m)
  unfolding metadata meta_items next_item item
  metadata-stays x node end m o =
      blocks _ _ end o λ n q k. let j : q + n ≤ length f = omega arith in
      place_at _ q ((after (repeats (q + n) _
      (λ (k : Count). after (after (frame-stays (q + n) j) λ i. rows_stay (q + n) j x _ i.contents k.made) λ m'. ends)) λ k. ends).from
      q (omega arith))
