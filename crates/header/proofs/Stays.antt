-- The file header is read in the file: it ends there, or is refused at a place there.
-- Assumes nothing.
use mathlib.Core.List.{List, []}
use Prim.Native.Nat.{ℕ, ◌+◌, ◌≤◌}
use native.Mathlib.Omega.{arith}
use lib.ListN.{length}
use borrow.Author.Tests.{leb-true}
use Rattle.cursor.proofs.Stays.{Stays, after, follows, ends, stops, places, place_at, skip_at, either, checks, checked, counts, next-stays, number-stays, blocks}
use Rattle.header.specs.Types.{Declared}
use Rattle.header.specs.Header.{four, opening, edition, file_length, entry, types_table, extent, header}

module _ {f : List ℕ} where
  -- in a part that ends at `end`
  module _ (end : ℕ) (o : end ≤ length f) where
    four-stays : (past : ℕ) → Stays f (four past end)
    unfolding four
    four-stays past = places λ p l. let n = next-stays _ past end o p l in after n λ a. after n λ b. after n λ c. after n λ d. ends

    opening-stays : Stays f (opening end)
    unfolding opening
    opening-stays =
        checks _ _ (omega arith) λ t. checks _ _ (omega arith) λ u. after (four-stays _) λ magic. checks _ _ (omega arith) λ v. after (four-stays _) λ version.
        either _ ends (either _ ends (either _ ends (stops (let k = leb-true 8 end u in omega arith))))

    edition-stays : (version : ℕ) → Stays f (edition end version)
    unfolding edition
    edition-stays version = either _ (after (four-stays _) λ t. after (four-stays _) λ r. ends) ends

    length-stays : Stays f (file_length end)
    unfolding file_length
    length-stays = places λ p l. after (number-stays _ _ end o) λ n. checked _ _ _ l

    entry-stays : (ds : List Declared) → Stays f (entry end ds)
    unfolding entry
    entry-stays ds =
        places λ p l. after (number-stays _ _ end o) λ t. checks _ _ l λ u. checks _ _ l λ v. after (number-stays _ _ end o) λ g.
        blocks _ _ end o λ n q k. skip_at _ n (omega arith) ends

    extent-stays : Stays f (extent end)
    unfolding extent
    extent-stays =
        places λ p l. after (number-stays _ _ end o) λ start. places λ q k. after (number-stays _ _ end o) λ last. places λ r j.
        checks _ _ l λ t. checks _ _ k λ u. checks _ _ k λ v. ends

  types-stay : (size : ℕ) → size ≤ length f → Stays f (types_table size)
  unfolding types_table
  types-stay size o =
      blocks _ _ size o λ n q k. let i : q + n ≤ length f = omega arith in
      place_at _ q ((after (number-stays _ _ (q + n) i) λ count. after (counts count [] (entry-stays (q + n) i)) λ ds. places λ e l. checks _ _ l λ t. ends).from q (omega arith))

  pub header-stays : Stays f (header (length f))
  unfolding header
  header-stays =
      let size = length f in let o : size ≤ size = omega arith in
      after (opening-stays size o) λ v. after (edition-stays size o v) λ e. follows (length-stays size o) (after (types-stay size o) λ ds. after (extent-stays size o) λ x. ends)
