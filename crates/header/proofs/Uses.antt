-- What the file header is made of: bytes of its frame, and languages, which are passed over.
-- Assumes nothing.
use mathlib.Core.List.{List, []}
use Prim.Native.Nat.{ℕ, ◌+◌}
use Rattle.cursor.specs.Rows.{file_frame, plain, language}
use Rattle.cursor.proofs.Uses.{InList, Allowed, Uses, after, follows, ends, stops, either, checks, checked, places, passes, counts, next-with, number-uses, block-uses}
use Rattle.header.specs.Types.{Declared}
use Rattle.header.specs.Header.{four, opening, edition, file_length, entry, types_table, extent, header}

module _ {S : Allowed} (r : S.frame file_frame) (w : S.part (plain language)) where
  four-uses : (past end : ℕ) → ((p : ℕ) → InList past p) → Uses S (four past end)
  unfolding four
  four-uses past end i =
      let n = next-with _ r past end (λ p. S.listed past p (i p)) in
      places λ p. after (n p) λ a. after (n p) λ b. after (n p) λ c. after (n p) λ d. ends

  opening-uses : (size : ℕ) → Uses S (opening size)
  unfolding opening
  opening-uses size =
      checks _ _ _ tt (checks _ _ _ tt
      (after (four-uses _ _ (λ p. tt)) λ magic. checks _ _ _ tt
      (after (four-uses _ _ (λ p. tt)) λ version. either _ ends (either _ ends (either _ ends (stops tt))))))

  edition-uses : (size version : ℕ) → Uses S (edition size version)
  unfolding edition
  edition-uses size version = either _ (after (four-uses _ _ (λ p. tt)) λ t. after (four-uses _ _ (λ p. tt)) λ r. ends) ends

  length-uses : (size : ℕ) → Uses S (file_length size)
  unfolding file_length
  length-uses size = places λ p. after (number-uses _ r _) λ n. checked _ _ _ tt

  entry-uses : (end : ℕ) (ds : List Declared) → Uses S (entry end ds)
  unfolding entry
  entry-uses end ds = places λ p. after (number-uses _ r _) λ t. checks _ _ _ tt (checks _ _ _ tt (after (number-uses _ r _) λ f. after (block-uses _ r _) λ n. passes _ _ w ends))

  types-use : (size : ℕ) → Uses S (types_table size)
  unfolding types_table
  types-use size = after (block-uses _ r _) λ n. places λ q. after (number-uses _ r _) λ count. after (counts count [] (entry-uses (q + n))) λ ds. places λ e. checks _ _ _ tt ends

  extent-uses : (size : ℕ) → Uses S (extent size)
  unfolding extent
  extent-uses size =
      places λ p. after (number-uses _ r _) λ start. places λ q. after (number-uses _ r _) λ last. places λ e. checks _ _ _ tt (checks _ _ _ tt (checks _ _ _ tt ends))

  pub header-uses : (size : ℕ) → Uses S (header size)
  unfolding header
  header-uses size = after (opening-uses size) λ v. after (edition-uses size v) λ e. follows (length-uses size) (after (types-use size) λ ds. after (extent-uses size) λ x. ends)
