-- What a node is made of up to its contents: its numbers, metadata, unpackers and reference, each of its own frame; names, item rows and URIs are passed over.
-- Assumes nothing.
use Prim.Native.Nat.{ℕ, ◌+◌}
use Rattle.cursor.specs.Rows.{Frame, node_frame, unpack_frame, reference_frame, Plain, item_row, plain, uri}
use Rattle.cursor.specs.Refusals.{bad_node}
use Rattle.cursor.specs.declared.Item.{Item}
use Rattle.cursor.proofs.Uses.{Allowed, Uses, after, ends, either, checks, places, passes, repeats, number-uses, block-uses, block_with, manufacturer-uses, guid-uses}
use Rattle.metadata.specs.Metadata.{Context}
use Rattle.metadata.specs.declared.Made.{Made}
use Rattle.metadata.proofs.Uses.{metadata-uses}
use Rattle.node.specs.declared.Bounds.{Bounds}
use Rattle.node.specs.Node.{header_length, head, value, identifier, unpacker, entries, unpackers, resource, node_place, uri_place, target, reference, rest, front}

pub head-uses : {S : Allowed} → S.frame node_frame → (s : Bounds) → Uses S (head s)
unfolding head header_length
head-uses r s =
    places λ p. after (number-uses _ r _) λ size.
    checks _ _ _ tt (checks _ _ _ tt (checks _ _ _ tt (after (number-uses _ r _) λ contained.
    checks _ _ _ tt (places λ h. after (number-uses _ r _) λ header. places λ q. checks _ _ _ tt (checks _ _ _ tt ends)))))

module _ {S : Allowed} (r : S.frame unpack_frame) where
  value-uses : (end : ℕ) → Uses S (value end)
  unfolding value
  value-uses end = after (number-uses _ r _) λ v. ends

  identifier-uses : (kind end : ℕ) → Uses S (identifier kind end)
  unfolding identifier
  identifier-uses kind end = either _ (guid-uses _ r _) (either _ (after (manufacturer-uses _ r _) λ m. value-uses end) (value-uses end))

  unpacker-uses : (end n : ℕ) → Uses S (unpacker end n)
  unfolding unpacker
  unpacker-uses end n = places λ p. after (number-uses _ r _) λ kind. checks _ _ _ tt (after (identifier-uses kind end) λ i. after (value-uses end) λ size. ends)

  pub unpackers-use : (contained end : ℕ) → Uses S (unpackers contained end)
  unfolding unpackers entries
  unpackers-use contained end =
      places λ p. after (block_with _ r bad_node end (λ p. S.listed bad_node p tt)) λ n. checks _ _ _ tt
      (places λ q. places λ o. after (repeats (q + n) 0 (unpacker-uses (q + n))) λ k. ends)

pub reference-uses : {S : Allowed} → S.frame reference_frame → S.part (plain uri) → (header_end size contained end : ℕ) → Uses S (reference header_end size contained end)
unfolding reference target resource node_place uri_place
reference-uses r w header_end size contained end =
    places λ p. after (number-uses _ r _) λ k. checks _ _ _ tt (checks _ _ _ tt (checks _ _ _ tt
    (either _ (places λ q. ends)
    (either _ (places λ q. after (number-uses _ r _) λ o. checks _ _ _ tt (checks _ _ _ tt ends))
    (either _ (after (number-uses _ r _) λ o. ends)
    (after (block-uses _ r _) λ n. places λ q. passes _ _ w ends))))))

pub rest-uses : {S : Allowed} → S.frame unpack_frame → S.frame reference_frame → S.part (plain uri) →
    (header_end size contained inner stop : ℕ) → Uses S (rest header_end size contained inner stop)
unfolding rest
rest-uses u r w header_end size contained inner stop = after (unpackers-use u contained inner) λ o. places λ e. checks _ _ _ tt
    (after (reference-uses r w header_end size contained stop) λ v. ends)

pub front-uses : {S : Allowed} → ((κ : Frame) → S.frame κ) → ((x : Plain) → S.part (plain x)) → ((i : Item) → S.part (item_row i)) →
    (x : Context) (parent depth : ℕ) (s : Bounds) (m : Made)
    → Uses S (front x parent depth s m)
unfolding front
front-uses r w d x parent depth s m =
    places λ p. after (head-uses (r _) s) λ h. after (metadata-uses (r _) (w _) d x _ _ m) λ m'. after (rest-uses (r _) (r _) (w _) _ _ _ _ _) λ o. ends
