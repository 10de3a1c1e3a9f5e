-- A node up to its contents is read in the file: it ends there, or is refused at a place there.
-- Assumes nothing.
use mathlib.Core.List.{List}
use Prim.Native.Nat.{ℕ, ◌+◌, ◌≤◌}
use native.Mathlib.Omega.{arith}
use lib.ListN.{length}
use borrow.Author.Tests.{leb-true}
use Rattle.cursor.proofs.Stays.{Stays, anywhere, after-at, after, ends, places, place_at, check-at, skip_at, either, checks, repeats, number-stays, blocks, manufacturer-stays, guid-stays}
use Rattle.metadata.specs.Metadata.{Context}
use Rattle.metadata.specs.declared.Made.{Made}
use Rattle.metadata.proofs.Stays.{metadata-stays}
use Rattle.node.specs.Node.{header_length, head, value, identifier, unpacker, entries, unpackers, resource, node_place, uri_place, target, reference, rest, front}
use Rattle.node.specs.declared.Bounds.{Bounds}
use Rattle.node.proofs.Ends.{head-inside}

module _ {f : List ℕ} where
  -- the bounds of a node, and the number that names it, are in the file
  module _ (s : Bounds) (o : s.end.0 ≤ length f) (i : s.offset.0 ≤ length f) where
    head-stays : Stays f (head s)
    unfolding head header_length
    head-stays =
        places λ p l. after (number-stays _ _ s.end.0 o) λ n. checks _ _ l λ t. let k : p + n ≤ length f = let z = leb-true (p + n) s.end.0 t in omega arith in
        checks _ _ l λ u. checks _ _ i λ v. after (number-stays _ _ (p + n) k) λ contained. checks _ _ i λ w.
        places λ h j. after (number-stays _ _ (p + n) k) λ header. places λ q y. checks _ _ j λ a. checks _ _ j λ b. ends

  -- in a part that ends at `end`
  module _ (end : ℕ) (o : end ≤ length f) where
    value_stays : Stays f (value end)
    unfolding value
    value_stays = after (number-stays _ _ end o) λ v. ends

    identifier-stays : (kind : ℕ) → Stays f (identifier kind end)
    unfolding identifier
    identifier-stays kind = either _ (guid-stays _ end o) (either _ (after (manufacturer-stays _ end o) λ m. value_stays) value_stays)

    unpacker-stays : (n : ℕ) → Stays f (unpacker end n)
    unfolding unpacker
    unpacker-stays n = places λ p l. after (number-stays _ _ end o) λ kind. checks _ _ l λ t. after (identifier-stays kind) λ i. after value_stays λ size. ends

    reference-stays : (header_end size contained : ℕ) → Stays f (reference header_end size contained end)
    unfolding reference target resource node_place uri_place
    reference-stays header_end size contained =
        places λ p l. after (number-stays _ _ end o) λ k. checks _ _ l λ t. checks _ _ l λ u. checks _ _ l λ v.
        either _ (places λ q j. ends)
        (either _ (places λ q j. after (number-stays _ _ end o) λ w. checks _ _ j λ a. checks _ _ j λ b. ends)
        (either _ (after (number-stays _ _ end o) λ w. ends) (blocks _ _ end o λ n q h. place_at _ q (skip_at _ n (omega arith) ends))))

  unpackers-stay : (contained end : ℕ) → end ≤ length f → Stays f (unpackers contained end)
  unfolding unpackers entries
  unpackers-stay contained end o =
      places λ p l. blocks _ _ end o λ n q k. let j : q + n ≤ length f = omega arith in
      check-at _ _ l λ t. place_at _ q ((places λ r h. after (repeats (q + n) 0 (unpacker-stays (q + n) j)) λ c. ends).from q (omega arith))

  rest-stays : (header_end size contained inner stop : ℕ) → inner ≤ length f → stop ≤ length f → Stays f (rest header_end size contained inner stop)
  unfolding rest
  rest-stays header_end size contained inner stop o i = after (unpackers-stay contained inner o) λ u. places λ e l. checks _ _ l λ t. after
      (reference-stays stop i header_end size contained) λ r. ends

  pub front-stays : (x : Context) (parent depth : ℕ) (s : Bounds) (m : Made) → s.end.0 ≤ length f → s.offset.0 ≤ length f → Stays f (front x parent depth s m)
  unfolding front
  front-stays x parent depth s m o i =
      anywhere λ at l. place_at _ at (after-at ((head-stays s o i).from at l) λ h q e k. let y = head-inside s f at e in
      (after (metadata-stays x m.nodes (at + h.header.0) m (omega arith)) λ m'. after
      (rest-stays _ _ _ (at + h.header.0) (at + h.size.0) (omega arith) (omega arith)) λ r. ends).from q k)
