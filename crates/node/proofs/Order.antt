-- A node up to its contents: its items' rows are counted by its own row, which is yet to be made.
-- Assumes nothing.
use mathlib.Core.Path.{◌≡◌, refl}
use Prim.Native.Nat.{ℕ, ◌+◌}
use native.Mathlib.Omega.{arith}
use Rattle.cursor.proofs.Order.{Orders, after, ends, places, then_rowless}
use Rattle.metadata.specs.Metadata.{Context}
use Rattle.metadata.specs.declared.Made.{Made}
use Rattle.metadata.proofs.Order.{metadata-orders}
use Rattle.node.specs.declared.Bounds.{Bounds}
use Rattle.node.specs.Node.{front}
use Rattle.node.proofs.Uses.{head-uses, rest-uses}

pub front-orders : (x : Context) (parent depth : ℕ) (s : Bounds) (m : Made) → Orders (front x parent depth s m)
    (λ w k c. (k ≡ m.nodes) × (w.made.nodes ≡ m.nodes) × (w.row.rows ≡ c) × (w.row.parent ≡ parent)) m.nodes 0
unfolding front
front-orders x parent depth s m =
    places λ p. then_rowless (head-uses tt s) λ h.
    after (metadata-orders x m.nodes (p + h.header.0) m m.nodes 0 refl) λ m' k c i.
    then_rowless (rest-uses tt tt tt x.header_end x.size h.contained (p + h.header.0) (p + h.size.0)) λ o.
    ends (i.0, i.1, omega arith, refl)
