-- A node up to its contents, under smaller limits.
-- Assumes nothing.
use Prim.Native.Nat.{ℕ, ◌+◌}
use native.Mathlib.Omega.{arith}
use Rattle.cursor.proofs.Limited.{Rows, Limited, after, then_rowless, ends, places}
use Rattle.metadata.specs.Metadata.{Context}
use Rattle.metadata.specs.declared.Limits.{Limits}
use Rattle.metadata.specs.declared.Made.{Made}
use Rattle.metadata.proofs.Limited.{room, Items, Less, under, metadata-limited}
use Rattle.node.specs.declared.Bounds.{Bounds}
use Rattle.node.specs.Node.{front}
use Rattle.node.proofs.Uses.{head-uses, rest-uses}

pub front-limited : {lim most : Limits} (less : Less lim most) (x : Context) (parent depth : ℕ) (s : Bounds) (m : Made) (c : Rows) → Items lim m.nodes m c
    → Limited (room lim) (λ w d. Items lim m.nodes w.made d) c (front (under x lim) parent depth s m) (front (under x most) parent depth s m)
unfolding front
front-limited less x parent depth s m c i =
    places λ p. then_rowless (head-uses tt s) λ h d a b.
    after (metadata-limited less x m.nodes m.nodes (p + h.header.0) m d (omega arith, omega arith, omega arith, omega arith)) λ m' e j.
    then_rowless (rest-uses tt tt tt x.header_end x.size h.contained (p + h.header.0) (p + h.size.0)) λ o g a' b'. ends
    (omega arith, omega arith, omega arith, omega arith)
