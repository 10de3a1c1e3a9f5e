-- The parts of a node that make no row leave a state as it is, and the tables among others.
-- Assumes nothing.
use mathlib.Core.Path.{◌≡◌}
use mathlib.Core.List.{List}
use Prim.Native.Nat.{ℕ}
use Rattle.machine.specs.Machine.{run, exec}
use Rattle.cursor.specs.Rows.{Part, uri}
use Rattle.cursor.proofs.Quiet.{Quiet, IgnoresPlain, still, quiet_of}
use Rattle.metadata.specs.Tables.{State, put}
use Rattle.metadata.proofs.Quiet.{put-ignores}
use Rattle.node.specs.declared.Bounds.{Bounds}
use Rattle.node.specs.Node.{head, unpackers, reference, rest}
use Rattle.node.proofs.Uses.{head-uses, unpackers-use, reference-uses, rest-uses}

module _ {S : Type 0} {put : Part → ℕ → ℕ → S → S} (i : IgnoresPlain put) where
  pub head-quiet : (s : Bounds) → Quiet put (head s)
  head-quiet s = quiet_of (head-uses tt s)

  pub unpackers-quiet : (contained end : ℕ) → Quiet put (unpackers contained end)
  unpackers-quiet contained end = quiet_of (unpackers-use tt contained end)

  pub reference-quiet : (header_end size contained end : ℕ) → Quiet put (reference header_end size contained end)
  reference-quiet header_end size contained end = quiet_of (reference-uses tt (i.ignores uri) header_end size contained end)

  pub rest-quiet : (header_end size contained inner stop : ℕ) → Quiet put (rest header_end size contained inner stop)
  rest-quiet header_end size contained inner stop = quiet_of (rest-uses tt tt (i.ignores uri) header_end size contained inner stop)

-- ---- the tables

pub exec-head : (s : Bounds) (f : List ℕ) (at : ℕ) (σ : State) → exec put (head s) f at σ ≡ still (run (head s) f at) σ
exec-head s = (head-quiet put-ignores s).quiet

pub exec-rest : (header_end size contained inner stop : ℕ) (f : List ℕ) (at : ℕ) (σ : State) → exec put
    (rest header_end size contained inner stop) f at σ ≡ still (run (rest header_end size contained inner stop) f at) σ
exec-rest header_end size contained inner stop = (rest-quiet put-ignores header_end size contained inner stop).quiet
