-- The parts of an item that make no row leave a state as it is, and the tables among others.
-- Assumes nothing.
use mathlib.Core.Path.{◌≡◌, refl}
use mathlib.Core.List.{List}
use Prim.Native.Nat.{ℕ}
use Rattle.machine.specs.Machine.{run, exec}
use Rattle.cursor.specs.Rows.{Part, name}
use Rattle.cursor.proofs.Quiet.{Quiet, IgnoresPlain, still, quiet_of}
use Rattle.header.specs.Types.{Known}
use Rattle.metadata.specs.Tables.{State, put}
use Rattle.metadata.specs.Metadata.{item_frame, declared_format}
use Rattle.metadata.proofs.Uses.{frame-uses, format-uses}

pub frame-quiet : {S : Type 0} {put : Part → ℕ → ℕ → S → S} → IgnoresPlain put → (end : ℕ) → Quiet put (item_frame end)
frame-quiet i end = quiet_of (frame-uses tt (i.ignores name) end)

-- ---- the tables

pub put-ignores : IgnoresPlain put
put-ignores = record { ignores = λ x p n σ. refl }

pub exec-frame : (end : ℕ) (f : List ℕ) (at : ℕ) (σ : State) → exec put (item_frame end) f at σ ≡ still (run (item_frame end) f at) σ
exec-frame end = (frame-quiet put-ignores end).quiet

pub exec-format : (p : ℕ) (k : Known) (f : List ℕ) (at : ℕ) (σ : State) → exec put (declared_format p k) f at σ ≡ still (run (declared_format p k) f at) σ
exec-format p k = (quiet_of (format-uses p k)).quiet
