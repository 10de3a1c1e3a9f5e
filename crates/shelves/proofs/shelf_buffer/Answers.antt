-- `shelf_buffer` is as long as it says. The level and the type are written out: without them the length is computed, one element at a time.
-- Assumes nothing.
use mathlib.Core.Path.{sym}
use Prim.Native.Nat.{ℕ}
use lib.ListN.{length-replicate}
use Rattle.shelves.proofs.shelf_buffer.Goals as goal

pub returns : goal.returns
returns c = sym (length-replicate {0} {A = ℕ} 1049089 0)
