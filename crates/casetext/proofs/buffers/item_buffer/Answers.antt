-- `casetext::buffers::item_buffer` meets its contract. The level and the type are written out: without them the two lengths are computed, one element at a time.
-- Assumes nothing.
use mathlib.Core.Path.{refl, sym}
use Prim.Native.Nat.{ℕ}
use lib.ListN.{length-replicate}
use Rattle.casetext.proofs.buffers.item_buffer.Goals as goal

pub returns : goal.returns
returns c = record {
  value = sym (length-replicate {0} {A = ℕ} 10256 7);
  value_2 = refl;
}
