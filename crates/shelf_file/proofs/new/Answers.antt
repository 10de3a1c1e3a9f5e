-- `new` is all zero, and so are a fresh shelf's cards and its text. The level and the type are written out: without them the lengths are computed, one element at a time.
-- Assumes nothing.
use mathlib.Core.Path.{sym}
use Prim.Native.Nat.{ℕ}
use lib.ListN.{length-replicate}
use Rattle.shelf_file.proofs.Bytes.{fresh-zeros}
use Rattle.shelf_file.proofs.new.Goals as goal

pub returns : goal.returns
returns c = record {
  value = sym (length-replicate {0} {A = ℕ} 1049088 0);
  value_2 = fresh-zeros;
}
