-- What a writer put stands at the start of its buffer.
-- Assumes nothing.
use mathlib.Core.Path.{◌≡◌, sym, ap, ◌∙◌}
use mathlib.Core.List.{List}
use Prim.Native.Nat.{ℕ, ◌≤◌, ◌<◌}
use native.Mathlib.Omega.{arith}
use lib.ListN.{length, take, drop}
use lib.Seq.{take_at}
use Rattle.io.specs.Counts.{IsPrefixLen}
use Rattle.io.proofs.Counting.{prefix_len_of_le}
use Rattle.room.specs.Counts as room
use Rattle.room.proofs.Counting.{wrote-front}

pub starts : {o o' w : List ℕ} {r : ℕ} → room.Counts o o' 0 w r → r ≤ length o → length o < room.too_many → (length w ≤ length o) × IsPrefixLen r o' × (take r o' ≡ w)
starts {o} {o'} {w} {r} p l m =
    let z = p.long in let x = wrote-front p l m in
    (x.1, prefix_len_of_le r o' (omega arith), ap (λ (v : List ℕ). take r v) x.2 ∙ take_at w (drop (length w) o) r (sym x.0))
