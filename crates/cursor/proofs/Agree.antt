-- Files that agree on the bytes of a part have the same part.
-- Assumes nothing.
use mathlib.Core.Path.{◌≡◌, sym, ◌∙◌}
use mathlib.Core.List.{List}
use Prim.Native.Nat.{ℕ, ◌+◌, ◌<◌}
use native.Mathlib.Omega.{arith}
use lib.ListN.{length, drop, length-take, length-drop}
use lib.Seq.{ext_get_or, get_or-take, get_or-drop}
use Rattle.machine.proofs.Agree.{Agree}
use Rattle.room.specs.Parts.{part}

pub part_same : (f g : List ℕ) → length f ≡ length g → (at n : ℕ) → Agree f g at n → part f at n ≡ part g at n
part_same f g e at n h =
    ext_get_or 0 (part f at n) (part g at n) (simp (length-take, length-drop, e))
    (λ i l.
    let k : i < n = omega (arith, l, length-take n (drop at f)) in
    get_or-take n (drop at f) i 0 k ∙ get_or-drop at f i 0 ∙ h (at + i) (omega arith) (omega arith) ∙ sym (get_or-drop at g i 0) ∙ sym (get_or-take n (drop at g) i 0 k))
