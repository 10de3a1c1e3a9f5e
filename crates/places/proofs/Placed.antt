-- Where a resource is, and its bytes, as the code comes to them.
-- Assumes nothing.
use mathlib.Core.Path.{◌≡◌, refl, sym, ap, ◌∙◌}
use mathlib.Core.List.{List, [], ◌∷◌, ◌++◌}
use Prim.Native.Nat.{ℕ, ◌+◌, ◌≤◌}
use lib.ListN.{length}
use Rattle.std.proofs.Common as std
use Rattle.std.proofs.Common.{Ok}
use Rattle.refusals.specs.declared.Refusal.{Refusal}
use Rattle.metadata.specs.Tables.{limits}
use Rattle.file.specs.Reading.{read_file}
use Rattle.file.specs.Asking.{ask}
use Rattle.text.specs.Text.{number}
use Rattle.resolve.specs.Resolve.{resolve}
use Rattle.resolve.specs.Told as resolution
use Rattle.resolve.specs.declared.Resolved.{Resolved}
use Rattle.resolve.proofs.Accepted.{resolved_in}
use Rattle.places.specs.Places.{place_line}

pub place_is : (p s r h : ℕ) → (0x50 ∷ []) ++ number p ++ number s ++ number r ++ number h ++ (0x0A ∷ []) ≡ place_line (record { place = p; size = s; row = r; hops = h })
unfolding place_line
place_is p s r h = refl

-- ---- with full tables

pub resource-in : (f : List ℕ) (n i row : ℕ) {r : std.Result Resolved Refusal} → resolution.told r ≡ ask (read_file (limits n i) f) (resolve row f)
    → {x : Resolved} → r ≡ Ok x → x.place.0 + x.size ≤ length f
resource-in f n i row e {x} k =
    resolved_in (limits n i) f row {r = record { place = x.place.0; size = x.size; row = x.last; hops = x.hops }} (sym (sym e ∙ ap resolution.told k))
