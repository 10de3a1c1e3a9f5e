-- The ways out of the copy: what each exit of the code comes to, answer, both tables and the buffer.
-- Assumes nothing.
use mathlib.Core.Path.{◌≡◌, refl, sym, ap, ◌∙◌}
use mathlib.Core.List.{List, [], ◌++◌}
use Prim.Native.Nat.{ℕ, ◌+◌, ◌-◌, ◌≤◌, ◌<◌}
use native.Mathlib.Nat.{sub-zero}
use native.Mathlib.Omega.{arith}
use lib.ListN.{length, replicate, take, drop, length-drop}
use lib.Seq.{sets, length-take-le}
use borrow.Author.Tests.{le-leb, lt-leb}
use Rattle.std.proofs.Common.{Ok, Err}
use Rattle.std.proofs.Common as std
use Rattle.refusals.specs.Reasons.{number_of}
use Rattle.refusals.specs.declared.Refusal.{Refusal}
use Rattle.room.specs.Room.{padded}
use Rattle.room.proofs.Sets.{sets-front, padded-behind}
use Rattle.metadata.specs.Tables.{limits}
use Rattle.file.specs.Reading.{Reading, rows, refusal, read_file}
use Rattle.file.specs.Asking.{Result, bad, ask, kept_nodes, kept_items}
use Rattle.resolve.specs.Resolve.{Resource, resolve, part, fitting, copy_into}
use Rattle.resolve.specs.Told.{told}
use Rattle.resolve.specs.declared.Resolved.{Resolved}
use Rattle.resolve.proofs.Exits.{part-inside}

-- zeros of a length that was kept
pub zeros : {n m : ℕ} {t : List ℕ} → t ≡ replicate m 0 → m ≡ n → t ≡ replicate n 0
zeros e l = e ∙ ap (λ n. replicate n 0) l

all-zeros : (n : ℕ) {v : List ℕ} → v ≡ replicate n 0 → v ≡ padded n []
unfolding padded
all-zeros n e = e ∙ rw sub-zero

module _ (f : List ℕ) (nsize isize row : ℕ) (out : List ℕ) where
  abbrev o : Reading
  o = read_file (limits nsize isize) f

  abbrev room : ℕ
  room = length out

  abbrev copy : Result Resource
  copy = ask o (copy_into row room f)

  -- the answer, both tables and the buffer
  abbrev pub Copies : Result Resource → (t u v : List ℕ) → Type 0
  Copies a t u v = (a ≡ copy) × (t ≡ kept_nodes nsize o copy) × (u ≡ kept_items isize o copy) × (v ≡ padded room (part f copy))

  copy-asks : (r : Reading) → ask r (copy_into row room f) ≡ fitting room (ask r (resolve row f))
  unfolding ask copy_into fitting
  copy-asks (rows h ns is) = refl
  copy-asks (refusal n p) = refl

  copies : {a : Result Resource} {t u v : List ℕ} → copy ≡ a → t ≡ kept_nodes nsize o a → u ≡ kept_items isize o a → v ≡ padded room (part f a) → Copies a t u v
  copies e a b c = (sym e, a ∙ ap (kept_nodes nsize o) (sym e), b ∙ ap (kept_items isize o) (sym e), c ∙ ap (λ x. padded room (part f x)) (sym e))

  module _ (x : std.Result Resolved Refusal) (y : told x ≡ ask o (resolve row f)) where
    copy_is : copy ≡ fitting room (told x)
    copy_is = copy-asks o ∙ ap (fitting room) (sym y)

    -- resolve was refused
    pub copy-refused : {r : Refusal} → x ≡ Err r → {t u v : List ℕ} → t ≡ kept_nodes nsize o (ask o (resolve row f)) → u ≡ kept_items
        isize o (ask o (resolve row f)) → v ≡ replicate room 0
        → Copies (bad (number_of r.0) r.1) t u v
    unfolding fitting part
    copy-refused z a b c = copies (copy_is ∙ ap (λ r. fitting room (told r)) z) (a ∙ ap (kept_nodes nsize o) (sym y ∙ ap told z))
        (b ∙ ap (kept_items isize o) (sym y ∙ ap told z)) (all-zeros room c)

    module _ {g : Resolved} (z : x ≡ Ok g) where
      -- the buffer is too small
      pub copy-full : room < g.size → {t u v : List ℕ} → t ≡ replicate nsize 0 → u ≡ replicate isize 0 → v ≡ replicate room 0 → Copies (bad 22 0) t u v
      unfolding fitting part kept_nodes kept_items
      copy-full l a b c = copies (copy_is ∙ ap (λ r. fitting room (told r)) z ∙ simp (lt-leb g.size room l)) a b (all-zeros room c)

      -- the bytes are stored in front, and the rest is cleared
      pub copy-good : g.size ≤ room → {t u v v' : List ℕ} → t ≡ kept_nodes nsize o (ask o (resolve row f)) → u ≡ kept_items isize o (ask o (resolve row f))
          → v ≡ sets out 0 (take (g.place.0 + g.size - g.place.0) (drop g.place.0 f)) → length v ≡ room → v' ≡ take g.size v ++ replicate (length v - g.size) 0
          → Copies (told (Ok g)) t u v'
      unfolding fitting part
      copy-good l {v = v} a b c n d =
          let inside : g.place.0 + g.size ≤ length f = part-inside f nsize isize row x y z in
          let long : g.place.0 + g.size - g.place.0 ≡ g.size = omega arith in
          let ws : List ℕ = take g.size (drop g.place.0 f) in let behind = length-drop g.place.0 f in
          let as_long : length ws ≡ g.size = length-take-le g.size (drop g.place.0 f) (omega arith) in
          let front : v ≡ ws ++ drop (length ws) out = c ∙ ap (λ k. sets out 0 (take k (drop g.place.0 f))) long ∙ sets-front out ws (omega arith) in
          copies (copy_is ∙ ap (λ r. fitting room (told r)) z ∙ simp (le-leb g.size room l)) (a ∙ ap (kept_nodes nsize o) (sym y ∙ ap told z))
          (b ∙ ap (kept_items isize o) (sym y ∙ ap told z))
          (d ∙ padded-behind ws (drop (length ws) out) front (sym as_long) ∙ ap (λ k. padded k ws) n)
