-- Unpackers and types table, in their shortest form, depend on the bytes that were read alone: a file that agrees there says the same.
-- Assumes nothing.
use mathlib.Core.Path.{◌≡◌, refl, sym, ap, ◌∙◌, subst}
use mathlib.Core.Bool.{Bool, true, false}
use mathlib.Core.List.{List, [], ◌∷◌}
use Prim.Native.Nat.{ℕ, zero, suc, ◌+◌, ◌-◌, ◌≤◌}
use native.Mathlib.Omega.{arith}
use lib.Dec.{eqb}
use lib.ListN.{length}
use Rattle.machine.specs.Machine.{Out, ok, refused, ret, run, trace, ◌>>=◌, ◌>>◌, when◌then◌else◌, place, skip, times}
use Rattle.cursor.specs.Rows.{Frame, P, file_frame, unpack_frame, plain, language}
use Rattle.cursor.specs.Leaves.{number, block, manufacturer, guid}
use Rattle.room.specs.Parts.{part, joined}
use Rattle.vlq.specs.Vlq.{vlq}
use Rattle.machine.proofs.Agree.{AgreeUpTo}
use Rattle.cursor.proofs.Agree.{part_same}
use Rattle.machine.proofs.Laws.{running, and_then, run_bind}
use Rattle.machine.proofs.Stable.{depends, ends, at_least}
use Rattle.machine.proofs.Wp.{at_end}
use Rattle.cursor.proofs.Leaves.{Any, any_free, block_inside, manufacturer-on, guid-on}
use Rattle.title_text.specs.Description.{copied, identifier_text, unpacker_text, entry_text, table_text}

-- no run goes back
pub onward : {A : Type 0} (m : P A) (f : List ℕ) (at : ℕ) {a : A} {q : ℕ} → run m f at ≡ ok a q → at ≤ q
onward m f at e = omega (arith, ends m f at e, at_least (trace m f at) at)

-- m on f and m' on k answer the same, where the files agree on what m read
record Alike (f k : List ℕ) {A : Type 0} (m m' : P A) (at : ℕ) : Type 0 where
  alike : (a : A) (q : ℕ) → run m f at ≡ ok a q → AgreeUpTo f k at q → run m' k at ≡ ok a q

no : {A B : Type 0} {a : A} {n p q : ℕ} → refused n p ≡ ok a q → B
no e = let z : ◌≡◌ {A = ℕ} 0 1 = cc in absurd (omega arith)

ok_same : {A : Type 0} {a b : A} {p q : ℕ} → ok a p ≡ ok b q → (a ≡ b) × (p ≡ q)
ok_same e = (cc, cc)

module _ {f k : List ℕ} where
  alike_same : {A : Type 0} {m : P A} {at : ℕ} → Alike f k m m at
  alike_same {m = m} {at = at} = record { alike = λ a q e g. depends m f k at e g }

  alike_as : {A : Type 0} {m m' : P A} {at : ℕ} → m ≡ m' → Alike f k m m' at
  alike_as {m = m} {at = at} e = subst (λ v. Alike f k m v at) e alike_same

  alike_bind : {A C : Type 0} {m m' : P A} {h h' : A → P C} {at : ℕ} → Alike f k m m' at →
      ((a : A) (p : ℕ) → run m f at ≡ ok a p → Alike f k (h a) (h' a) p) → Alike f k (m >>= h) (m' >>= h') at
  alike_bind {A} {C} {m} {m'} {h} {h'} {at} x y = record { alike = λ c q e g. by c q (run m f at) refl (sym (run_bind m h f at) ∙ e) g }
    where
      by : (c : C) (q : ℕ) (o : Out A) → run m f at ≡ o → and_then o (λ a p. run (h a) f p) ≡ ok c q → AgreeUpTo f k at q → run (m' >>= h') k at ≡ ok c q
      by c q (refused n p) e z g = no z
      by c q (ok a p) e z g =
          let l = onward m f at e in let r = onward (h a) f p z in
          let e₁ = x.alike a p e (λ j lo hi. g j lo (omega arith)) in
          let e₂ = (y a p e).alike c q z (λ j lo hi. g j (omega arith) hi) in
          run_bind m' h' k at ∙ rw e₁ e₂

  alike_place : {A : Type 0} (h h' : ℕ → P A) (at : ℕ) → Alike f k (h at) (h' at) at → Alike f k (place >>= h) (place >>= h') at
  unfolding run ◌>>=◌ place
  alike_place h h' at x = record { alike = λ a q e g. x.alike a q e g }

  alike_if : {A : Type 0} (b : Bool) {m m' n n' : P A} {at : ℕ} → Alike f k m m' at → Alike f k n n' at → Alike f k (when b then m else n) (when b then m' else n') at
  unfolding when◌then◌else◌
  alike_if true x y = x
  alike_if false x y = y

  alike_times : {A : Type 0} (n : ℕ) {body body' : A → P A} (s : A) (at : ℕ) → ((t : A) (p : ℕ) → Alike f k (body t) (body' t) p) → Alike f k (times n body s) (times n body' s) at
  unfolding times
  alike_times zero s at h = alike_same
  alike_times (suc n) s at h = alike_bind (h s at) (λ t p e. alike_times n t p h)

copied-was : (f : List ℕ) {A : Type 0} (m : P A) (g : List ℕ) (at : ℕ) {s : List ℕ} {q : ℕ} → run (copied g m) f at ≡ ok s q → (a : A) ×
    (run m f at ≡ ok a q) × (s ≡ part g at (q - at))
unfolding copied
copied-was f {A} m g at {s} {q} e = by (run m f at) refl (simp running at e)
  where
    by : (o : Out A) → run m f at ≡ o → and_then o (λ a p. ok (part g at (p - at)) p) ≡ ok s q → (a : A) × (run m f at ≡ ok a q) × (s ≡ part g at (q - at))
    by (refused n p) x z = no z
    by (ok a p) x z = let (u, v) = ok_same z in (a, x ∙ ap (ok a) v, sym u ∙ ap (λ w. part g at (w - at)) v)

copied_is : (k : List ℕ) {A : Type 0} (m : P A) (at : ℕ) {a : A} {q : ℕ} → run m k at ≡ ok a q → run (copied k m) k at ≡ ok (part k at (q - at)) q
unfolding copied
copied_is k m at e = simp (running, e)

module _ (f k : List ℕ) (long : length f ≡ length k) where
  -- a number of the whole file
  numbers : (κ : Frame) {at : ℕ} → Alike f k (number κ 3 (length f)) (number κ 3 (length k)) at
  numbers κ = alike_as (ap (number κ 3) long)

  blocks : (κ : Frame) {at : ℕ} → Alike f k (block κ 3 (length f)) (block κ 3 (length k)) at
  blocks κ = alike_as (ap (block κ 3) long)

  -- bytes that are copied; their end lies in the file
  copies : {A : Type 0} {m m' : P A} {at : ℕ} → m ≡ m' → ((a : A) (q : ℕ) → run m f at ≡ ok a q → q ≤ length f) → Alike f k (copied f m) (copied k m') at
  copies {m = m} {at = at} e inside = subst (λ v. Alike f k (copied f m) (copied k v) at) e (record {
    alike = λ s q x g.
        let (a, y, z) = copied-was f m f at x in let l = onward m f at y in let i = inside a q y in
        let w : at + (q - at) ≡ q = omega arith in
        copied_is k m at (depends m f k at y g) ∙ ap (λ v. ok v q) (sym (part_same f k long at (q - at) (λ j lo hi. g j lo (omega arith))) ∙ sym z);
  })

  identifier-alike : (kind at : ℕ) → Alike f k (identifier_text f kind) (identifier_text k kind) at
  unfolding identifier_text
  identifier-alike kind at =
      alike_if (eqb kind 3) (copies (ap (guid unpack_frame) long) (λ a q e. (at_end any_free f (guid-on {U = Any} unpack_frame (length f) at) e).2))
      (alike_if (eqb kind 1)
      (alike_bind (copies (ap (manufacturer unpack_frame) long)
      (λ a q e. (at_end any_free f (manufacturer-on {U = Any} unpack_frame (length f) at) e).2)) λ m p e. alike_bind (numbers unpack_frame)
      λ v q e. alike_same)
      (alike_bind (numbers unpack_frame) λ v q e. alike_same))

  unpacker-alike : (before : List ℕ) (at : ℕ) → Alike f k (unpacker_text f before) (unpacker_text k before) at
  unfolding unpacker_text
  unpacker-alike before at = alike_bind (numbers unpack_frame) λ kind p e. alike_bind (identifier-alike kind p) λ i q e. alike_bind (numbers unpack_frame) λ size r e. alike_same

  -- the language's name, which is copied
  language-alike : (n at : ℕ) (h : List ℕ → List ℕ) → at + n ≤ length f → Alike f k (skip (plain language) n >> ret (h (part f at n)))
      (skip (plain language) n >> ret (h (part k at n))) at
  language-alike n at h l = record {
    alike = λ s q e g.
        let (u, v) = ok_same (simp running at e) in
        let w = part_same f k long at n (λ j lo hi. g j lo (omega arith)) in
        simp running (rw (← w) (rw (u, v) refl));
  }

  entry-alike : (before : List ℕ) (at : ℕ) → Alike f k (entry_text f before) (entry_text k before) at
  unfolding entry_text
  entry-alike before at =
      alike_bind (numbers file_frame) λ t p e₁. alike_bind (numbers file_frame) λ fm q e₂. alike_bind (blocks file_frame) λ n r e₃.
      let i = block_inside file_frame 3 (length f) f q e₃ in
      alike_place _ _ r (language-alike n r (λ s. joined (before ∷ vlq t ∷ vlq fm ∷ vlq n ∷ s ∷ [])) (omega arith))

  table-alike : (at : ℕ) → Alike f k (table_text f) (table_text k) at
  unfolding table_text
  table-alike at = alike_bind (numbers file_frame) λ size p e₁. alike_bind (blocks file_frame) λ n q e₂. alike_bind (numbers file_frame)
      λ count r e₃. alike_times count (vlq count) r (λ s u. entry-alike s u)

  -- where f's unpackers were read, k says the same; so of the types table
  pub unpackers-alike : (n at : ℕ) {s : List ℕ} {q : ℕ} → run (times n (unpacker_text f) []) f at ≡ ok s q → AgreeUpTo f k at q → run (times n (unpacker_text k) []) k at ≡ ok s q
  unpackers-alike n at {s} {q} e g = (alike_times n [] at (λ s p. unpacker-alike s p)).alike s q e g

  pub tables-alike : (at : ℕ) {s : List ℕ} {q : ℕ} → run (table_text f) f at ≡ ok s q → AgreeUpTo f k at q → run (table_text k) k at ≡ ok s q
  tables-alike at {s} {q} e g = (table-alike at).alike s q e g
