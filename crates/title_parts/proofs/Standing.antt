-- Unpackers in their shortest form have no more bytes than the file has for them; and where they have no fewer, the file has that form.
-- Assumes nothing.
use mathlib.Core.Path.{◌≡◌, sym, ap, ◌∙◌}
use mathlib.Core.Bool.{true, false}
use mathlib.Core.List.{List, []}
use Prim.Native.Nat.{ℕ, ◌+◌, ◌-◌, ◌^◌, ◌≤◌, ◌<◌, min}
use native.Mathlib.Omega.{arith}
use lib.ListN.{length}
use Rattle.machine.specs.Machine.{Out, ok, refused, run, times}
use Rattle.cursor.specs.Rows.{P, unpack_frame}
use Rattle.cursor.specs.Leaves.{guid, manufacturer}
use Rattle.room.specs.Parts.{part}
use Rattle.cursor.specs.declared.Cursor.{Cursor}
use Rattle.cursor.specs.declared.Node.{Node}
use Rattle.room.proofs.Lies.{lies_part}
use Rattle.cursor.proofs.Post.{Post, post_after, post_step, post_place, post_if, post_ret, post_times}
use Rattle.cursor.proofs.Runs.{nothing, nothing-quiet, Holds, post_ran}
use Rattle.title_text.specs.Description.{answer, copied, identifier_text, unpacker_text, shape}
use Rattle.title_text.specs.Title.{Bytes}
use Rattle.title_text.proofs.Covers.{Covers, covers-none, covers-on, covers-to, covers-last, covers-part, number-covers}
use Rattle.room.specs.Counts.{too_many}
use Rattle.room.proofs.Counting.{counts-none, counts-as}
use Rattle.title_parts.specs.Told.{Copies, PackedAs}
use Rattle.std.proofs.Common.{Ok}
use Rattle.title_parts.proofs.Copying.{guid-inside, maker_inside, copied-bytes, copied-answer, copied-puts}

module _ (f : List ℕ) where
  copied-covers : {A : Type 0} (m : P A) (at : ℕ) → ((a : A) (q : ℕ) → run m f at ≡ ok a q → at ≤ q) → Post nothing f (copied f m) (Holds (λ s q. Covers f at s q)) at tt
  unfolding copied
  copied-covers m at rises =
      post_place _ at
      (post_step nothing-quiet λ a q e.
      post_place _ q (post_ret (let z : at + (q - at) ≡ q = omega (arith, rises a q e) in covers-to z (covers-part f at (q - at)))))

  identifier-covers : (kind at : ℕ) → Post nothing f (identifier_text f kind) (Holds (λ s q. Covers f at s q)) at tt
  unfolding identifier_text
  identifier-covers kind at =
      post_if (λ t. copied-covers (guid unpack_frame (length f)) at (λ a q e. omega (arith, guid-inside f at e)))
      λ t. post_if
      (λ u. post_after (copied-covers (manufacturer unpack_frame (length f)) at (λ a q e. omega (arith, maker_inside f at e))) λ s q _ h.
      post_step nothing-quiet λ v r e. post_ret (covers-on h (covers-last (number-covers unpack_frame 3 (length f) f q e))))
      λ u. post_step nothing-quiet λ v q e. post_ret (number-covers unpack_frame 3 (length f) f at e)

  unpacker-covers : (from : ℕ) (done : List ℕ) (at : ℕ) → Covers f from done at → Post nothing f (unpacker_text f done) (Holds (λ s q. Covers f from s q)) at tt
  unfolding unpacker_text
  unpacker-covers from done at before =
      post_step nothing-quiet λ kind p e₁.
      post_after (identifier-covers kind p) λ i q _ h.
      post_step nothing-quiet λ size r e₂.
      post_ret (covers-on before (covers-on (number-covers unpack_frame 3 (length f) f at e₁) (covers-on h (covers-last (number-covers unpack_frame 3 (length f) f q e₂)))))

  pub unpackers-cover : (count from : ℕ) {s : List ℕ} {q : ℕ} → run (times count (unpacker_text f) []) f from ≡ ok s q → Covers f from s q
  unpackers-cover count from e =
      post_ran {Q = λ s q. Covers f from s q}
      (post_times (λ _ s q _. Covers f from s q) count 0 [] (λ _ done p _ h. unpacker-covers from done p h) (covers-none from)) e

-- where the file has no more bytes
module _ {f : List ℕ} {at q : ℕ} {s : List ℕ} (h : Covers f at s q) where
  pub covers-rise : at ≤ q
  covers-rise = omega (arith, h.short)

  pub covers-same : length f < 2 ^ 28 → Bytes f → q ≤ length f → {n : ℕ} → n ≡ min (length s) too_many → q - at ≡ n → (at + n ≤ length f) × (part f at n ≡ s)
  covers-same small bytes inside {n} e k =
      let i = h.short in let l : n ≡ length s = omega arith in
      (omega arith, ap (part f at) l ∙ lies_part {g = f} {p = at} (record { inside = omega arith; same = (h.tight bytes (omega arith)).byte }))

-- ---- what was measured

no_true : {X : Type 0} → false ≡ true → X
no_true e = let z : ◌≡◌ {A = ℕ} 0 1 = cc in absurd (omega arith)

module _ (f : List ℕ) (row : Node) where
  abbrev again : Out (List ℕ)
  again = run (times row.unpacker_count (unpacker_text f) []) f row.unpackers

  pub packed_none : {n p : ℕ} → again ≡ refused n p → PackedAs f row (record { size = 0; same = false })
  unfolding shape
  packed_none e = record { size = rw e (counts-none [] (omega arith)); same = λ z. no_true z }

  module _ {n : ℕ} {c : Cursor} (k : Copies [] [] 0 (Ok (n, c)) again) where
    text-is : (shape f row).unpackers ≡ copied-bytes k
    unfolding shape
    text-is = ap answer (copied-answer k)

    pub packed-other : PackedAs f row (record { size = n; same = false })
    packed-other = record { size = counts-as (sym text-is) (copied-puts k); same = λ z. no_true z }

    pub packed-same : length f < 2 ^ 28 → Bytes f → c.at.0 - row.unpackers ≡ n → c.at.0 ≤ length f → PackedAs f row (record { size = n; same = true })
    packed-same small bytes e inside =
        let h = unpackers-cover f row.unpacker_count row.unpackers (copied-answer k) in
        let w = covers-same h small bytes inside (omega (arith, (copied-puts k).after)) e in
        record { size = counts-as (sym text-is) (copied-puts k); same = λ _. (w.0, w.1 ∙ sym text-is) }
