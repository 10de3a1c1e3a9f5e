-- Both fields set: what stands in the file then, that these values are read back, that setting the values that they have changes nothing, and that of two settings the last counts.
-- Assumes nothing.
use mathlib.Core.Path.{◌≡◌, sym, ap, ◌∙◌}
use mathlib.Core.Logic.{◌⊎◌, inl, inr}
use mathlib.Core.List.{List}
use Prim.Native.Nat.{ℕ, ◌+◌, ◌-◌, ◌≤◌, ◌<◌}
use native.Mathlib.Omega.{arith}
use native.Mathlib.Decide.{dec_lt}
use lib.ListN.{length, get_or}
use lib.Seq.{sets, length-sets, ext_get_or}
use Rattle.cursor.specs.Rows.{file_frame}
use Rattle.vlq.specs.Vlq.{in_bytes}
use Rattle.room.proofs.Lies.{Lies}
use Rattle.vlq.proofs.Least.{in_bytes_length}
use Rattle.vlq.proofs.Back.{number_in}
use Rattle.mend.specs.Fields.{Field, width, Fields, Hold, Elsewhere}
use Rattle.mend.specs.Mend.{with_field, set_to}
use Rattle.mend.proofs.Sets.{sets-out, sets_lie, sets_same}
use Rattle.mend.proofs.Bytes.{number-lies}
use Rattle.mend.proofs.Parts.{Parts, Places, Valued}

pub set-length : (f : List ℕ) (w : Fields) (a b : ℕ) → length (set_to f w a b) ≡ length f
unfolding set_to with_field
set-length f w a b =
    length-sets (sets f w.length.place (in_bytes (width w.length) a)) w.last.place (in_bytes (width w.last) b) ∙ length-sets f
    w.length.place (in_bytes (width w.length) a)

-- a byte of a field
abbrev InField : Field → ℕ → Type 0
InField x k = (x.place ≤ k) × (k < x.end)

module _ {w : Fields} {n opened typed : ℕ} (z : Places n w opened typed) where
  -- each place is one of the first, one of the second, or one of neither
  pub where_is : (k : ℕ) → Elsewhere w k ⊎ InField w.length k ⊎ InField w.last k
  where_is k = elim (dec_lt k w.length.place) [
    | yes l ↦ inl (inl l)
    | no l ↦ elim (dec_lt k w.length.end) [
      | yes m ↦ inr (inl (omega arith, m))
      | no m ↦ elim (dec_lt k w.last.place) [
        | yes o ↦ inl (inr (inl (omega arith, o)))
        | no o ↦ elim (dec_lt k w.last.end) [ yes p ↦ inr (inr (omega arith, p)) | no p ↦ inl (inr (inr (omega arith))) ]
      ]
    ]
  ]

  module _ (f : List ℕ) (long : length f ≡ n) (a b : ℕ) where
    abbrev s : List ℕ
    s = in_bytes (width w.length) a

    abbrev t : List ℕ
    t = in_bytes (width w.last) b

    -- where they end
    first-end : w.length.place + length s ≡ w.length.end
    first-end = let l = z.length_some in omega (arith, in_bytes_length (width w.length) a)

    second-end : w.last.place + length t ≡ w.last.end
    second-end = let l = z.last_some in omega (arith, in_bytes_length (width w.last) b)

    -- outside of both nothing changes
    pub set_out : (k : ℕ) → Elsewhere w k → get_or (set_to f w a b) k 0 ≡ get_or f k 0
    unfolding set_to with_field
    set_out k h = sets-out t (sets f w.length.place s) w.last.place k (after_first h) ∙ sets-out s f w.length.place k (before-second h)
      where
        after_first : Elsewhere w k → (k < w.last.place) ⊎ (w.last.place + length t ≤ k)
        after_first (inl l) = inl (omega (arith, z.length_some, z.types-some, z.start-some))
        after_first (inr (inl l)) = inl l.1
        after_first (inr (inr l)) = inr (omega (arith, second-end))

        before-second : Elsewhere w k → (k < w.length.place) ⊎ (w.length.place + length s ≤ k)
        before-second (inl l) = inl l
        before-second (inr (inl l)) = inr (omega (arith, first-end, l.0))
        before-second (inr (inr l)) = inr (omega (arith, first-end, z.types-some, z.start-some, z.last_some))

    -- and in them the values stand
    pub set_first : Lies (set_to f w a b) w.length.place s
    unfolding set_to with_field
    set_first =
        let i = first-end in let x = z.types-some in let y = z.start-some in let v = z.last_some in
        let o = z.inside in let h = sets_lie s f w.length.place (omega arith) in
        let m = length-sets f w.length.place s in
        let l = length-sets (sets f w.length.place s) w.last.place t in
        record {
          inside = omega arith;
          same = λ k l. sets-out t (sets f w.length.place s) w.last.place (w.length.place + k) (inl (omega arith)) ∙ h.same k l;
        }

    pub set-second : Lies (set_to f w a b) w.last.place t
    unfolding set_to with_field
    set-second = let m = length-sets f w.length.place s in let o = z.inside in sets_lie t (sets f w.length.place s) w.last.place (omega (arith, second-end))

    -- they are read back
    pub set-valued : Hold w a b → Valued n f (set_to f w a b) w a b
    set-valued h =
        let l = z.length_some in let m = z.length-few in let o = z.last_some in let p = z.last-few in
        let i = z.inside in let x = z.types-some in let y = z.start-some in
        let c : w.length.place + width w.length ≡ w.length.end = omega arith in
        let d : w.last.place + width w.last ≡ w.last.end = omega arith in
        record {
          same = λ k e. sym (set_out k e);
          length-is = rw c at (number_in file_frame 3 n a (width w.length) set_first (omega arith) (omega arith) h.0 (omega arith));
          last-is = rw d at (number_in file_frame 3 n b (width w.last) set-second (omega arith) (omega arith) h.1 (omega arith));
        }

    -- a byte of the first, and one of the second
    pub first_byte : (k : ℕ) → InField w.length k → get_or (set_to f w a b) k 0 ≡ get_or s (k - w.length.place) 0
    first_byte k h = let e : w.length.place + (k - w.length.place) ≡ k = omega arith in rw e at (set_first.same (k - w.length.place) (omega (arith, first-end)))

    pub second-byte : (k : ℕ) → InField w.last k → get_or (set_to f w a b) k 0 ≡ get_or t (k - w.last.place) 0
    second-byte k h = let e : w.last.place + (k - w.last.place) ≡ k = omega arith in rw e at (set-second.same (k - w.last.place) (omega (arith, second-end)))

  -- two files that are the same outside of both: so they are when both are set
  pub set-agree : (f g : List ℕ) → length f ≡ n → length g ≡ n → (a b k : ℕ) → (Elsewhere w k → get_or f k 0 ≡ get_or g k 0) → get_or (set_to f w a b) k 0 ≡ get_or (set_to g w a b) k 0
  set-agree f g l m a b k h = elim (where_is k) [
    | inl e ↦ set_out f l a b k e ∙ h e ∙ sym (set_out g m a b k e)
    | inr (inl i) ↦ first_byte f l a b k i ∙ sym (first_byte g m a b k i)
    | inr (inr i) ↦ second-byte f l a b k i ∙ sym (second-byte g m a b k i)
  ]

  -- of two settings the last counts
  pub set-again : (f : List ℕ) → length f ≡ n → (a b c d : ℕ) → set_to (set_to f w a b) w c d ≡ set_to f w c d
  set-again f l a b c d =
      let g = set_to f w a b in let m = set-length f w a b in
      ext_get_or 0 (set_to g w c d) (set_to f w c d) (set-length g w c d ∙ m ∙ sym (set-length f w c d)) (λ k i. set-agree g f (m ∙ l) l c d k (λ e. set_out f l a b k e))

-- ---- the values that are there: a file of bytes

module _ (f : List ℕ) {w : Fields} (x : Parts (length f) f w) (bytes : (k : ℕ) → get_or f k 0 < 256) where
  pub own-length : with_field f w.length w.length.value ≡ f
  unfolding with_field
  own-length = sets_same _ f w.length.place (number-lies file_frame 3 (length f) f w.length.place x.length-is (omega arith) (λ k lo hi. bytes k))

  pub own-last : with_field f w.last w.last.value ≡ f
  unfolding with_field
  own-last = sets_same _ f w.last.place (number-lies file_frame 3 (length f) f w.last.place x.last-is (omega arith) (λ k lo hi. bytes k))

  pub own-values : set_to f w w.length.value w.last.value ≡ f
  unfolding set_to
  own-values = ap (λ g. with_field g w.last w.last.value) own-length ∙ own-last
