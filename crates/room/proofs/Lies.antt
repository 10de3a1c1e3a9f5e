-- Bytes that stand in others from a place on.
-- Assumes nothing.
use mathlib.Core.Path.{◌≡◌, refl, sym, ap, ◌∙◌}
use mathlib.Core.List.{List, [], ◌∷◌, ◌++◌}
use Prim.Native.Nat.{ℕ, zero, suc, ◌+◌, ◌≤◌, ◌<◌}
use native.Mathlib.Omega.{arith}
use lib.ListN.{length, get_or, take, drop, length-append, length-drop, get_or-append}
use lib.Seq.{get_or-append-add, get_or-drop, get_or-take, ext_get_or, length-take-le}
use Rattle.room.specs.Parts.{part, joined}

-- s stands in g from p on
pub record Lies (g : List ℕ) (p : ℕ) (s : List ℕ) : Type 0 where
  pub inside : p + length s ≤ length g
  pub same : (k : ℕ) → k < length s → get_or g (p + k) 0 ≡ get_or s k 0

module _ {g : List ℕ} {p : ℕ} where
  pub lies_left : (a b : List ℕ) → Lies g p (a ++ b) → Lies g p a
  lies_left a b h = let e = length-append a b in let i = h.inside in record {
    inside = omega arith;
    same = λ k l. h.same k (omega arith) ∙ get_or-append a b 0 k l;
  }

  pub lies_right : (a b : List ℕ) → Lies g p (a ++ b) → Lies g (p + length a) b
  lies_right a b h = let e = length-append a b in let i = h.inside in record {
    inside = omega arith;
    same = λ k l. let q : p + length a + k ≡ p + (length a + k) = omega arith in rw q (h.same (length a + k) (omega arith) ∙ get_or-append-add a b k 0);
  }

  pub lies_head : {b : ℕ} {s : List ℕ} → Lies g p (b ∷ s) → get_or g p 0 ≡ b
  lies_head h = let e : p + 0 ≡ p = omega arith in rw e at (h.same 0 (omega arith))

  pub lies_tail : {b : ℕ} {s : List ℕ} → Lies g p (b ∷ s) → Lies g (p + 1) s
  lies_tail h = let i = h.inside in record {
    inside = omega arith;
    same = λ k l. let q : p + 1 + k ≡ p + suc k = omega arith in rw q (h.same (suc k) (omega arith));
  }

  pub lies_none : p ≤ length g → Lies g p []
  lies_none l = record { inside = omega arith; same = λ k l. absurd (omega arith) }

  pub lies_cons : {b : ℕ} {s : List ℕ} → get_or g p 0 ≡ b → p < length g → Lies g (p + 1) s → Lies g p (b ∷ s)
  lies_cons {b} {s} e l h = let i = h.inside in record { inside = omega arith; same = by }
    where
      by : (k : ℕ) → k < suc (length s) → get_or g (p + k) 0 ≡ get_or (b ∷ s) k 0
      by zero m = let q : p + 0 ≡ p = omega arith in rw q e
      by (suc k) m = let q : p + suc k ≡ p + 1 + k = omega arith in rw q (h.same k (omega arith))

  -- what stands there is that part of the file
  pub lies_part : {s : List ℕ} → Lies g p s → part g p (length s) ≡ s
  lies_part {s} h =
      let i = h.inside in let d = length-drop p g in
      let n : length (take (length s) (drop p g)) ≡ length s = length-take-le (length s) (drop p g) (omega arith) in
      ext_get_or 0 (take (length s) (drop p g)) s n (λ k l. rw (get_or-take (length s) (drop p g) k 0 (omega arith), get_or-drop p g k 0) (h.same k (omega arith)))

  pub lies_at : {s : List ℕ} {q : ℕ} → p ≡ q → Lies g p s → Lies g q s
  lies_at e h = rw e at h

-- a part of a file stands in it
pub part_lies : (g : List ℕ) (p n : ℕ) → p + n ≤ length g → Lies g p (part g p n)
part_lies g p n l =
    let d = length-drop p g in
    let e : length (take n (drop p g)) ≡ n = length-take-le n (drop p g) (omega arith) in
    record {
      inside = omega arith;
      same = λ k m. sym (get_or-take n (drop p g) k 0 (omega arith) ∙ get_or-drop p g k 0);
    }

-- bytes between others
pub lies_between : (a s b : List ℕ) → Lies (a ++ s ++ b) (length a) s
lies_between a s b =
    let e = length-append (a ++ s) b in let d = length-append a s in
    record {
      inside = omega arith;
      same = λ k l. get_or-append (a ++ s) b 0 (length a + k) (omega arith) ∙ get_or-append-add a s k 0;
    }

-- what stands there up to the file's end
pub lies_end : {g : List ℕ} {p : ℕ} {s : List ℕ} → Lies g p s → p + length s ≡ length g → drop p g ≡ s
lies_end {g} {p} {s} h e =
    let d = length-drop p g in let n : length (drop p g) ≡ length s = omega arith in
    ext_get_or 0 (drop p g) s n (λ k l. get_or-drop p g k 0 ∙ h.same k (omega arith))

-- fields one after the other, each where the one before it ends
abbrev pub Stand : List ℕ → ℕ → List (List ℕ) → Type 0
Stand g p [] = Unit {0}
Stand g p (s ∷ ss) = Lies g p s × Stand g (p + length s) ss

pub stand : {g : List ℕ} {p : ℕ} (ss : List (List ℕ)) → Lies g p (joined ss) → Stand g p ss
stand [] h = tt
stand {p = p} (s ∷ ss) h = (lies_left s (joined ss) h, stand {p = p + length s} ss (lies_right s (joined ss) h))

-- their lengths together
abbrev pub sum : List (List ℕ) → ℕ
sum [] = 0
sum (s ∷ ss) = length s + sum ss

pub joined_length : (ss : List (List ℕ)) → length (joined ss) ≡ sum ss
joined_length [] = refl
joined_length (s ∷ ss) = length-append s (joined ss) ∙ ap (λ n. length s + n) (joined_length ss)

pub lies_as : {g : List ℕ} {p : ℕ} {a b : List ℕ} → a ≡ b → Lies g p a → Lies g p b
lies_as e h = rw e at h
