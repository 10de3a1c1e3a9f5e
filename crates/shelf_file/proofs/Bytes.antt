-- Numbers in bytes, one after the other: put and read. And what a call leaves in the file.
-- Assumes nothing.
use mathlib.Core.Path.{◌≡◌, refl, sym, ◌∙◌, ap}
use mathlib.Core.List.{List, [], ◌∷◌, ◌++◌, append_assoc}
use Prim.Native.Nat.{ℕ, zero, suc, ◌+◌, ◌*◌, ◌<◌, ◌≤◌}
use native.Mathlib.Nat.{not-suc-le-zero, le_of_suc-le-suc, zero-add}
use native.Mathlib.Numerals.{add-one}
use native.Mathlib.Omega.{arith}
use lib.ListN.{length, get_or, drop, replicate, length-append, drop_of_length-le, replicate-append-replicate}
use lib.Seq.{drop-cons, ext_get_or}
use Rattle.room.specs.Decimal.{decimal}
use Rattle.shelf.specs.Shelf.{fresh_card, fresh}
use Rattle.shelf.specs.Words.{words_of}
use Rattle.shelf_file.specs.Layout.{eight, eights, word_at, words_from, file_of, refusal_line}

-- ---- read

pub words-length : (n : ℕ) (f : List ℕ) (p : ℕ) → length (words_from n f p) ≡ n
unfolding words_from
words-length zero f p = refl
words-length (suc n) f p = ap suc (words-length n f (p + 8))

words-at : (n : ℕ) (f : List ℕ) (p i : ℕ) → i < n → get_or (words_from n f p) i 0 ≡ word_at f (p + i * 8)
unfolding words_from
words-at zero f p i l = absurd (not-suc-le-zero l)
words-at (suc n) f p zero l = let e : p ≡ p + 0 * 8 = omega arith in ap (λ (q : ℕ). word_at f q) e
words-at (suc n) f p (suc i) l =
    let e : p + 8 + i * 8 ≡ p + suc i * 8 = omega arith in
    words-at n f (p + 8) i (le_of_suc-le-suc l) ∙ ap (λ (q : ℕ). word_at f q) e

-- all of them
pub words-all : (f t : List ℕ) → length t ≡ 64 → ((k : ℕ) → k < 64 → get_or t k 0 ≡ word_at f (k * 8)) → t ≡ words_from 64 f 0
words-all f t n h = ext_get_or 0 t (words_from 64 f 0) (n ∙ sym (words-length 64 f 0)) (λ k l. h k (omega arith) ∙ sym (words-at 64 f 0 k (omega arith) ∙ rw zero-add))

-- ---- put

pub eights-length : (ws : List ℕ) → length (eights ws) ≡ length ws * 8
unfolding eights
eights-length [] = refl
eights-length (w ∷ ws) = omega (arith, length-append (eight w) (eights ws), eights-length ws)

pub eights-next : (ws : List ℕ) (i : ℕ) → i < length ws → eights (drop i ws) ≡ eight (get_or ws i 0) ++ eights (drop (i + 1) ws)
unfolding eights
eights-next ws i l = rw (add-one, drop-cons ws i 0)

pub eights-none : (ws : List ℕ) (i : ℕ) → length ws ≤ i → eights (drop i ws) ≡ []
unfolding eights
eights-none ws i l = let h : drop i ws ≡ [] = drop_of_length-le ws {i = i} l in rw h

-- ---- a fresh shelf

cards-zeros : eights (words_of (replicate 16 fresh_card)) ≡ replicate 512 0
unfolding eights
cards-zeros = refl

zeros : (n m k : ℕ) → n + m ≡ k → replicate {A = ℕ} k 0 ≡ replicate n 0 ++ replicate m 0
zeros n m k e = ap (λ (j : ℕ). replicate {A = ℕ} j 0) (sym e) ∙ sym (replicate-append-replicate n m 0)

fresh-is : (m k : ℕ) → 512 + m ≡ k → replicate {A = ℕ} k 0 ≡ file_of (fresh 16 m)
unfolding file_of fresh
fresh-is m k e = zeros 512 m k e ∙ ap (λ (x : List ℕ). x ++ replicate m 0) (sym cards-zeros)

pub fresh-zeros : replicate {0} {A = ℕ} 1049088 0 ≡ file_of (fresh 16 1048576)
fresh-zeros = fresh-is 1048576 1049088 refl

-- ---- the line of a refusal

pub refusal_is : (n p : ℕ) → (0x52 ∷ 0x09 ∷ []) ++ decimal n ++ (0x09 ∷ []) ++ decimal p ++ (0x0A ∷ []) ≡ refusal_line n p
unfolding refusal_line
refusal_is n p = ap (λ (x : List ℕ). x ++ (0x0A ∷ [])) (append_assoc (0x52 ∷ 0x09 ∷ decimal n) (0x09 ∷ []) (decimal p))
