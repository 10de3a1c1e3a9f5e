-- The number of a word, as the code comes to it: digit by digit.
-- Assumes nothing.
use Rattle.std.proofs.Common.{◌≡◌, ℕ, suc, ◌+◌, ◌-◌, ◌*◌, ◌^◌, ◌≤◌, ◌<◌, Some, List, [], ◌∷◌, length, get_or, drop, refl, sym, ap, ◌∙◌, add-one, arith, drop-cons}
use Rattle.std.proofs.Math.ListN.{drop_of_length-le}
use borrow.Author.Tests.{le-leb}
use Rattle.spelling.specs.Spelling.{held, number_from, number_of}

-- a number that does not fit a word counts as the largest
number-held : (v : ℕ) (ds : List ℕ) → number_from v ds ≡ number_from (held v) ds
number-held v [] = ap Some (omega arith)
number-held v (d ∷ ds) =
    let x = number-held (v * 10 + (d - 0x30)) ds in
    let y = number-held (held v * 10 + (d - 0x30)) ds in
    let e : held (v * 10 + (d - 0x30)) ≡ held (held v * 10 + (d - 0x30)) = omega arith in
    rw (x, y, e) refl

number-some : (word : List ℕ) → 0 < length word → number_of word ≡ number_from 0 word
number-some [] l = absurd (omega arith)
number-some (b ∷ bs) l = refl

module _ (word : List ℕ) (value i : ℕ) (r : number_from 0 word ≡ number_from value (drop i word)) where
  -- one digit more
  pub read-more : (next : ℕ) → i < length word → 0x30 ≤ get_or word i 0 → get_or word i 0 ≤ 0x39 → next ≡ held (value * 10 + (get_or word i 0 - 0x30))
      → number_from 0 word ≡ number_from next (drop (i + 1) word)
  read-more next l g h e = r ∙ ap (number_from value) (drop-cons word i 0 l)
      ∙ simp (le-leb 0x30 _ g, le-leb _ 0x39 h, add-one) (number-held (value * 10 + (get_or word i 0 - 0x30)) (drop (suc i) word) ∙ rw e refl)

  pub read_all : 0 < length word → length word ≤ i → value < 2 ^ 64 → Some value ≡ number_of word
  read_all z l f = ap Some (omega arith) ∙ sym (number-some word z ∙ r ∙ ap (number_from value) (drop_of_length-le word {i = i} l))
