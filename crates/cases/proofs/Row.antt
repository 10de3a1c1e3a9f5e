-- Cards of words in an array of twenty, and back.
-- Assumes nothing.
use mathlib.Core.Path.{◌≡◌, refl, sym, ◌∙◌, ap, subst}
use mathlib.Core.List.{List, [], ◌∷◌, ◌++◌}
use Prim.Native.Nat.{ℕ, zero, suc, ◌+◌, ◌*◌, ◌/◌, ◌<◌, ◌≤◌, min}
use native.Mathlib.Numerals.{add-one}
use native.Mathlib.Omega.{arith}
use lib.ListN.{length, get_or, set, take, drop, length-take}
use lib.Seq.{sets, ext_get_or, get_or-take, get_or-set_same, get_or-set_other, length-take-le, take-suc, take_at}
use borrow.Author.Count.{below_more}
use Rattle.room.specs.Room.{Result, counted, kept}
use Rattle.shelf.specs.Shelf.{fresh_card}
use Rattle.shelf.specs.Runs.{Call, answer, next}
use Rattle.shelf.specs.Rows.{row_of}
use Rattle.shelf.specs.Words.{cards_of, words_of, words_with}
use Rattle.shelf.specs.declared.Card.{Card}
use Rattle.shelf.proofs.Words.{count, four_of}

-- there is no card past the last
pub past : (cs : List Card) (i : ℕ) → length cs ≤ i → fresh_card ≡ get_or cs i fresh_card
past [] i l = refl
past (c ∷ cs) zero l = absurd (omega arith)
past (c ∷ cs) (suc i) l = past cs i (omega arith)

-- card k of the array is card k of the words, or a fresh one, for each k below i
abbrev pub Loaded : (ws : List ℕ) (row : List Card) (i : ℕ) → Type 0
Loaded ws row i = (k : ℕ) → k < i → get_or row k fresh_card ≡ get_or (cards_of ws) k fresh_card

pub loaded_more : (ws : List ℕ) (row : List Card) (i : ℕ) {c : Card} → length row ≡ 20 → i < 20 → c ≡ get_or (cards_of ws) i fresh_card → Loaded ws row i
    → Loaded ws (set row i c) (i + 1)
loaded_more ws row i {c} e l is all =
    below_more (λ (k : ℕ). get_or (set row i c) k fresh_card ≡ get_or (cards_of ws) k fresh_card) i
    (λ k h. get_or-set_other row i k c fresh_card (λ q. omega arith) ∙ all k h) (get_or-set_same row i c fresh_card (omega arith) ∙ is)

-- the cards of the array that are lent
pub front : (ws : List ℕ) (row : List Card) (n : ℕ) → length row ≡ 20 → n ≡ min (length ws / 4) 20 → Loaded ws row 20 → take n row ≡ take 20 (cards_of ws)
front ws row n e size all =
    let cards = count ws in
    let long : length (take n row) ≡ n = length-take-le n row (omega arith) in
    let same : length (take 20 (cards_of ws)) ≡ n = length-take 20 (cards_of ws) ∙ omega arith in
    ext_get_or fresh_card (take n row) (take 20 (cards_of ws)) (long ∙ sym same)
    (λ k l. get_or-take n row k fresh_card (omega arith) ∙ all k (omega arith) ∙ sym (get_or-take 20 (cards_of ws) k fresh_card (omega arith)))

on : (n : ℕ) → suc n * 4 ≡ suc (suc (suc (suc (n * 4))))
on n = omega arith

-- no card is stored yet
pub with_none : (ws : List ℕ) → ws ≡ words_with ws []
unfolding words_with
with_none ws = refl

-- one more card is stored in front
with_more : (cs : List Card) (ws : List ℕ) (x : Card) → length cs < length ws / 4 → sets (words_with ws cs) (length cs * 4) (four_of x) ≡ words_with ws (cs ++ (x ∷ []))
unfolding words_with
with_more cs [] x l = absurd (omega arith)
with_more cs (a ∷ []) x l = absurd (omega arith)
with_more cs (a ∷ b ∷ []) x l = absurd (omega arith)
with_more cs (a ∷ b ∷ c ∷ []) x l = absurd (omega arith)
with_more [] (a ∷ b ∷ c ∷ d ∷ ws) x l = refl
with_more (y ∷ cs) (a ∷ b ∷ c ∷ d ∷ ws) x l =
    ap (λ (m : ℕ). sets (four_of y ++ (words_of cs ++ drop m (a ∷ b ∷ c ∷ d ∷ ws))) m (four_of x)) (on (length cs))
    ∙ ap (λ (vs : List ℕ). four_of y ++ vs) (with_more cs ws x (omega arith))
    ∙ sym (ap (λ (m : ℕ). four_of y ++ (words_of (cs ++ (x ∷ [])) ++ drop m (a ∷ b ∷ c ∷ d ∷ ws))) (on (length (cs ++ (x ∷ [])))))

pub stored_more : (ws : List ℕ) (row : List Card) (i : ℕ) {ws' : List ℕ} → length row ≡ 20 → i < min (length ws / 4) 20 → ws' ≡ words_with ws (take i row)
    → sets ws' (i * 4) (four_of (get_or row i fresh_card)) ≡ words_with ws (take (i + 1) row)
stored_more ws row i {ws'} e l is =
    let n : length (take i row) ≡ i = length-take-le i row (omega arith) in
    ap (λ (vs : List ℕ). sets vs (i * 4) (four_of (get_or row i fresh_card))) is
    ∙ ap (λ (m : ℕ). sets (words_with ws (take i row)) (m * 4) (four_of (get_or row i fresh_card))) (sym n)
    ∙ with_more (take i row) ws (get_or row i fresh_card) (omega arith)
    ∙ ap (words_with ws) (sym (ap (λ (k : ℕ). take k row) (add-one i) ∙ take-suc row i fresh_card (omega arith)))

-- the cards that came back, with those of the array that were not lent behind them
pub back : (m : ℕ) (row zs : List Card) (n : ℕ) → length row ≡ 20 → n ≡ min m 20 → length zs ≡ length (take n row) → take (min m 20) (zs ++ drop n row) ≡ zs
back m row zs n e size long =
    let k : length (take n row) ≡ n = length-take-le n row (omega arith) in
    take_at zs (drop n row) (min m 20) (omega arith)

-- what a call on the same cards answers and leaves
module _ (call : Call) (text : List ℕ) {cs ds : List Card} (same : cs ≡ ds) where
  pub changed : (told : Result (List ℕ)) (ws ws' text' : List ℕ)
      → (told ≡ answer call (row_of cs text)) × (ws' ≡ words_with ws (next call (row_of cs text)).cards) × (text' ≡ (next call (row_of cs text)).text)
      → (told ≡ answer call (row_of ds text)) × (ws' ≡ words_with ws (next call (row_of ds text)).cards) × (text' ≡ (next call (row_of ds text)).text)
  changed told ws ws' text' = subst
      (λ (xs : List Card). (told ≡ answer call (row_of xs text)) × (ws' ≡ words_with ws (next call (row_of xs text)).cards) × (text' ≡ (next call (row_of xs text)).text))
      same

  pub given : (told : Result ℕ) (room : ℕ) (out' : List ℕ) → (told ≡ counted (answer call (row_of cs text))) × (out' ≡ kept room (answer call (row_of cs text)))
      → (told ≡ counted (answer call (row_of ds text))) × (out' ≡ kept room (answer call (row_of ds text)))
  given told room out' = subst (λ (xs : List Card). (told ≡ counted (answer call (row_of xs text))) × (out' ≡ kept room (answer call (row_of xs text)))) same
