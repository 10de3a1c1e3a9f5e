-- Cards in words.
-- Assumes nothing.
use mathlib.Core.Path.{◌≡◌, refl, sym, ◌∙◌, ap}
use mathlib.Core.List.{List, [], ◌∷◌, ◌++◌}
use Prim.Native.Nat.{ℕ, zero, suc, ◌+◌, ◌*◌, ◌/◌, ◌<◌}
use native.Mathlib.Nat.{not-suc-le-zero, le_of_suc-le-suc}
use native.Mathlib.Omega.{arith}
use lib.ListN.{length, get_or, drop, set}
use lib.Seq.{sets}
use Rattle.shelf.specs.Shelf.{fresh_card}
use Rattle.shelf.specs.Words.{cards_of, words_of, words_with}
use Rattle.shelf.specs.declared.Card.{Card}

abbrev pub four_of : Card → List ℕ
four_of c = c.desk ∷ c.call ∷ c.boat ∷ c.length ∷ []

pub count : (ws : List ℕ) → length (cards_of ws) ≡ length ws / 4
count [] = refl
count (a ∷ []) = refl
count (a ∷ b ∷ []) = refl
count (a ∷ b ∷ c ∷ []) = refl
count (a ∷ b ∷ c ∷ d ∷ ws) = omega (arith, count ws)

on : (k i : ℕ) → suc i * 4 + k ≡ suc (suc (suc (suc (i * 4 + k))))
on k i = omega arith

on-0 : (i : ℕ) → suc i * 4 ≡ suc (suc (suc (suc (i * 4))))
on-0 i = omega arith

pub card_at : (ws : List ℕ) (i : ℕ) → i < length (cards_of ws)
    → record { desk = get_or ws (i * 4) 0; call = get_or ws (i * 4 + 1) 0; boat = get_or ws (i * 4 + 2) 0; length = get_or ws (i * 4 + 3) 0 } ≡ get_or (cards_of ws) i fresh_card
card_at [] i l = absurd (not-suc-le-zero l)
card_at (a ∷ []) i l = absurd (not-suc-le-zero l)
card_at (a ∷ b ∷ []) i l = absurd (not-suc-le-zero l)
card_at (a ∷ b ∷ c ∷ []) i l = absurd (not-suc-le-zero l)
card_at (a ∷ b ∷ c ∷ d ∷ ws) zero l = refl
card_at (a ∷ b ∷ c ∷ d ∷ ws) (suc i) l =
    (λ t. record { desk = at_0 t; call = at 1 t; boat = at 2 t; length = at 3 t })
    ∙ card_at ws i (le_of_suc-le-suc l)
  where
    at : (k : ℕ) → get_or (a ∷ b ∷ c ∷ d ∷ ws) (suc i * 4 + k) 0 ≡ get_or ws (i * 4 + k) 0
    at k = ap (λ (m : ℕ). get_or (a ∷ b ∷ c ∷ d ∷ ws) m 0) (on k i)

    at_0 : get_or (a ∷ b ∷ c ∷ d ∷ ws) (suc i * 4) 0 ≡ get_or ws (i * 4) 0
    at_0 = ap (λ (m : ℕ). get_or (a ∷ b ∷ c ∷ d ∷ ws) m 0) (on-0 i)

-- the same words with the same cards
pub with_same : (ws : List ℕ) → words_with ws (cards_of ws) ≡ ws
unfolding words_with
with_same [] = refl
with_same (a ∷ []) = refl
with_same (a ∷ b ∷ []) = refl
with_same (a ∷ b ∷ c ∷ []) = refl
with_same (a ∷ b ∷ c ∷ d ∷ ws) =
    ap (λ (m : ℕ). a ∷ b ∷ c ∷ d ∷ words_of (cards_of ws) ++ drop m (a ∷ b ∷ c ∷ d ∷ ws)) (on-0 (length (cards_of ws)))
    ∙ ap (λ (vs : List ℕ). a ∷ b ∷ c ∷ d ∷ vs) (with_same ws)

-- a card stored, word by word
pub stored : (ws : List ℕ) (i : ℕ) (x : Card) → i < length (cards_of ws) → sets ws (i * 4) (four_of x) ≡ words_with ws (set (cards_of ws) i x)
unfolding words_with
stored [] i x l = absurd (not-suc-le-zero l)
stored (a ∷ []) i x l = absurd (not-suc-le-zero l)
stored (a ∷ b ∷ []) i x l = absurd (not-suc-le-zero l)
stored (a ∷ b ∷ c ∷ []) i x l = absurd (not-suc-le-zero l)
stored (a ∷ b ∷ c ∷ d ∷ ws) zero x l =
    sym (ap (λ (m : ℕ). four_of x ++ (words_of (cards_of ws) ++ drop m (a ∷ b ∷ c ∷ d ∷ ws))) (on-0 (length (cards_of ws)))
    ∙ ap (λ (vs : List ℕ). four_of x ++ vs) (with_same ws))
stored (a ∷ b ∷ c ∷ d ∷ ws) (suc i) x l =
    ap (λ (m : ℕ). sets (a ∷ b ∷ c ∷ d ∷ ws) m (four_of x)) (on-0 i)
    ∙ ap (λ (vs : List ℕ). a ∷ b ∷ c ∷ d ∷ vs) (stored ws i x (le_of_suc-le-suc l))
    ∙ sym (ap (λ (m : ℕ). a ∷ b ∷ c ∷ d ∷ words_of (set (cards_of ws) i x) ++ drop m (a ∷ b ∷ c ∷ d ∷ ws)) (on-0 (length (set (cards_of ws) i x))))

-- the cards that are put in front, as many as there were
pub cards-with : (ws : List ℕ) (cs : List Card) → length cs ≡ length (cards_of ws) → cards_of (words_with ws cs) ≡ cs
unfolding words_with
cards-with [] [] e = refl
cards-with (a ∷ []) [] e = refl
cards-with (a ∷ b ∷ []) [] e = refl
cards-with (a ∷ b ∷ c ∷ []) [] e = refl
cards-with (a ∷ b ∷ c ∷ d ∷ ws) [] e = absurd (omega arith)
cards-with [] (x ∷ cs) e = absurd (omega arith)
cards-with (a ∷ []) (x ∷ cs) e = absurd (omega arith)
cards-with (a ∷ b ∷ []) (x ∷ cs) e = absurd (omega arith)
cards-with (a ∷ b ∷ c ∷ []) (x ∷ cs) e = absurd (omega arith)
cards-with (a ∷ b ∷ c ∷ d ∷ ws) (x ∷ cs) e =
    ap (λ (m : ℕ). cards_of (four_of x ++ (words_of cs ++ drop m (a ∷ b ∷ c ∷ d ∷ ws)))) (on-0 (length cs))
    ∙ ap (λ (ds : List Card). x ∷ ds) (cards-with ws cs (omega arith))

pub words-length : (cs : List Card) → length (words_of cs) ≡ length cs * 4
words-length [] = refl
words-length (c ∷ cs) = omega (arith, words-length cs)

pub cards-words : (cs : List Card) → cards_of (words_of cs) ≡ cs
cards-words [] = refl
cards-words (c ∷ cs) = ap (λ (ds : List Card). c ∷ ds) (cards-words cs)
