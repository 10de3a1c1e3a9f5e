-- The calls on words: the cards are read into an array.
-- Assumes nothing.
use mathlib.Core.Path.{◌≡◌, refl, sym, ◌∙◌, ap}
use mathlib.Core.List.{List, [], ◌++◌}
use Prim.Native.Nat.{ℕ, ◌+◌, ◌/◌, ◌<◌}
use native.Mathlib.Omega.{arith}
use lib.ListN.{length, get_or, set, take, drop, replicate, length-set}
use lib.Seq.{take_all, take_at}
use Rattle.room.specs.Room.{Result, good, bad, counted, kept}
use Rattle.shelf.specs.Shelf.{Shelf, fresh_card, card_for, replaced, mapped, put_on, drop_from, after}
use Rattle.shelf.specs.Runs.{Call, putting, getting, dropping, answer, next}
use Rattle.shelf.specs.Words.{cards_of, shelf_of, words_with}
use Rattle.shelf.specs.Rows.{laid, row_of}
use Rattle.shelf.specs.Told.{Changes, ChangesIn, Gets}
use Rattle.shelf.specs.declared.Card.{Card}
use Rattle.shelf.specs.declared.Label.{Label}
use Rattle.shelf.proofs.Apart.{all-refused, all_left}
use Rattle.shelf.proofs.Cards.{laid-more}
use Rattle.shelf.proofs.Words.{count, with_same}

-- one more card is read
pub read_more : (cs ys : List Card) (i : ℕ) {b : List Card} {c : Card} → i < length cs → i < length ys → c ≡ get_or cs i fresh_card → b ≡ laid i cs ys → set b i c ≡ laid (i + 1) cs ys
read_more cs ys i {b} l m k e = ap (λ x. set b i x) k ∙ laid-more i cs ys l m e

-- ---- a call on the array

module _ (ws text : List ℕ) {n : ℕ} (size : n ≡ length ws / 4) (ys : List Card) {a : List Card} (e : a ≡ laid n (cards_of ws) ys) where
  taken : take n a ≡ cards_of ws
  taken =
      let k : length (cards_of ws) ≡ n = count ws ∙ sym size in
      ap (take n) (e ∙ ap (λ (x : List Card). x ++ drop n ys) (take_all n (cards_of ws) (omega arith))) ∙ take_at (cards_of ws) (drop n ys) n k

  shelf-is : row_of (take n a) text ≡ shelf_of ws text
  unfolding shelf_of
  shelf-is = ap (λ cs. row_of cs text) taken

  -- put and drop: one card is stored, or none
  pub changed : (c : Call) {r : Result (List ℕ)} {cs : List Card} {text' ws' : List ℕ}
      → Changes c (row_of (take n a) text) r cs text' → ws' ≡ words_with ws cs → ChangesIn ws c (shelf_of ws text) r ws' text'
  changed c h g = (
    h.0 ∙ ap (answer c) shelf-is,
    g ∙ ap (words_with ws) (h.1 ∙ ap (λ (s : Shelf). (next c s).cards) shelf-is),
    h.2 ∙ ap (λ (s : Shelf). (next c s).text) shelf-is,
  )

  pub one_stored : (i : ℕ) {x y : Card} {ws' : List ℕ} → x ≡ y → ws' ≡ words_with ws (set (cards_of ws) i x) → ws' ≡ words_with ws (set (take n a) i y)
  one_stored i {x} {y} k g = g ∙ ap (λ (c : Card). words_with ws (set (cards_of ws) i c)) k ∙ ap (λ (cs : List Card). words_with ws (set cs i y)) (sym taken)

  pub none_stored : ws ≡ words_with ws (take n a)
  none_stored = sym (with_same ws) ∙ ap (words_with ws) (sym taken)

  pub among : {i : ℕ} → i < length (take n a) → i < length ws / 4
  among l = omega (arith, l, ap length taken, count ws)

  pub got : (l : Label) (out : List ℕ) {r : Result ℕ} {out' : List ℕ} → Gets l (row_of (take n a) text) r out out' → Gets l (shelf_of ws text) r out out'
  got l out h = (
    h.0 ∙ ap (λ (s : Shelf). counted (answer (getting l (length out)) s)) shelf-is,
    h.1 ∙ ap (λ (s : Shelf). kept (length out) (answer (getting l (length out)) s)) shelf-is,
  )

-- ---- put and drop keep the number of cards

keeps : (s : Shelf) (f : ℕ → Card) (sheet : List ℕ) (r : Result ℕ) → length (after s (mapped (λ i. replaced s i (f i) sheet) r)).cards ≡ length s.cards
unfolding after mapped replaced
keeps s f sheet (good i) = length-set s.cards i (f i)
keeps s f sheet (bad n p) = refl

pub put_keeps : (l : Label) (sheet : List ℕ) (s : Shelf) → length (next (putting l sheet) s).cards ≡ length s.cards
unfolding next put_on
put_keeps l sheet s = keeps s (λ i. card_for l (length sheet)) sheet _

pub drop_keeps : (l : Label) (s : Shelf) → length (next (dropping l) s).cards ≡ length s.cards
unfolding next drop_from
drop_keeps l s = keeps s (λ i. fresh_card) [] _

-- ---- too many cards

module _ (ws text : List ℕ) (m : 16 < length ws / 4) (c : Call) where
  many : 16 < length (shelf_of ws text).cards
  unfolding shelf_of
  many = omega (arith, count ws)

  pub many-changed : ChangesIn ws c (shelf_of ws text) (bad 39 0) ws text
  unfolding shelf_of
  many-changed =
      let q = sym (all_left (shelf_of ws text) many c) in
      (sym (all-refused (shelf_of ws text) many c), sym (with_same ws) ∙ ap (λ (s : Shelf). words_with ws s.cards) q, ap (λ (s : Shelf). s.text) q)

  pub many-got : (room : ℕ) {out : List ℕ} → out ≡ replicate room 0 → (bad 39 0 ≡ counted (answer c (shelf_of ws text))) × (out ≡ kept room (answer c (shelf_of ws text)))
  unfolding counted kept
  many-got room e = let q = all-refused (shelf_of ws text) many c in (sym (ap counted q), e ∙ sym (ap (kept room) q))
