-- What a call leaves in the file: the text is lent as a part of it, and the words of the cards are put in front.
-- Assumes nothing.
use mathlib.Core.Path.{◌≡◌, sym, ◌∙◌, ap}
use mathlib.Core.List.{List, [], ◌++◌, append-nil}
use Prim.Native.Nat.{ℕ, ◌*◌, ◌-◌}
use native.Mathlib.Omega.{arith}
use lib.ListN.{length, take, drop, replicate, length-drop, drop_of_length-le}
use lib.Seq.{take_all, drop_at, length-take-le}
use borrow.Rule.Slice.PartMut.{mid_of, post_of, put_mid, same_len_mid, Post-is}
use borrow.Author.Tests.{eq-eqb, ne_eqb}
use Rattle.room.specs.Room.{Result, bad, counted, kept}
use Rattle.room.specs.Counts.{Counts}
use Rattle.room.proofs.Counting.{wrote-front}
use Rattle.shelf.specs.Shelf.{Shelf}
use Rattle.shelf.specs.Runs.{Call, answer, next}
use Rattle.shelf.specs.Words.{words_of, shelf_of, words_with}
use Rattle.shelf.specs.declared.Card.{Card}
use Rattle.shelf.proofs.Words.{count, words-length}
use Rattle.shelf_file.specs.Layout.{eights, words_from, file_of, shelf_in, answer_in, file_after}
use Rattle.shelf_file.proofs.Bytes as bytes
use Rattle.shelf_file.proofs.Bytes.{eights-length}

-- a file of another size
module _ (x : Call) (f : List ℕ) (e : length f ≡ 1049088 → ⊥) where
  pub other-answer : bad 39 0 ≡ answer_in x f
  unfolding answer_in
  other-answer = rw (ne_eqb (length f) 1049088 e)

  pub other-file : f ≡ file_after x f
  unfolding file_after
  other-file = rw (ne_eqb (length f) 1049088 e)

  pub other-got : (room : ℕ) {out : List ℕ} → out ≡ replicate room 0 → (bad 39 0 ≡ counted (answer_in x f)) × (out ≡ kept room (answer_in x f))
  unfolding counted kept
  other-got room k = (ap counted other-answer, k ∙ ap (kept room) other-answer)

module _ (x : Call) (f : List ℕ) (e : length f ≡ 1049088) where
  the_answer : answer_in x f ≡ answer x (shelf_in f)
  unfolding answer_in
  the_answer = rw (eq-eqb (length f) 1049088 e)

  the_file : file_after x f ≡ file_of (next x (shelf_in f))
  unfolding file_after
  the_file = rw (eq-eqb (length f) 1049088 e)

  text-is : mid_of 512 (length f - 512) f ≡ drop 512 f
  text-is = take_all (length f - 512) (drop 512 f) (omega (arith, length-drop 512 f))

  shelf-is : {ws : List ℕ} → ws ≡ words_from 64 f 0 → shelf_of ws (mid_of 512 (length f - 512) f) ≡ shelf_in f
  unfolding shelf_in
  shelf-is {ws} w = ap (λ (t : List ℕ). shelf_of ws t) text-is ∙ ap (λ (v : List ℕ). shelf_of v (drop 512 f)) w

  pub got : (room : ℕ) {r : Result ℕ} {ws out : List ℕ} → ws ≡ words_from 64 f 0
      → (r ≡ counted (answer x (shelf_of ws (mid_of 512 (length f - 512) f)))) × (out ≡ kept room (answer x (shelf_of ws (mid_of 512 (length f - 512) f))))
      → (r ≡ counted (answer_in x f)) × (out ≡ kept room (answer_in x f))
  got room w g =
      let s : answer x (shelf_of _ (mid_of 512 (length f - 512) f)) ≡ answer_in x f = ap (answer x) (shelf-is w) ∙ sym the_answer in
      (g.0 ∙ ap counted s, g.1 ∙ ap (kept room) s)

  -- sixteen cards take the place of sixteen
  words_are : {ws ws' : List ℕ} (cs : List Card) → ws ≡ words_from 64 f 0 → length cs ≡ 16 → ws' ≡ words_with ws cs → ws' ≡ words_of cs
  unfolding words_with
  words_are {ws} cs w k v =
      let n : length ws ≡ 64 = ap length w ∙ bytes.words-length 64 f 0 in
      let z : drop (length cs * 4) ws ≡ [] = drop_of_length-le ws {i = length cs * 4} (omega arith) in
      v ∙ ap (λ (u : List ℕ). words_of cs ++ u) z ∙ append-nil (words_of cs)

  -- the words are put in front of the text
  put_front : (ws text : List ℕ) {f' : List ℕ} {n : ℕ} → length ws ≡ 64 → length text ≡ length (mid_of 512 (length f - 512) f)
      → Counts (put_mid 512 (length f - 512) f text) f' 0 (eights ws) n → f' ≡ eights ws ++ text
  put_front ws text k l p =
      let g : length (put_mid 512 (length f - 512) f text) ≡ length f = same_len_mid 512 (length f - 512) f text l in
      let q : length (eights ws) ≡ 512 = eights-length ws ∙ omega arith in
      let a = p.after in let front = wrote-front p (omega arith) (omega arith) in
      let z : post_of 512 (length f - 512) f ≡ [] = Post-is 512 (length f) f (omega arith) ∙ drop_of_length-le f {i = length f} (omega arith) in
      let h : drop 512 (put_mid 512 (length f - 512) f text) ≡ text =
      drop_at (take 512 f) (text ++ post_of 512 (length f - 512) f) 512 (length-take-le 512 f (omega arith))
      ∙ ap (λ (u : List ℕ). text ++ u) z ∙ append-nil text in
      front.2 ∙ ap (λ (m : ℕ). eights ws ++ drop m (put_mid 512 (length f - 512) f text)) q ∙ ap (λ (u : List ℕ). eights ws ++ u) h

  cards-are : length (shelf_in f).cards ≡ 16
  unfolding shelf_in shelf_of
  cards-are = omega (arith, count (words_from 64 f 0), bytes.words-length 64 f 0)

  pub left : {r : Result (List ℕ)} {ws ws' text f' : List ℕ} {n : ℕ} → length (next x (shelf_in f)).cards ≡ length (shelf_in f).cards → ws ≡ words_from 64 f 0
      → (r ≡ answer x (shelf_of ws (mid_of 512 (length f - 512) f)))
      × ((ws' ≡ words_with ws (next x (shelf_of ws (mid_of 512 (length f - 512) f))).cards)
      × (text ≡ (next x (shelf_of ws (mid_of 512 (length f - 512) f))).text))
      → length text ≡ length (mid_of 512 (length f - 512) f)
      → Counts (put_mid 512 (length f - 512) f text) f' 0 (eights ws') n
      → (r ≡ answer_in x f) × (f' ≡ file_after x f)
  unfolding file_of
  left {r} {ws} {ws'} {text} {f'} k w a l p =
      let s = shelf-is w in let cs : List Card = (next x (shelf_in f)).cards in
      let v : ws' ≡ words_of cs = words_are cs w (k ∙ cards-are) (a.1.0 ∙ ap (λ (y : Shelf). words_with ws (next x y).cards) s) in
      let m : length ws' ≡ 64 = ap length v ∙ omega (arith, words-length cs, k, cards-are) in (
        a.0 ∙ ap (answer x) s ∙ sym the_answer,
        put_front ws' text m l p ∙ ap (λ (u : List ℕ). eights u ++ text) v ∙ ap (λ (u : List ℕ). eights (words_of cs) ++ u) (a.1.1 ∙ ap (λ (y : Shelf). (next x y).text) s)
            ∙ sym the_file,
      )
