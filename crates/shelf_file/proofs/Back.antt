-- The file and the shelf, there and back: what a call left is what the next one finds, and a call that is refused leaves every byte as it was.
-- Assumes nothing.
use mathlib.Core.Path.{◌≡◌, refl, sym, ◌∙◌, ap, ap₂}
use mathlib.Core.Bool.{Bool, true, false}
use mathlib.Core.List.{List, [], ◌∷◌, ◌++◌, append_assoc, append-nil}
use Prim.Native.Nat.{ℕ, zero, suc, ◌+◌, ◌*◌, ◌/◌, ◌%◌, ◌<◌, ◌≤◌, ◌^◌}
use native.Mathlib.Omega.{arith}
use native.Mathlib.Nat.{add-zero}
use lib.ListN.{length, get_or, drop, length-append, drop_of_length-le}
use lib.Seq.{drop-cons, drop_at, get_or-append-add}
use lib.Dec.{eqb}
use borrow.Author.Tests.{eqb-true}
use Rattle.room.specs.Room.{Result, good, bad}
use Rattle.shelf.specs.Shelf.{Shelf, put_on, drop_from, mapped, after, told}
use Rattle.shelf.specs.Runs.{Call, putting, getting, dropping, answer, next}
use Rattle.shelf.specs.Words.{cards_of, words_of, shelf_of, words_with}
use Rattle.shelf.specs.declared.Card.{Card}
use Rattle.shelf.proofs.Words.{words-length, cards-words, count, with_same}
use Rattle.shelf_file.specs.Layout.{eight, eights, word_at, words_from, file_of, shelf_in, Bytes, Held, answer_in, file_after}
use Rattle.shelf_file.proofs.Bytes as bytes
use Rattle.shelf_file.proofs.Bytes.{eights-length}

-- ---- one number

-- a byte less, and the last byte
less_1 : (n : ℕ) → n / 0x10000 ≡ n / 0x100 / 256
less_1 n = omega arith

less_2 : (n : ℕ) → n / 0x1000000 ≡ n / 0x10000 / 256
less_2 n = omega arith

less_3 : (n : ℕ) → n / 0x100000000 ≡ n / 0x1000000 / 256
less_3 n = omega arith

less_4 : (n : ℕ) → n / 0x10000000000 ≡ n / 0x100000000 / 256
less_4 n = omega arith

less_5 : (n : ℕ) → n / 0x1000000000000 ≡ n / 0x10000000000 / 256
less_5 n = omega arith

less_6 : (n : ℕ) → n / 0x100000000000000 ≡ n / 0x1000000000000 / 256
less_6 n = omega arith

last : (n : ℕ) → n ≡ n / 256 * 256 + n % 256
last n = omega arith

next_last : (m n : ℕ) → m ≡ n / 256 → n ≡ m * 256 + n % 256
next_last m n e = omega arith

first_byte : (n : ℕ) → n < 2 ^ 64 → n / 0x100000000000000 ≡ n / 0x100000000000000 % 256
first_byte n l = omega arith

summed : (n a b c d e f g q r s t u v h : ℕ)
    → n ≡ v * 256 + h → v ≡ u * 256 + g → u ≡ t * 256 + f → t ≡ s * 256 + e → s ≡ r * 256 + d → r ≡ q * 256 + c → q ≡ a * 256 + b
    → a * 0x100000000000000 + b * 0x1000000000000 + c * 0x10000000000 + d * 0x100000000 + e * 0x1000000 + f * 0x10000 + g * 0x100 + h ≡ n
summed n a b c d e f g q r s t u v h i j k l m o p = omega arith

-- a number in eight bytes is read as itself
word-eight : (n : ℕ) → n < 2 ^ 64 → (s : List ℕ) → word_at (eight n ++ s) 0 ≡ n
word-eight n l s =
    summed n _ _ _ _ _ _ _ _ _ _ _ _ _ _ (last n)
    (next_last _ _ (less_1 n)) (next_last _ _ (less_2 n)) (next_last _ _ (less_3 n)) (next_last _ _ (less_4 n)) (next_last _ _ (less_5 n))
    (rw (← (first_byte n l)) (next_last _ _ (less_6 n)))

-- eight bytes that are read are put as themselves
peeled : (y h : ℕ) → h < 256 → (y * 256 + h) / 256 ≡ y
peeled y h l = omega arith

peel : (y h : ℕ) → h < 256 → (y * 256 + h) % 256 ≡ h
peel y h l = omega arith

small : (a : ℕ) → a < 256 → a % 256 ≡ a
small a l = omega arith

eight-word : (a b c d e f g h : ℕ) → a < 256 → b < 256 → c < 256 → d < 256 → e < 256 → f < 256 → g < 256 → h < 256
    → eight (a * 0x100000000000000 + b * 0x1000000000000 + c * 0x10000000000 + d * 0x100000000 + e * 0x1000000 + f * 0x10000 + g * 0x100 + h)
    ≡ a ∷ b ∷ c ∷ d ∷ e ∷ f ∷ g ∷ h ∷ []
eight-word a b c d e f g h p q r s t u v w =
    let y6 = a * 256 + b in let y5 = y6 * 256 + c in let y4 = y5 * 256 + d in let y3 = y4 * 256 + e in
    let y2 = y3 * 256 + f in let y1 = y2 * 256 + g in let n = y1 * 256 + h in let z1 : n / 0x100 ≡ y1 = peeled y1 h w in
    let z2 : n / 0x10000 ≡ y2 = less_1 n ∙ ap (λ (m : ℕ). m / 256) z1 ∙ peeled y2 g v in
    let z3 : n / 0x1000000 ≡ y3 = less_2 n ∙ ap (λ (m : ℕ). m / 256) z2 ∙ peeled y3 f u in
    let z4 : n / 0x100000000 ≡ y4 = less_3 n ∙ ap (λ (m : ℕ). m / 256) z3 ∙ peeled y4 e t in
    let z5 : n / 0x10000000000 ≡ y5 = less_4 n ∙ ap (λ (m : ℕ). m / 256) z4 ∙ peeled y5 d s in
    let z6 : n / 0x1000000000000 ≡ y6 = less_5 n ∙ ap (λ (m : ℕ). m / 256) z5 ∙ peeled y6 c r in
    let z7 : n / 0x100000000000000 ≡ a = less_6 n ∙ ap (λ (m : ℕ). m / 256) z6 ∙ peeled a b q in
    ap eight (summed n a b c d e f g y6 y5 y4 y3 y2 y1 h refl refl refl refl refl refl refl)
    ∙ rw (z7, z6, z5, z4, z3, z2, z1, peel y1 h w, peel y2 g v, peel y3 f u, peel y4 e t, peel y5 d s, peel y6 c r, peel a b q, small a p)

-- ---- many

-- the eight bytes from p on
cut : (f : List ℕ) (p : ℕ) → p + 8 ≤ length f
    → drop p f ≡ get_or f p 0 ∷ get_or f (p + 1) 0 ∷ get_or f (p + 2) 0 ∷ get_or f (p + 3) 0 ∷ get_or f (p + 4) 0 ∷ get_or f (p + 5) 0 ∷ get_or f (p + 6) 0 ∷ get_or f (p + 7) 0 ∷ drop (p + 8) f
cut f p l =
    rw (
      on p (p + 1) (omega arith) (omega arith),
      on (p + 1) (p + 2) (omega arith) (omega arith),
      on (p + 2) (p + 3) (omega arith) (omega arith),
      on (p + 3) (p + 4) (omega arith) (omega arith),
      on (p + 4) (p + 5) (omega arith) (omega arith),
      on (p + 5) (p + 6) (omega arith) (omega arith),
      on (p + 6) (p + 7) (omega arith) (omega arith),
      on (p + 7) (p + 8) (omega arith) (omega arith),
    )
  where
    on : (q r : ℕ) → suc q ≡ r → q < length f → drop q f ≡ get_or f q 0 ∷ drop r f
    on q r e h = drop-cons f q 0 h ∙ ap (λ (m : ℕ). get_or f q 0 ∷ drop m f) e

-- the bytes of words that are read from p on
put-read : (n : ℕ) (f : List ℕ) (p : ℕ) → Bytes f → p + n * 8 ≤ length f → eights (words_from n f p) ++ drop (p + n * 8) f ≡ drop p f
unfolding eights words_from
put-read zero f p b l = let e : p + 0 * 8 ≡ p = omega arith in ap (λ (m : ℕ). drop m f) e
put-read (suc n) f p b l =
    let e : p + suc n * 8 ≡ p + 8 + n * 8 = omega arith in
    append_assoc (eight (word_at f p)) (eights (words_from n f (p + 8))) (drop (p + suc n * 8) f)
    ∙ ap (λ (m : ℕ). eight (word_at f p) ++ (eights (words_from n f (p + 8)) ++ drop m f)) e
    ∙ ap₂ (λ (x y : List ℕ). x ++ y) (eight-word _ _ _ _ _ _ _ _ (b p) (b (p + 1)) (b (p + 2)) (b (p + 3)) (b (p + 4)) (b (p + 5)) (b (p + 6)) (b (p + 7)))
    (put-read n f (p + 8) b (omega arith))
    ∙ sym (cut f p (omega arith))

-- the words that are put behind `before`
behind-at : (before x : List ℕ) → word_at (before ++ x) (length before) ≡ word_at x 0
behind-at before x =
    let z : get_or (before ++ x) (length before) 0 ≡ get_or x 0 0 = ap (λ (m : ℕ). get_or (before ++ x) m 0) (sym (add-zero (length before))) ∙ get_or-append-add before x 0 0 in
    rw (
      z,
      get_or-append-add before x 1 0,
      get_or-append-add before x 2 0,
      get_or-append-add before x 3 0,
      get_or-append-add before x 4 0,
      get_or-append-add before x 5 0,
      get_or-append-add before x 6 0,
      get_or-append-add before x 7 0,
    )

read-put : (ws before behind : List ℕ) → ((k : ℕ) → get_or ws k 0 < 2 ^ 64) → words_from (length ws) (before ++ (eights ws ++ behind)) (length before) ≡ ws
unfolding eights words_from
read-put [] before behind h = refl
read-put (w ∷ ws) before behind h =
    let m : before ++ ((eight w ++ eights ws) ++ behind) ≡ (before ++ eight w) ++ (eights ws ++ behind) =
    ap (λ (x : List ℕ). before ++ x) (append_assoc (eight w) (eights ws) behind) ∙ sym (append_assoc before (eight w) (eights ws ++ behind)) in
    let n : length before + 8 ≡ length (before ++ eight w) = sym (length-append before (eight w)) in
    ap₂ (λ (v : ℕ) (vs : List ℕ). v ∷ vs)
    (behind-at before ((eight w ++ eights ws) ++ behind) ∙ word-eight w (h 0) (eights ws ++ behind))
    (ap₂ (λ (x : List ℕ) (q : ℕ). words_from (length ws) x q) m n ∙ read-put ws (before ++ eight w) behind (λ k. h (suc k)))

-- ---- the whole file

-- the shelf that a file holds is the one that it was made of
pub there : (s : Shelf) → Held s → shelf_in (file_of s) ≡ s
unfolding shelf_in file_of shelf_of
there s h =
    let ws = words_of s.cards in
    let n : length ws ≡ 64 = words-length s.cards ∙ ap (λ (m : ℕ). m * 4) h.sixteen in
    let q : length (eights ws) ≡ 512 = eights-length ws ∙ ap (λ (m : ℕ). m * 8) n in
    let r : words_from 64 (eights ws ++ s.text) 0 ≡ ws = rw n at (read-put ws [] s.text h.small) in
    ap₂ (λ (cs : List Card) (t : List ℕ). record { cards = cs; text = t }) (ap cards_of r ∙ cards-words s.cards) (drop_at (eights ws) s.text 512 q)

-- the file of the shelf that a file holds is that file
pub back : (f : List ℕ) → Bytes f → 512 ≤ length f → file_of (shelf_in f) ≡ f
unfolding shelf_in file_of shelf_of words_with
back f b l =
    let ws = words_from 64 f 0 in let n : length ws ≡ 64 = bytes.words-length 64 f 0 in
    let z : drop (length (cards_of ws) * 4) ws ≡ [] = drop_of_length-le ws {i = length (cards_of ws) * 4} (omega (arith, count ws)) in
    let v : words_of (cards_of ws) ≡ ws = sym (append-nil (words_of (cards_of ws))) ∙ ap (λ (x : List ℕ). words_of (cards_of ws) ++ x) (sym z) ∙ with_same ws in
    ap (λ (x : List ℕ). eights x ++ drop 512 f) v ∙ put-read 64 f 0 b l

-- ---- a call that is refused leaves the file

stays : {s : Shelf} (r : Result Shelf) {n p : ℕ} → told r ≡ bad n p → after s r ≡ s
unfolding told mapped after
stays (good t) e = let z : ◌≡◌ {A = ℕ} 0 1 = cc in absurd (omega arith)
stays (bad m q) e = refl

refused-shelf : (x : Call) (s : Shelf) {n p : ℕ} → answer x s ≡ bad n p → next x s ≡ s
unfolding answer next
refused-shelf (putting l sheet) s e = stays (put_on l sheet s) e
refused-shelf (getting l room) s e = refl
refused-shelf (dropping l) s e = stays (drop_from l s) e

pub refused-file : (x : Call) (f : List ℕ) {n p : ℕ} → Bytes f → answer_in x f ≡ bad n p → file_after x f ≡ f
unfolding answer_in file_after
refused-file x f b e = by (eqb (length f) 1049088) refl
  where
    by : (t : Bool) → eqb (length f) 1049088 ≡ t → file_after x f ≡ f
    by true k = rw k (ap file_of (refused-shelf x (shelf_in f) (rw k at e)) ∙ back f b (omega (arith, eqb-true (length f) 1049088 k)))
    by false k = rw k
