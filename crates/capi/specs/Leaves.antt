-- What a call for C and Rust leaves: its question's outcome, or what a call of the shelf leaves; the answer's words in a lent buffer.
-- Assumes nothing.
use Rattle.std.specs.Prelude.{◌≡◌, List, [], ◌∷◌, map, ℕ, zero, suc, length}
use Rattle.find.specs.Find.{Wanted, standard, custom}
use Rattle.shelf.specs.declared.Label.{Label}
use Rattle.shelf.specs.Runs.{Call, getting}
use Rattle.shelf.specs.Words.{shelf_of, words_with}
use Rattle.promises.specs.Promises.{Question, account_bytes, outcome}
use Rattle.promises.specs.Shelf.{leaves}
use Rattle.words.specs.Fit.{fit, stored, totals_of}

-- a call with this file, these tables and buffers lent and this buffer for the answer: what is left in them is as the question's outcome says
pub record Leaves (q : Question) (file : List ℕ) (lent left : List (List ℕ)) (answer answer' : List ℕ) : Type 0 where
  pub answers : answer' ≡ fit (length answer) (outcome q (map length lent) file).answer
  pub holding : left ≡ (outcome q (map length lent) file).holds

-- the field that is asked for: kind 0 is a standard number, any other a custom name
unfoldable pub asked : (kind number : ℕ) → List ℕ → Wanted
asked zero number name = standard number
asked (suc k) number name = custom name

-- a call with totals in a buffer of words: those that the outcome has for them are stored in it
pub record LeavesTotals (file nodes items nodes' items' totals totals' answer answer' : List ℕ) : Type 0 where
  pub words : List ℕ
  pub leaves : Leaves (account_bytes (totals_of totals)) file (nodes ∷ items ∷ []) (nodes' ∷ items' ∷ words ∷ []) answer answer'
  pub in_totals : totals' ≡ stored totals words

-- a call that changes a shelf whose cards are words: the cards that are left are in the words of the old ones, and words that are no card stay
pub record LeavesShelf (c : Call) (cards cards' text text' answer answer' : List ℕ) : Type 0 where
  pub answers : answer' ≡ fit (length answer) (leaves c (shelf_of cards text)).answer
  pub in_cards : cards' ≡ words_with cards (leaves c (shelf_of cards text)).shelf.cards
  pub in_text : text' ≡ (leaves c (shelf_of cards text)).shelf.text

-- a call that gets a sheet from it into a buffer
pub record LeavesSheet (l : Label) (cards text out out' answer answer' : List ℕ) : Type 0 where
  pub answers : answer' ≡ fit (length answer) (leaves (getting l (length out)) (shelf_of cards text)).answer
  pub in_buffer : out' ≡ (leaves (getting l (length out)) (shelf_of cards text)).buffer
