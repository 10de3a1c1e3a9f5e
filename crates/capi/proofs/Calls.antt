-- What a call for C and Rust leaves; and demand 3 of two calls.
-- Assumes nothing.
use mathlib.Core.Path.{◌≡◌, refl, sym, ap, ap₂, ◌∙◌, subst}
use mathlib.Core.List.{List, [], ◌∷◌, map}
use Prim.Native.Nat.{ℕ, zero, suc}
use lib.ListN.{length}
use Rattle.cursor.specs.declared.Node.{Node}
use Rattle.cursor.specs.declared.Item.{Item}
use Rattle.header.specs.Header.{Header}
use Rattle.room.specs.Room.{counted, kept}
use Rattle.file.specs.Reading.{rows}
use Rattle.file_laws.specs.Private.{DifferInPrivate}
use Rattle.find.specs.Find.{Wanted, standard, custom}
use Rattle.account.specs.Told as accounted
use Rattle.account.specs.Told.{told, totals_in, kind_words, total_words, totals_after, nodes_after, items_after}
use Rattle.account.specs.declared.Totals.{Totals}
use Rattle.account.specs.declared.Accounted.{Accounted}
use Rattle.shelf.specs.declared.Label.{Label}
use Rattle.shelf.specs.Runs as runs
use Rattle.shelf.specs.Runs.{Call, getting, next}
use Rattle.shelf.specs.Words.{shelf_of, words_with}
use Rattle.shelf.specs.Told.{told_outcome, told_got}
use Rattle.refusals.specs.declared.Refusal.{Refusal}
use Rattle.std.proofs.Common as std
use Rattle.promises.specs.Promises.{Question, account_bytes, about, Outcome, saying, one_value, lent, reads, outcome, EachAlike}
use Rattle.promises.specs.Shelf as page
use Rattle.promises.specs.Shelf.{Left, no_value, values, get-words}
use Rattle.promises.specs.Calls.{Called, account}
use Rattle.promises.proofs.Kept.{called, demand3}
use Rattle.promises.proofs.Shelf.{each-leaves}
use Rattle.capi.specs.Leaves.{asked, Leaves, LeavesTotals, LeavesShelf, LeavesSheet}
use Rattle.words.specs.Fit.{fit, stored, totals_of}

pub leaves : {q : Question} {lent : List (List ℕ)} {f answer' : List ℕ} {o : Outcome} (answer : List ℕ) → Called q lent f o → answer' ≡ fit
    (length answer) o.answer → Leaves q f lent o.holds answer answer'
leaves answer k e = record { answers = e ∙ ap (λ (v : Outcome). fit (length answer) v.answer) (called k); holding = ap (λ (v : Outcome). v.holds) (called k) }

module _ (q : Wanted → (row : ℕ) → Question) (kind number : ℕ) (name : List ℕ) (row : ℕ) {f a a' : List ℕ} {lent left : List (List ℕ)} where
  pub asks-standard : kind ≡ 0 → Leaves (q (standard number) row) f lent left a a' → Leaves (q (asked kind number name) row) f lent left a a'
  unfolding asked
  asks-standard e h = rw e h

  pub asks-custom : ((kind ≡ 0) → ⊥) → Leaves (q (custom name) row) f lent left a a' → Leaves (q (asked kind number name) row) f lent left a a'
  unfolding asked
  asks-custom n h = by kind n h
    where
      by : (k : ℕ) → ((k ≡ 0) → ⊥) → Leaves (q (custom name) row) f lent left a a' → Leaves (q (asked k number name) row) f lent left a a'
      by zero n h = absurd (n refl)
      by (suc k) n h = h

-- the account, with totals in words
pub account-leaves : {nodes items f answer' t u totals' : List ℕ} {before : Totals} (totals answer : List ℕ) (r : Accounted) → before ≡ totals_of totals
    → (told r ≡ accounted.answer before nodes items f) ×
    ((totals_in r ≡ totals_after before nodes items f) × ((t ≡ nodes_after before nodes items f) × (u ≡ items_after before nodes items f)))
    → totals' ≡ stored totals (total_words (totals_in r)) → answer' ≡ fit (length answer) (saying kind_words (told r)) → LeavesTotals
    f nodes items t u totals totals' answer answer'
account-leaves {nodes} {items} {f} {answer'} {t} {u} totals answer r b k s e = record {
  words = total_words (totals_in r);
  leaves = subst (λ v. Leaves (account_bytes v) f (nodes ∷ items ∷ []) (t ∷ u ∷ total_words (totals_in r) ∷ []) answer answer') b
      (leaves answer (account _ r k.0 k.1.0 k.1.1.0 k.1.1.1) e);
  in_totals = s;
}

-- ---- the shelf

-- put and drop, which answer no value
pub shelf-leaves : (c : Call) → values c ≡ no_value → {cards cards' text text' answer' : List ℕ} (answer : List ℕ) (r : std.Result (Unit {0}) Refusal)
    → (told_outcome r ≡ runs.answer c (shelf_of cards text)) × ((cards' ≡ words_with cards (next c (shelf_of cards text)).cards) × (text' ≡ (next c (shelf_of cards text)).text))
    → answer' ≡ fit (length answer) (saying no_value (told_outcome r)) → LeavesShelf c cards cards' text text' answer answer'
unfolding page.leaves
shelf-leaves c v {cards} {text = text} answer r k e = record {
  answers = e ∙ ap (λ x. fit (length answer) (saying no_value x)) k.0 ∙ ap (λ u. fit (length answer) (saying u (runs.answer c (shelf_of cards text)))) (sym v);
  in_cards = k.1.0;
  in_text = k.1.1;
}

-- get
pub sheet_leaves : (l : Label) {cards text out' answer' : List ℕ} (out answer : List ℕ) (r : std.Result ℕ Refusal)
    → (told_got r ≡ counted (runs.answer (getting l (length out)) (shelf_of cards text))) × (out' ≡ kept (length out) (runs.answer (getting l (length out)) (shelf_of cards text)))
    → answer' ≡ fit (length answer) (saying one_value (told_got r)) → LeavesSheet l cards text out out' answer answer'
unfolding page.leaves
sheet_leaves l {cards} {text} out answer r k e =
    let o = each-leaves _ _ _ (get-words cards text out l r k.0 k.1) in
    record { answers = e ∙ ap (λ (v : Left). fit (length answer) v.answer) o; in_buffer = ap (λ (v : Left). v.buffer) o }

-- ---- demand 3 of two calls, whatever their tables and buffers held

pub calls_alike : (q : Question) (lends lends' : List (List ℕ)) → map length lends' ≡ map length lends → (f g : List ℕ) (h : Header) (ns : List Node) (is : List Item)
    → reads (map length lends) f ≡ rows h ns is → DifferInPrivate h ns is f g → {a a' b b' : List ℕ} → length b ≡ length a → {left left' : List (List ℕ)}
    → Leaves q f lends left a a' → Leaves q g lends' left' b b' → (b' ≡ a') × EachAlike (map length lends) f g
    (outcome q (map length lends) f).answer (lent (about q) (map length lends) f) left left'
calls_alike q lends lends' e f g h ns is r d {a} z {left} {left'} l k =
    let (_, (same, alike), _) = demand3 q (map length lends) f g h ns is r d in
    let o : outcome q (map length lends') g ≡ outcome q (map length lends) g = ap (λ ls. outcome q ls g) e in
    let Alike : (x y : List (List ℕ)) → Type 0 = EachAlike (map length lends) f g (outcome q (map length lends) f).answer (lent (about q) (map length lends) f) in (
      k.answers ∙ ap₂ (λ n (v : Outcome). fit n v.answer) z o ∙ ap (fit (length a)) same ∙ sym l.answers,
      subst (λ v. Alike v left') (sym l.holding) (subst (Alike (outcome q (map length lends) f).holds) (sym (k.holding ∙ ap (λ (v : Outcome). v.holds) o)) alike),
    )

-- and of two with the same totals: the answer, both tables and the totals are the same
pub totals_alike : (nodes items nodes₁ items₁ : List ℕ) → length nodes₁ ≡ length nodes → length items₁ ≡ length items →
    (f g totals : List ℕ) (h : Header) (ns : List Node) (is : List Item)
    → reads (length nodes ∷ length items ∷ []) f ≡ rows h ns is → DifferInPrivate h ns is f g → {a a' b b' t t₁ u u₁ v v₁ : List ℕ} → length b ≡ length a
    → LeavesTotals f nodes items t u totals v a a' → LeavesTotals g nodes₁ items₁ t₁ u₁ totals v₁ b b' → (b' ≡ a') × (t₁ ≡ t) × (u₁ ≡ u) × (v₁ ≡ v)
totals_alike nodes items nodes₁ items₁ en ei f g totals h ns is r d z l k =
    let w = calls_alike (account_bytes (totals_of totals)) (nodes ∷ items ∷ []) (nodes₁ ∷ items₁ ∷ []) (rw (en, ei) refl) f g h ns is r d z l.leaves k.leaves in
    (w.0, w.1.0, w.1.1.0, k.in_totals ∙ ap (stored totals) w.1.1.1.0 ∙ sym l.in_totals)
