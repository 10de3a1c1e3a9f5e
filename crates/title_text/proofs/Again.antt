-- The result of a correction: what it says; that the same title again changes nothing further; that it is nowhere longer than a file that says the same, and the only one as short.
-- Assumes nothing.
use mathlib.Core.Path.{◌≡◌, refl, sym, ap, ◌∙◌, subst}
use mathlib.Core.Bool.{Bool, true, false, cond, not, ◌||◌}
use mathlib.Core.List.{List, [], ◌∷◌, map}
use Prim.Native.Nat.{ℕ, zero, suc, ◌^◌, ◌%◌, ◌≤◌, ◌<◌}
use native.Mathlib.Omega.{arith}
use lib.Dec.{eqb, ltb, leb}
use lib.ListN.{length}
use borrow.Author.Tests.{leb-false, ltb-false, le-ltb, lt-leb}
use Rattle.cursor.specs.declared.Node.{Node}
use Rattle.cursor.specs.declared.Item.{Item}
use Rattle.header.specs.Header.{Header}
use Rattle.metadata.specs.declared.Limits.{Limits}
use Rattle.rows.specs.Rows.{item_at}
use Rattle.file.specs.Reading.{rows, read_file}
use Rattle.file.specs.Asking.{Result, good, bad, ask}
use Rattle.file.specs.Hidden.{is_hidden}
use Rattle.title_text.specs.Description.{Content, content, shape, Description, described, titled, titled_at, retitled}
use Rattle.title_text.specs.Text.{file_text}
use Rattle.title_text.specs.Title.{Bytes, Says, NowhereLonger, elsewhere, is_no_title, titled_file, fitting, correct_title}
use Rattle.title_text.proofs.Follows.{all_stay, stay_elsewhere}
use Rattle.title_text.proofs.Nodes.{AllStay}
use Rattle.title_text.proofs.Theorem.{retitled-reads}
use Rattle.title_text.proofs.Shortest.{nowhere_longer, only-shortest}

-- ---- twice is once

titled-twice : (i : ℕ) (text : List ℕ) (cs : List Content) → titled_at i text (titled_at i text cs) ≡ titled_at i text cs
unfolding titled_at titled
titled-twice i text [] = refl
titled-twice zero text (c ∷ cs) = refl
titled-twice (suc i) text (c ∷ cs) = ap (λ v. c ∷ v) (titled-twice i text cs)

retitled-twice : (i : ℕ) (text : List ℕ) (d : Description) → retitled i text (retitled i text d) ≡ retitled i text d
unfolding retitled
retitled-twice i text d = rw (titled-twice i text d.items) refl

-- if the written file says what was written, the same title again gives the same file
same-again : (i : ℕ) (text : List ℕ) (f : List ℕ) (h : Header) (ns : List Node) (is : List Item) (h' : Header) (ns' : List Node) (is' : List Item)
    → described (titled_file i text f h ns is) h' ns' is' ≡ retitled i text (described f h ns is) → titled_file i text
    (titled_file i text f h ns is) h' ns' is' ≡ titled_file i text f h ns is
unfolding titled_file
same-again i text f h ns is h' ns' is' e = ap (λ v. file_text (retitled i text v)) e ∙ ap file_text (retitled-twice i text (described f h ns is))

-- ---- the refusals are the same

-- a content of that number whose data is not replaced, or none
abbrev no_title : List Content → ℕ → Bool
no_title [] i = true
no_title (c ∷ cs) zero = eqb (c.format % 2) 1 || not (eqb c.version 0)
no_title (c ∷ cs) (suc i) = no_title cs i

titled-none : (i j : ℕ) (text : List ℕ) (cs : List Content) → no_title (titled_at i text cs) j ≡ no_title cs j
unfolding titled_at titled
titled-none i j text [] = refl
titled-none zero zero text (c ∷ cs) = refl
titled-none zero (suc j) text (c ∷ cs) = refl
titled-none (suc i) zero text (c ∷ cs) = refl
titled-none (suc i) (suc j) text (c ∷ cs) = titled-none i j text cs

none-at : (f : List ℕ) (is : List Item) (i : ℕ) → i < length is → is_no_title (item_at is i) ≡ no_title (map (content f) is) i
unfolding is_no_title is_hidden content
none-at f [] i l = absurd (omega arith)
none-at f (r ∷ is) zero l = refl
none-at f (r ∷ is) (suc i) l = none-at f is i (omega arith)

map-length : {A B : Type 0} (g : A → B) (xs : List A) → length (map g xs) ≡ length xs
map-length g [] = refl
map-length g (x ∷ xs) = ap suc (map-length g xs)

titled-length : (i : ℕ) (text : List ℕ) (cs : List Content) → length (titled_at i text cs) ≡ length cs
unfolding titled_at
titled-length i text [] = refl
titled-length zero text (c ∷ cs) = refl
titled-length (suc i) text (c ∷ cs) = ap suc (titled-length i text cs)

items_of : (i : ℕ) (text : List ℕ) (f g : List ℕ) (h : Header) (ns : List Node) (is : List Item) (h' : Header) (ns' : List Node)
    (is' : List Item) → described g h' ns' is' ≡ retitled i text (described f h ns is)
    → (map (shape g) ns' ≡ map (shape f) ns) × (map (content g) is' ≡ titled_at i text (map (content f) is))
unfolding described retitled
items_of i text f g h ns is h' ns' is' e = (ap (λ (d : Description). d.nodes) e, ap (λ (d : Description). d.items) e)

-- ---- what a correction that was answered met

pub record Corrected (i : ℕ) (text : List ℕ) (room : ℕ) (f : List ℕ) (h : Header) (ns : List Node) (is : List Item) (g : List ℕ) : Type 0 where
  pub there : i < length is
  pub here : elsewhere ns ≡ false
  pub title : is_no_title (item_at is i) ≡ false
  pub is-file : titled_file i text f h ns is ≡ g
  pub small : length g < 2 ^ 28
  pub fits : length g ≤ room

unless : {A : Type 0} (b : Bool) (n p : ℕ) {o : Result A} {a : A} → cond b (bad n p) o ≡ good a → (b ≡ false) × (o ≡ good a)
unless true n p e = let z : ◌≡◌ {A = ℕ} 0 1 = cc in absurd (omega arith)
unless false n p e = (refl, e)

pub corrected : (i : ℕ) (text : List ℕ) (room : ℕ) (f : List ℕ) (h : Header) (ns : List Node) (is : List Item) {g : List ℕ} → correct_title i
    text room f h ns is ≡ good g → Corrected i text room f h ns is g
unfolding correct_title fitting
corrected i text room f h ns is {g} e =
    let (a, e₁) = unless (leb (length is) i) 18 0 e in let (b, e₂) = unless (elsewhere ns) 36 0 e₁ in
    let (c, e₃) = unless (is_no_title (item_at is i)) 37 0 e₂ in
    let (s, e₄) = unless (leb (2 ^ 28) (length (titled_file i text f h ns is))) 38 0 e₃ in
    let (t, e₅) = unless (ltb room (length (titled_file i text f h ns is))) 22 0 e₄ in
    let q : titled_file i text f h ns is ≡ g = same e₅ in
    record {
      there = leb-false (length is) i a;
      here = b;
      title = c;
      is-file = q;
      small = subst (λ v. length v < 2 ^ 28) q (leb-false (2 ^ 28) (length (titled_file i text f h ns is)) s);
      fits = subst (λ v. length v ≤ room) q (ltb-false room (length (titled_file i text f h ns is)) t);
    }
  where
    same : {x y : List ℕ} → good x ≡ good y → x ≡ y
    same z = cc

answers : (i : ℕ) (text : List ℕ) (room : ℕ) (f : List ℕ) (h : Header) (ns : List Node) (is : List Item) {g : List ℕ} → Corrected i text
    room f h ns is g → correct_title i text room f h ns is ≡ good g
unfolding correct_title fitting
answers i text room f h ns is {g} c =
    let a = c.there in
    let s : length (titled_file i text f h ns is) < 2 ^ 28 = rw c.is-file c.small in
    let t : length (titled_file i text f h ns is) ≤ room = rw c.is-file c.fits in
    rw (lt-leb _ _ a, c.here, c.title, lt-leb _ _ s, le-ltb _ _ t, c.is-file) refl

-- ---- the result of a correction

module _ (lim : Limits) (f : List ℕ) {h : Header} {ns : List Node} {is : List Item} (reads : read_file lim f ≡ rows h ns is) (i : ℕ)
    (text : List ℕ) (room : ℕ) {g : List ℕ} (e : correct_title i text room f h ns is ≡ good g) where
  -- it is accepted with the same tables, and says the old description with that title
  pub correct_says : Says lim g (retitled i text (described f h ns is))
  correct_says =
      let c = corrected i text room f h ns is e in let q = c.is-file in
      subst (λ v. Says lim v (retitled i text (described f h ns is))) q (retitled-reads lim f reads c.here i text (subst (λ v. length v < 2 ^ 28) (sym q) c.small))

  -- the same title again gives the same file
  pub correct_again : (room' : ℕ) → length g ≤ room' → ask (read_file lim g) (correct_title i text room' g) ≡ good g
  unfolding ask
  correct_again room' l =
      let c = corrected i text room f h ns is e in let q = c.is-file in let s = correct_says in
      let w = items_of i text f g h ns is s.header s.nodes s.items s.says in
      let n₁ = map-length (content g) s.items in let n₂ = ap length w.1 in
      let n₃ = titled-length i text (map (content f) is) in let n₄ = map-length (content f) is in
      let there = c.there in let in' : i < length s.items = omega arith in
      let title : is_no_title (item_at s.items i) ≡ false =
      none-at g s.items i in' ∙ ap (λ v. no_title v i) w.1 ∙ titled-none i i text (map (content f) is) ∙ sym (none-at f is i there) ∙ c.title in
      let here : elsewhere s.nodes ≡ false = stay_elsewhere g s.nodes (subst AllStay (sym w.0) (all_stay f ns c.here)) in
      let file : titled_file i text g s.header s.nodes s.items ≡ g =
      subst (λ v. titled_file i text v s.header s.nodes s.items ≡ v) q
      (same-again i text f h ns is s.header s.nodes s.items
      (subst (λ v. described v s.header s.nodes s.items ≡ retitled i text (described f h ns is)) (sym q) s.says)) in
      rw s.reads (answers i text room' g s.header s.nodes s.items (record { there = in'; here = here; title = title; is-file = file; small = c.small; fits = l }))

  -- and is nowhere longer than any other that says the same
  stays : AllStay (retitled i text (described f h ns is)).nodes
  unfolding retitled described
  stays = all_stay f ns (corrected i text room f h ns is e).here

  size_of : length g ≤ length (file_text (retitled i text (described f h ns is)))
  unfolding titled_file
  size_of = let k = ap length (corrected i text room f h ns is e).is-file in omega arith

  pub correct_least : {lim' : Limits} {g' : List ℕ} (t : Says lim' g' (retitled i text (described f h ns is))) → NowhereLonger correct_says t
  correct_least t = nowhere_longer correct_says t stays size_of

  -- and the only one that is as short
  pub correct_only : {lim' : Limits} {g' : List ℕ} → Bytes g' → Says lim' g' (retitled i text (described f h ns is)) → length g' ≤ length g → g' ≡ g
  unfolding titled_file
  correct_only bytes t l = only-shortest t stays bytes (omega (arith, size_of)) ∙ (corrected i text room f h ns is e).is-file
