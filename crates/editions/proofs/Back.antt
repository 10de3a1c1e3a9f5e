-- Moving a well-formed sheet gives a well-formed sheet of the other edition, and moving that returns the same bytes.
-- Assumes nothing.
use mathlib.Core.Path.{◌≡◌, refl, sym, ap, ap₂, ◌∙◌}
use mathlib.Core.Bool.{Bool, true, false, cond, not, ◌&&◌}
use mathlib.Core.List.{List, [], ◌∷◌, ◌++◌}
use Prim.{tt}
use Prim.Native.Nat.{ℕ, zero, suc}
use native.Mathlib.Omega.{arith}
use lib.Dec.{eqb, leb}
use lib.ListN.{length, get_or, drop}
use borrow.Author.Tests.{eqb-true}
use Rattle.cursor.specs.Refusals.{bad_sheet}
use Rattle.room.specs.Room.{Result, good, bad}
use Rattle.editions.specs.declared.State.{State}
use Rattle.editions.specs.Sheets.{Lines, Kind, other, kind, parted, fields, field, written, same, value, is_number, is_version, fits, word, is_first, is_node, is_item, start, judge, agreeing, judged, picked, is_of, nodes_of, items_of, spread, reordered, renamed, lead, behind, moved_lines, is_second, answered, move, lines, WellFormed, OtherEdition}
use Rattle.editions.proofs.Order.{Rows, Items, Groups, spread_same, first-nodes, first-items, second-stands, second-nodes, second-items, first_back, first_rows, first-low, second_back}
use Rattle.editions.proofs.Bytes.{Clean, AllClean, piece, split, clean_parted, written-parted, parted-written, clean_left, reordered-clean}
use Rattle.editions.proofs.Shape.{both_true, chosen, first-shape, second-shape, Fine, fine_first, fine_second}

-- ---- the first line

pub same-is : (a b : List ℕ) → same a b ≡ true → a ≡ b
unfolding same
same-is [] [] h = refl
same-is [] (y ∷ b) h = let z : ◌≡◌ {A = ℕ} 0 1 = cc in absurd (omega arith)
same-is (x ∷ a) [] h = let z : ◌≡◌ {A = ℕ} 0 1 = cc in absurd (omega arith)
same-is (x ∷ a) (y ∷ b) h = let t = both_true (eqb x y) (same a b) h in ap₂ (λ (v : ℕ) (w : List ℕ). v ∷ w) (eqb-true x y t.0) (same-is a b t.1)

abbrev pub tests : List (List ℕ → Bool)
tests = is_version ∷ is_number ∷ is_number ∷ is_number ∷ []

-- the edition's word, a tab, and what is the same in both
pub record Lead (e : Bool) (f : List ℕ) : Type 0 where
  pub tail : List ℕ
  pub whole : f ≡ word e ++ 0x09 ∷ tail
  rest : fits tests (parted 0x09 tail) ≡ true

lead-on : (e : Bool) (f : List ℕ) (ps : Lines) → parted 0x09 f ≡ ps → fits (same (word e) ∷ tests) ps ≡ true → Lead e f
unfolding fits
lead-on e f [] p h = let z : ◌≡◌ {A = ℕ} 0 1 = cc in absurd (omega arith)
lead-on e f (w ∷ []) p h = let t = (both_true (same (word e) w) false h).1 in let z : ◌≡◌ {A = ℕ} 0 1 = cc in absurd (omega arith)
lead-on e f (w ∷ x ∷ rest) p h =
    let r = split 0x09 f w x rest p in
    let t = both_true (same (word e) w) (fits tests (x ∷ rest)) h in
    record {
      tail = r.tail;
      whole = r.whole ∙ ap (λ (v : List ℕ). v ++ 0x09 ∷ r.tail) (sym (same-is (word e) w t.0));
      rest = rw r.then t.1;
    }

pub lead-shape : (e : Bool) (f : List ℕ) → is_first e f ≡ true → Lead e f
unfolding is_first fields
lead-shape e f h = lead-on e f (parted 0x09 f) refl h

word-clean : (e : Bool) → Clean 0x09 (word e)
word-clean false = (refl, (refl, (refl, tt)))
word-clean true = (refl, (refl, (refl, (refl, tt))))

module _ (e : Bool) (t : List ℕ) where
  first-fields : fields (word e ++ 0x09 ∷ t) ≡ word e ∷ parted 0x09 t
  unfolding fields
  first-fields = piece 0x09 (word e) t (word-clean e)

  pub first-third : field 3 (word e ++ 0x09 ∷ t) ≡ get_or (parted 0x09 t) 2 []
  unfolding field
  first-third = rw first-fields

  pub first-fourth : field 4 (word e ++ 0x09 ∷ t) ≡ get_or (parted 0x09 t) 3 []
  unfolding field
  first-fourth = rw first-fields

  pub renamed-is : renamed e (word e ++ 0x09 ∷ t) ≡ word (not e) ++ 0x09 ∷ t
  unfolding renamed
  renamed-is = go e
    where
      go : (d : Bool) → word (not d) ++ drop (length (word d)) (word d ++ 0x09 ∷ t) ≡ word (not d) ++ 0x09 ∷ t
      go false = refl
      go true = refl

word_same : (e : Bool) → same (word e) (word e) ≡ true
unfolding same
word_same false = refl
word_same true = refl

-- the line says its edition
pub first-is : (e : Bool) (t : List ℕ) → fits tests (parted 0x09 t) ≡ true → is_first e (word e ++ 0x09 ∷ t) ≡ true
unfolding is_first fits
first-is e t h = rw (first-fields e t) (rw (word_same e) h)

pub first_says : (e : Bool) (t : List ℕ) → fits tests (parted 0x09 t) ≡ true → is_first true (word e ++ 0x09 ∷ t) ≡ e
unfolding is_first fits same
first_says false t h = rw (first-fields false t) refl
first_says true t h = rw (first-fields true t) h

-- ---- what stands behind the last 0Ah is no line

pub blank : kind [] ≡ other
unfolding kind is_node is_item fields parted fits same
blank = refl

pub picked-end : (p : Kind → Bool) → p other ≡ false → (ls : Lines) → picked p (ls ++ [] ∷ []) ≡ picked p ls
unfolding picked
picked-end p h [] = rw (blank, h) refl
picked-end p h (l ∷ ls) = rw (picked-end p h ls) refl

pub reordered-end : (e : Bool) (ls : Lines) → reordered e (ls ++ [] ∷ []) ≡ reordered e ls
unfolding reordered
reordered-end false ls = ap (λ (v : Lines). spread v (ls ++ [] ∷ [])) (picked-end _ refl ls) ∙ spread_same (nodes_of ls) (ls ++ [] ∷ []) ls (λ i. picked-end (is_of i) refl ls)
reordered-end true ls = ap₂ (λ (v w : Lines). v ++ w) (picked-end _ refl ls) (picked-end _ refl ls)

-- ---- the lines behind the first

pub record FirstBody (body : Lines) (n m : ℕ) : Type 0 where
  pub ns : Lines
  pub ms : Lines
  pub whole : body ≡ ns ++ ms
  pub rows : Rows 0 ns n
  pub low : Items 0 n ms
  pub count : m ≡ length ms

abbrev pub Body : Bool → Lines → ℕ → ℕ → Type 0
Body false body n m = FirstBody body n m
Body true body n m = Groups 0 body n × (m ≡ length (items_of body))

to-first : (ls : Lines) → reordered true ls ≡ nodes_of ls ++ items_of ls
unfolding reordered
to-first ls = refl

moved-body : (e : Bool) (body : Lines) (n m : ℕ) → Body e body n m → Body (not e) (reordered e body) n m
moved-body false body n m b =
    rw b.whole (second-stands b.ns b.ms n b.rows b.low, b.count ∙ ap length (sym (second-items b.ns b.ms n b.rows b.low)))
moved-body true body n m (g, c) = record {
  ns = nodes_of body;
  ms = items_of body;
  whole = to-first body;
  rows = first_rows body n g;
  low = first-low body n g;
  count = c;
}

body_back : (e : Bool) (body : Lines) (n m : ℕ) → Body e body n m → reordered (not e) (reordered e body) ≡ body
body_back false body n m b = rw b.whole (first_back b.ns b.ms n b.rows b.low)
body_back true body n m (g, c) = second_back body n g

-- the same node lines and item lines, each in their order
body-nodes : (e : Bool) (body : Lines) (n m : ℕ) → Body e body n m → nodes_of (reordered e body) ≡ nodes_of body
body-nodes false body n m b = rw b.whole (second-nodes b.ns b.ms n b.rows b.low ∙ sym (first-nodes b.ns b.ms n b.rows b.low))
body-nodes true body n m (g, c) = ap nodes_of (to-first body) ∙ first-nodes (nodes_of body) (items_of body) n (first_rows body n g) (first-low body n g)

body-items : (e : Bool) (body : Lines) (n m : ℕ) → Body e body n m → items_of (reordered e body) ≡ items_of body
body-items false body n m b = rw b.whole (second-items b.ns b.ms n b.rows b.low ∙ sym (first-items b.ns b.ms n b.rows b.low))
body-items true body n m (g, c) = ap items_of (to-first body) ∙ first-items (nodes_of body) (items_of body) n (first_rows body n g) (first-low body n g)

-- ---- the whole sheet

abbrev agrees : List ℕ → ℕ → ℕ → Bool
agrees f n m = eqb n (value 0 (field 3 f)) && leb m (value 0 (field 4 f))

pub record Whole (e : Bool) (ls : Lines) : Type 0 where
  pub first : List ℕ
  pub body : Lines
  pub nodes : ℕ
  pub items : ℕ
  pub whole : ls ≡ first ∷ body ++ [] ∷ []
  pub leads : is_first e first ≡ true
  pub stands : Body e body nodes items
  pub counts : agrees first nodes items ≡ true

agreeing-is : (f : List ℕ) (r : Result State) {s : State} → agreeing f r ≡ good s → (r ≡ good s) × (agrees f s.nodes s.items ≡ true)
unfolding agreeing
agreeing-is f (good a) {s} h =
    let t = chosen (agrees f a.nodes a.items) (good a) bad_sheet 1 h in
    let q : a ≡ s = cc in
    (ap good q, rw q at t.0)
agreeing-is f (bad n p) h = let z : ◌≡◌ {A = ℕ} 0 1 = cc in absurd (omega arith)

body_of : (e : Bool) (f : List ℕ) (rest : Lines) (s : State) → is_first e f ≡ true → agrees f s.nodes s.items ≡ true → judge e start 2 rest ≡ good s → Whole e (f ∷ rest)
body_of false f rest s h c j =
    let r = first-shape start s 2 rest j in
    record {
      first = f;
      body = r.ns ++ r.ms;
      nodes = s.nodes;
      items = s.items;
      whole = ap (λ (v : Lines). f ∷ v) r.whole;
      leads = h;
      stands = record { ns = r.ns; ms = r.ms; whole = refl; rows = r.rows; low = r.low; count = let k = r.count in omega arith };
      counts = c;
    }
body_of true f rest s h c j =
    let r = second-shape start s 2 rest refl j in
    record {
      first = f;
      body = r.body;
      nodes = s.nodes;
      items = s.items;
      whole = ap (λ (v : Lines). f ∷ v) r.whole;
      leads = h;
      stands = (r.groups, let k = r.count in omega arith);
      counts = c;
    }

pub judged-shape : (e : Bool) (ls : Lines) (s : State) → judged e ls ≡ good s → Whole e ls
unfolding judged
judged-shape e [] s h = let z : ◌≡◌ {A = ℕ} 0 1 = cc in absurd (omega arith)
judged-shape e (f ∷ []) s h = let z : ◌≡◌ {A = ℕ} 0 1 = cc in absurd (omega arith)
judged-shape e (f ∷ l ∷ ls) s h =
    let t = chosen (is_first e f) (agreeing f (judge e start 2 (l ∷ ls))) bad_sheet 1 h in
    let a = agreeing-is f (judge e start 2 (l ∷ ls)) t.1 in
    body_of e f (l ∷ ls) s t.0 a.1 a.0

fine_body : (e : Bool) (body : Lines) (n m : ℕ) → Body e body n m → Fine e start 2 (body ++ [] ∷ []) n m
fine_body false body n m b = rw (b.count, b.whole) (fine_first start 2 n b.ns b.ms refl b.rows b.low)
fine_body true body n m (g, c) =
    let f = fine_second start 2 n body refl g in let k = f.has in
    record { end = f.end; judges = f.judges; ends = f.ends; has = omega arith }

judged-on : (e : Bool) (f : List ℕ) (body : Lines) → judged e (f ∷ body ++ [] ∷ []) ≡ cond (is_first e f) (agreeing f (judge e start 2 (body ++ [] ∷ []))) (bad bad_sheet 1)
unfolding judged
judged-on e f [] = refl
judged-on e f (l ∷ body) = refl

pub judged-well : (e : Bool) (f : List ℕ) (body : Lines) (n m : ℕ) → is_first e f ≡ true → Body e body n m → agrees f n m ≡ true →
    (s : State) × (judged e (f ∷ body ++ [] ∷ []) ≡ good s)
unfolding agreeing
judged-well e f body n m h b c =
    let r = fine_body e body n m b in
    let c' : agrees f r.end.nodes r.end.items ≡ true = rw (r.ends, r.has) c in
    (r.end, judged-on e f body ∙ rw h (rw r.judges (rw c' refl)))

-- ---- the mover

pub move-is : (s : List ℕ) (e : Bool) (ls : Lines) → parted 0x0A s ≡ ls → is_first true (lead ls) ≡ e → move s ≡ answered (λ (t : State). written (moved_lines e ls)) (judged e ls)
unfolding move is_second
move-is s e ls p q = rw (p, q)

answered-good : {A B : Type 0} (f : A → B) (r : Result A) {b : B} → answered f r ≡ good b → (a : A) × (r ≡ good a) × (f a ≡ b)
answered-good f (good a) h = (a, refl, cc)
answered-good f (bad n p) h = let z : ◌≡◌ {A = ℕ} 0 1 = cc in absurd (omega arith)

-- a sheet's lines, well formed: the other edition's lines are well formed too
record Over (e : Bool) (ls : Lines) : Type 0 where
  first : List ℕ
  body : Lines
  moves : moved_lines e ls ≡ first ∷ body
  clean : AllClean 0x0A ls → AllClean 0x0A (first ∷ body)
  says : is_first true first ≡ not e
  end : State
  judges : judged (not e) (first ∷ body ++ [] ∷ []) ≡ good end
  leads : first ≡ renamed e (lead ls)
  nodes : nodes_of (body ++ [] ∷ []) ≡ nodes_of (behind ls)
  items : items_of (body ++ [] ∷ []) ≡ items_of (behind ls)
  returns : (s : List ℕ) → parted 0x0A s ≡ ls → written (moved_lines (not e) (first ∷ body ++ [] ∷ [])) ≡ s

not-not : (e : Bool) → not (not e) ≡ e
not-not false = refl
not-not true = refl

drop-clean : (c k : ℕ) (l : List ℕ) → Clean c l → Clean c (drop k l)
drop-clean c zero l k = k
drop-clean c (suc n) [] k = k
drop-clean c (suc n) (b ∷ l) (e, k) = drop-clean c n l k

word-ended : (e : Bool) (l : List ℕ) → Clean 0x0A l → Clean 0x0A (word e ++ l)
word-ended false l k = (refl, (refl, (refl, k)))
word-ended true l k = (refl, (refl, (refl, (refl, k))))

renamed-clean : (e : Bool) (f : List ℕ) → Clean 0x0A f → Clean 0x0A (renamed e f)
unfolding renamed
renamed-clean e f k = word-ended (not e) (drop (length (word e)) f) (drop-clean 0x0A (length (word e)) f k)

pub moved_on : (e : Bool) (f : List ℕ) (body : Lines) → moved_lines e (f ∷ body ++ [] ∷ []) ≡ renamed e f ∷ reordered e body
unfolding moved_lines lead behind
moved_on e f body = ap (λ (v : Lines). renamed e f ∷ v) (reordered-end e body)

over : (e : Bool) (ls : Lines) → Whole e ls → Over e ls
unfolding lead behind
over e ls w =
    let f = w.first in let body = w.body in let l = lead-shape e f w.leads in let f' = renamed e f in
    let same-tail : f' ≡ word (not e) ++ 0x09 ∷ l.tail = ap (renamed e) l.whole ∙ renamed-is e l.tail in
    let third : field 3 f' ≡ field 3 f = ap (field 3) same-tail ∙ first-third (not e) l.tail ∙ sym (first-third e l.tail) ∙ ap (field 3) (sym l.whole) in
    let fourth : field 4 f' ≡ field 4 f = ap (field 4) same-tail ∙ first-fourth (not e) l.tail ∙ sym (first-fourth e l.tail) ∙ ap (field 4) (sym l.whole) in
    let j = judged-well (not e) f' (reordered e body) w.nodes w.items
    (ap (is_first (not e)) same-tail ∙ first-is (not e) l.tail l.rest) (moved-body e body w.nodes w.items w.stands)
    (ap₂ (λ (a b : List ℕ). eqb w.nodes (value 0 a) && leb w.items (value 0 b)) third fourth ∙ w.counts) in
    let again : renamed (not e) f' ≡ f = ap (renamed (not e)) same-tail ∙ renamed-is (not e) l.tail ∙ ap (λ (d : Bool). word d ++ 0x09 ∷ l.tail) (not-not e) ∙ sym l.whole in
    record {
      first = f';
      body = reordered e body;
      moves = ap (moved_lines e) w.whole ∙ moved_on e f body;
      clean = λ k. over-clean e ls f body w.whole k;
      says = ap (is_first true) same-tail ∙ first_says (not e) l.tail l.rest;
      end = j.0;
      judges = j.1;
      leads = ap (λ (v : Lines). renamed e (lead v)) (sym w.whole);
      nodes = picked-end _ refl (reordered e body) ∙ body-nodes e body w.nodes w.items w.stands ∙ sym (picked-end _ refl body) ∙ ap
          (λ (v : Lines). nodes_of (behind v)) (sym w.whole);
      items = picked-end _ refl (reordered e body) ∙ body-items e body w.nodes w.items w.stands ∙ sym (picked-end _ refl body) ∙ ap
          (λ (v : Lines). items_of (behind v)) (sym w.whole);
      returns = λ s p.
          ap written (moved_on (not e) f' (reordered e body) ∙ ap₂ (λ (a : List ℕ) (b : Lines). a ∷ b) again (body_back e body w.nodes w.items w.stands))
          ∙ parted-written (f ∷ body) s (p ∙ w.whole);
    }
  where
    over-clean : (e : Bool) (ls : Lines) (f : List ℕ) (body : Lines) → ls ≡ f ∷ body ++ [] ∷ [] → AllClean 0x0A ls → AllClean 0x0A (renamed e f ∷ reordered e body)
    over-clean e ls f body q k = let (a, b) : AllClean 0x0A (f ∷ body ++ [] ∷ []) = rw q at k
        in (renamed-clean e f a, reordered-clean 0x0A e body (clean_left 0x0A body ([] ∷ []) b))

-- the edition that a well-formed sheet is of stands in its first line
says-edition : (e : Bool) (ls : Lines) (w : Whole e ls) → is_first true (lead ls) ≡ e
unfolding lead
says-edition e ls w = let l = lead-shape e w.first w.leads in rw (w.whole, l.whole) (first_says e l.tail l.rest)

-- A well-formed sheet moves to its other edition, and that moves to the same bytes.
pub moves : (e : Bool) (s : List ℕ) → WellFormed e s → (t : List ℕ) × (move s ≡ good t) × OtherEdition e s t × (move t ≡ good s)
unfolding lead behind
moves e s (st, j) =
    let ls = lines s in let w = judged-shape e ls st j in let o = over e ls w in let t = written (moved_lines e ls) in
    let there : move s ≡ good t = move-is s e ls refl (says-edition e ls w) ∙ rw j refl in
    let ps : lines t ≡ o.first ∷ o.body ++ [] ∷ [] = ap (λ (v : Lines). lines (written v)) o.moves ∙ written-parted (o.first ∷ o.body) (o.clean (clean_parted 0x0A s)) in
    let back : move t ≡ good s = move-is t (not e) (o.first ∷ o.body ++ [] ∷ []) ps o.says ∙ rw o.judges (ap good (o.returns s refl)) in
    (t, there, record { was = (st, j); is = (o.end, ap (judged (not e)) ps ∙ o.judges); first = rw ps o.leads; nodes = rw ps o.nodes; items = rw ps o.items }, back)

-- only such a sheet is moved
pub moved-well : (s t : List ℕ) → move s ≡ good t → WellFormed (is_second s) s
unfolding move
moved-well s t h = let (st, j, q) = answered-good (λ (x : State). written (moved_lines (is_second s) (lines s))) (judged (is_second s) (lines s)) h in (st, j)
