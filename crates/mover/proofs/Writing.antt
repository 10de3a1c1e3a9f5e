-- Lines that are put one after the other: those of one kind, those of a row, each node line with its items, the whole sheet.
-- Assumes nothing.
use mathlib.Core.Path.{◌≡◌, refl, sym, ap, ap₂, ◌∙◌, subst}
use mathlib.Core.Logic.{inl, inr}
use mathlib.Core.Bool.{Bool, true, false, cond, not}
use mathlib.Core.List.{List, [], ◌∷◌, ◌++◌, append_assoc, tail-eq_of_cons-eq}
use Prim.Native.Nat.{ℕ, ◌+◌, ◌-◌, ◌≤◌, ◌<◌}
use native.Mathlib.Omega.{arith}
use native.Mathlib.Decide.{dec_lt}
use lib.Dec.{eqb}
use lib.ListN.{length, drop, take, replicate, length-append, drop_of_length-le}
use lib.Seq.{slice, length-slice}
use borrow.Author.Tests.{eq-eqb, ne_eqb, le-leb, lt-leb}
use Rattle.std.specs.Prelude.{Option, Some, None}
use Rattle.room.specs.Room.{Result, good, bad, fitting, counted, kept}
use Rattle.room.specs.Counts.{Counts, too_many}
use Rattle.room.proofs.Counting.{counts-then, counts-as, Going, going_on, going_end, wrote-all, wrote-past}
use Rattle.editions.specs.declared.State.{State}
use Rattle.editions.specs.Sheets.{Lines, parted, written, word, Kind, node, item, other, kind, picked, is_kind, is_of, nodes_of, items_of, reordered, renamed, lead, behind, moved_lines, judged, is_second, answered, move}
use Rattle.editions.specs.Reads.{Known, AllKnown, run_of, past_run, walk}
use Rattle.editions.specs.Told.{Well}
use Rattle.mover.specs.Told.{item_lines, Right, left_of}
use Rattle.editions.proofs.Order.{Rows, Items, Groups, to-second, first-nodes, first-items, walk-spreads}
use Rattle.editions.proofs.Back.{lead-shape, blank, picked-end, reordered-end, Body, Whole, judged-shape}
use Rattle.editions.proofs.Places.{Next}
use Rattle.editions.proofs.Judging.{lent}

abbrev rest : List ℕ → ℕ → Lines
rest s at = parted 0x0A (drop at s)

-- ---- lines as bytes

written_one : (l : List ℕ) (ls : Lines) → written (l ∷ ls) ≡ (l ++ 0x0A ∷ []) ++ written ls
unfolding written
written_one l ls = sym (append_assoc l (0x0A ∷ []) (written ls))

written_none : written [] ≡ []
unfolding written
written_none = refl

written_both : (a b : Lines) → written (a ++ b) ≡ written a ++ written b
unfolding written
written_both [] b = refl
written_both (l ∷ a) b = ap (λ v. l ++ 0x0A ∷ v) (written_both a b) ∙ sym (append_assoc l (0x0A ∷ written a) (written b))

pub put_one : {o o₁ o₂ : List ℕ} {t t₁ t₂ : ℕ} {x l : List ℕ} → x ≡ l → Counts o o₁ t x t₁ → Counts o₁ o₂ t₁ (0x0A ∷ []) t₂ → Counts o o₂ t (l ++ 0x0A ∷ []) t₂
put_one e p q = counts-as (ap (λ v. v ++ 0x0A ∷ []) e) (counts-then p q)

-- what is left may be said otherwise
pub going_as : {o o' : List ℕ} {t r : ℕ} {whole a b : List ℕ} → a ≡ b → Going o o' t r whole a → Going o o' t r whole b
going_as e g = record { done = g.done; puts = g.puts; left = ap (λ v. g.done ++ v) (sym e) ∙ g.left }

-- ---- lines of one kind

picked-cons : (p : Kind → Bool) (l : List ℕ) (ls : Lines) → picked p (l ∷ ls) ≡ cond (p (kind l)) (l ∷ picked p ls) (picked p ls)
unfolding picked
picked-cons p l ls = refl

picked_none : (p : Kind → Bool) → picked p [] ≡ []
unfolding picked
picked_none p = refl

kind-blank : (b : Bool) → picked (is_kind b) ([] ∷ []) ≡ []
kind-blank b = picked-cons (is_kind b) [] [] ∙ rw blank (picked_none (is_kind b))

no-rest : (c : ℕ) → parted c [] ≡ [] ∷ []
unfolding parted
no-rest c = refl

-- known lines, one after the other
known-none : (s : List ℕ) (at : ℕ) → length s ≤ at → AllKnown (rest s at)
known-none s at h = subst AllKnown (sym (ap (parted 0x0A) (drop_of_length-le s h) ∙ no-rest 0x0A)) (inl refl, tt)

pub known_on : (s : List ℕ) (at : ℕ) {end : ℕ} → Next 0x0A s at end → end ≤ length s → AllKnown (rest s at) → Known (slice at end s) × AllKnown (rest s (end + 1))
known_on s at {end} k m a = elim (dec_lt end (length s)) [
  | yes h ↦ subst AllKnown (k.more h) a
  | no h ↦ ((subst AllKnown (k.last (omega arith)) a).0, known-none s (end + 1) (omega arith))
]

-- the part that is lent of one
pub known-line : (s : List ℕ) (at : ℕ) {end : ℕ} → Next 0x0A s at end → at ≤ end → end ≤ length s → AllKnown (rest s at) → Known (take (end - at) (drop at s))
known-line s at {end} k l m a = rw (lent s at end l m) (known_on s at k m a).0

module _ (s : List ℕ) (b : Bool) (at : ℕ) where
  pub kind-end : length s ≤ at → picked (is_kind b) (rest s at) ≡ []
  kind-end h = ap (λ v. picked (is_kind b) (parted 0x0A v)) (drop_of_length-le s h) ∙ ap (picked (is_kind b)) (no-rest 0x0A) ∙ kind-blank b

module _ (s : List ℕ) (b : Bool) (at : ℕ) {end : ℕ} (k : Next 0x0A s at end) where
  -- the line at a place, and what is behind it; behind an unended line there is nothing either way
  kind-line : end ≤ length s → picked (is_kind b) (rest s at) ≡ picked (is_kind b) (slice at end s ∷ rest s (end + 1))
  kind-line m = elim (dec_lt end (length s)) [
    | yes h ↦ ap (picked (is_kind b)) (k.more h)
    | no h ↦
        ap (picked (is_kind b)) (k.last (omega arith))
        ∙ picked-cons (is_kind b) (slice at end s) []
        ∙ ap (λ v. cond (is_kind b (kind (slice at end s))) (slice at end s ∷ v) v) (picked_none (is_kind b) ∙ sym (kind-end s b (end + 1) (omega arith)))
        ∙ sym (picked-cons (is_kind b) (slice at end s) (rest s (end + 1)))
  ]

  module _ (m : end ≤ length s) {x : List ℕ} (xe : x ≡ slice at end s) {d : Bool} (de : d ≡ is_kind b (kind x)) where
    kind-by : picked (is_kind b) (rest s at) ≡ cond d (slice at end s ∷ picked (is_kind b) (rest s (end + 1))) (picked (is_kind b) (rest s (end + 1)))
    kind-by = kind-line m ∙ picked-cons (is_kind b) (slice at end s) (rest s (end + 1)) ∙ rw (← xe, ← de) refl

    pub kind-one : d ≡ true → picked (is_kind b) (rest s at) ≡ slice at end s ∷ picked (is_kind b) (rest s (end + 1))
    kind-one f = kind-by ∙ rw f refl

    pub kind-past : d ≡ false → picked (is_kind b) (rest s at) ≡ picked (is_kind b) (rest s (end + 1))
    kind-past f = kind-by ∙ rw f refl

    pub put-kind_one : d ≡ true → written (picked (is_kind b) (rest s at)) ≡ (slice at end s ++ 0x0A ∷ []) ++ written (picked (is_kind b) (rest s (end + 1)))
    put-kind_one f = ap written (kind-one f) ∙ written_one (slice at end s) (picked (is_kind b) (rest s (end + 1)))

    pub put-kind_past : d ≡ false → written (picked (is_kind b) (rest s at)) ≡ written (picked (is_kind b) (rest s (end + 1)))
    put-kind_past f = ap written (kind-past f)

pub put-kind_end : (s : List ℕ) (b : Bool) (at : ℕ) → length s ≤ at → written (picked (is_kind b) (rest s at)) ≡ []
put-kind_end s b at h = ap written (kind-end s b at h) ∙ written_none

-- ---- the next item line

pub right-low : (s : List ℕ) (low : ℕ) (i : Option (ℕ × ℕ × ℕ)) → Right s low i → Right s 0 i
right-low s low (Some (at, end, k)) (a, b, c, d, e, f) = (omega arith, b, c, d, e, f)
right-low s low None r = tt

item_of : (k : Kind) → is_kind true k ≡ true → (n : ℕ) × (k ≡ item n)
item_of (node n) e = let z : ◌≡◌ {A = ℕ} 0 1 = cc in absurd (omega arith)
item_of (item n) e = (n, refl)
item_of other e = let z : ◌≡◌ {A = ℕ} 0 1 = cc in absurd (omega arith)

module _ (s : List ℕ) (from at : ℕ) (g : items_of (rest s from) ≡ items_of (rest s at)) where
  pub item-none : length s ≤ at → [] ≡ items_of (rest s from)
  item-none h = sym (g ∙ kind-end s true at h)

  module _ {end : ℕ} (k : Next 0x0A s at end) (m : end ≤ length s) {x : List ℕ} (xe : x ≡ slice at end s) {d : Bool} (de : d ≡ is_kind true (kind x)) where
    pub item-past : d ≡ false → items_of (rest s from) ≡ items_of (rest s (end + 1))
    item-past f = g ∙ kind-past s true at k m xe de f

    pub item-here : d ≡ true → from ≤ at → at < length s → at ≤ end → {n : ℕ} → ((j : ℕ) → kind x ≡ item j → n ≡ j) → AllKnown (rest s (end + 1))
        → (item_lines s (Some (at, end, n)) ≡ items_of (rest s from)) × Right s from (Some (at, end, n))
    item-here f a h c w v =
        let (j, q) = item_of (kind x) (sym de ∙ f) in
        (sym (g ∙ kind-one s true at k m xe de f), (a, h, c, m, ap kind (sym xe) ∙ q ∙ ap item (sym (w j q)), v))

-- ---- the lines of a row

is-of : (row k : ℕ) (l : List ℕ) → kind l ≡ item k → is_of row (kind l) ≡ eqb k row
is-of row k l e = rw e refl

module _ (s : List ℕ) (row at end k : ℕ) (e : kind (slice at end s) ≡ item k) where
  abbrev these : Lines
  these = item_lines s (Some (at, end, k))

  abbrev behind-it : Lines
  behind-it = items_of (rest s (end + 1))

  pub run-stops : (k ≡ row → ⊥) → (written (run_of row these) ≡ []) × (past_run row these ≡ these)
  run-stops n = let w = is-of row k (slice at end s) e ∙ ne_eqb k row n in (rw w written_none, rw w refl)

  module _ (q : k ≡ row) where
    pub run_on : written (run_of row these) ≡ (slice at end s ++ 0x0A ∷ []) ++ written (run_of row behind-it)
    run_on = let w = is-of row k (slice at end s) e ∙ eq-eqb k row q in rw w (written_one (slice at end s) (run_of row behind-it))

    pub past-on : past_run row these ≡ past_run row behind-it
    past-on = let w = is-of row k (slice at end s) e ∙ eq-eqb k row q in rw w refl

-- of the lines of a row, those from the item line on are left; behind them the same lines stand
pub record Running (o o' : List ℕ) (t r : ℕ) (s : List ℕ) (row : ℕ) (first i : Option (ℕ × ℕ × ℕ)) : Type 0 where
  pub puts : Going o o' t r (written (run_of row (item_lines s first))) (written (run_of row (item_lines s i)))
  pub past : past_run row (item_lines s first) ≡ past_run row (item_lines s i)
  pub right : Right s 0 i

module _ (s : List ℕ) (row : ℕ) {o o' : List ℕ} {t r : ℕ} {first i : Option (ℕ × ℕ × ℕ)} (g : Running o o' t r s row first i) where
  abbrev Ends : Option (ℕ × ℕ × ℕ) → Type 0
  Ends j = Counts o o' t (written (run_of row (item_lines s first))) r × ((item_lines s j ≡ past_run row (item_lines s first)) × Right s 0 j)

  pub run_none : i ≡ None → Ends i
  run_none e = (going_end (rw e written_none) g.puts, (sym (g.past ∙ rw e refl), g.right))

  module _ {at end k : ℕ} (e : i ≡ Some (at, end, k)) where
    here : Right s 0 (Some (at, end, k))
    here = rw e at g.right

    pub run-over : (k ≡ row → ⊥) → Ends i
    run-over n =
        let (a, b) = run-stops s row at end k here.4 n in
        subst Ends (sym e) (going_end (rw e a) g.puts, (sym (g.past ∙ rw e b), here))

    pub run-less : (j : Option (ℕ × ℕ × ℕ)) → (item_lines s j ≡ items_of (rest s (end + 1))) × Right s (end + 1) j → left_of s j < left_of s i
    run-less j n = rw e (by j n.1)
      where
        by : (j : Option (ℕ × ℕ × ℕ)) → Right s (end + 1) j → left_of s j < left_of s (Some (at, end, k))
        by (Some (a, b, c)) (u, v, w, x, y, z) = let h = here.1 in let m = here.2 in omega arith
        by None u = omega arith

    pub run-turn : k ≡ row → {o'' : List ℕ} {r' : ℕ} → Counts o' o'' r (slice at end s ++ 0x0A ∷ []) r'
        → (j : Option (ℕ × ℕ × ℕ)) → (item_lines s j ≡ items_of (rest s (end + 1))) × Right s (end + 1) j → Running o o'' t r' s row first j
    run-turn q p j n = record {
      puts = going_on (ap (λ v. written (run_of row (item_lines s v))) e ∙ run_on s row at end k here.4 q ∙ ap
          (λ v. (slice at end s ++ 0x0A ∷ []) ++ written (run_of row v)) (sym n.0)) g.puts p;
      past = g.past ∙ ap (λ v. past_run row (item_lines s v)) e ∙ past-on s row at end k here.4 q ∙ ap (past_run row) (sym n.0);
      right = right-low s (end + 1) j n.1;
    }

-- ---- each node line with its items

pub walk_start : (ns : Lines) {ms : Lines} (ls : Lines) → ls ≡ ms → written (walk 0 ns ls) ≡ written (walk 0 ns ms)
walk_start ns ls e = ap (λ v. written (walk 0 ns v)) e

walk-node : (row : ℕ) (l : List ℕ) (ns ms : Lines) → written (walk row (l ∷ ns) ms) ≡ (l ++ 0x0A ∷ []) ++ (written (run_of row ms) ++ written (walk (row + 1) ns (past_run row ms)))
walk-node row l ns ms = written_one l (run_of row ms ++ walk (row + 1) ns (past_run row ms)) ∙ ap (λ v. (l ++ 0x0A ∷ []) ++ v)
    (written_both (run_of row ms) (walk (row + 1) ns (past_run row ms)))

module _ (s : List ℕ) (row at : ℕ) (ms : Lines) where
  pub walk_end : length s ≤ at → written (walk row (nodes_of (rest s at)) ms) ≡ []
  walk_end h = ap (λ ns. written (walk row ns ms)) (kind-end s false at h) ∙ written_none

  module _ {end : ℕ} (k : Next 0x0A s at end) (m : end ≤ length s) {x : List ℕ} (xe : x ≡ slice at end s) {d : Bool} (de : d ≡ is_kind false (kind x)) where
    pub walk-past : d ≡ false → written (walk row (nodes_of (rest s at)) ms) ≡ written (walk row (nodes_of (rest s (end + 1))) ms)
    walk-past f = ap (λ ns. written (walk row ns ms)) (kind-past s false at k m xe de f)

    pub walk-one : d ≡ true → written (walk row (nodes_of (rest s at)) ms) ≡ (slice at end s ++ 0x0A ∷ []) ++
        (written (run_of row ms) ++ written (walk (row + 1) (nodes_of (rest s (end + 1))) (past_run row ms)))
    walk-one f = ap (λ ns. written (walk row ns ms)) (kind-one s false at k m xe de f) ∙ walk-node row (slice at end s) (nodes_of (rest s (end + 1))) ms

    pub walk_turn : d ≡ true → {o o₁ o₂ o₃ : List ℕ} {t t₁ t₂ t₃ : ℕ} {whole : List ℕ} → Going o o₁ t t₁ whole (written (walk row (nodes_of (rest s at)) ms))
        → Counts o₁ o₂ t₁ (slice at end s ++ 0x0A ∷ []) t₂ → Counts o₂ o₃ t₂ (written (run_of row ms)) t₃
        → {ps : Lines} → ps ≡ past_run row ms → Going o o₃ t t₃ whole (written (walk (row + 1) (nodes_of (rest s (end + 1))) ps))
    walk_turn f g p q e =
        going_as (ap (λ v. written (walk (row + 1) (nodes_of (rest s (end + 1))) v)) (sym e)) (going_on refl (going_on (walk-one f) g p) q)

-- ---- the whole sheet

known-kind : {l : List ℕ} {k : Kind} → kind l ≡ k → (k ≡ other → ⊥) → Known l
known-kind e h = inr (λ z. h (sym e ∙ z))

node-other : {k : ℕ} → node k ≡ other → ⊥
node-other e = let z : ◌≡◌ {A = ℕ} 0 1 = cc in omega arith

item-other : {k : ℕ} → item k ≡ other → ⊥
item-other e = let z : ◌≡◌ {A = ℕ} 0 1 = cc in omega arith

known-rows : (n : ℕ) (ns rest : Lines) (n' : ℕ) → Rows n ns n' → AllKnown rest → AllKnown (ns ++ rest)
known-rows n [] rest n' r k = k
known-rows n (l ∷ ns) rest n' (e, r) k = (known-kind e node-other, known-rows (n + 1) ns rest n' r k)

known-items : (low high : ℕ) (ms rest : Lines) → Items low high ms → AllKnown rest → AllKnown (ms ++ rest)
known-items low high [] rest m k = k
known-items low high (l ∷ ms) rest (n, e, a, b, m) k = (known-kind e item-other, known-items n high ms rest m k)

known-groups : (n : ℕ) (ls rest : Lines) (n' : ℕ) → Groups n ls n' → AllKnown rest → AllKnown (ls ++ rest)
known-groups n [] rest n' g k = k
known-groups n (l ∷ ls) rest n' (inl (e, g)) k = (known-kind e node-other, known-groups (n + 1) ls rest n' g k)
known-groups n (l ∷ ls) rest n' (inr (i, e, d, g)) k = (known-kind e item-other, known-groups n ls rest n' g k)

known-body : (e : Bool) (body : Lines) (n m : ℕ) → Body e body n m → AllKnown (body ++ [] ∷ [])
known-body false body n m b = rw (b.whole, append_assoc) (known-rows 0 b.ns _ n b.rows (known-items 0 n b.ms _ b.low (inl refl, tt)))
known-body true body n m (g, c) = known-groups 0 body _ n g (inl refl, tt)

module _ (s : List ℕ) {e : Bool} {stop : ℕ} (w : Well s e stop) where
  abbrev f : List ℕ
  f = slice 0 stop s

  abbrev body : Lines
  body = rest s (stop + 1)

  pub body-known : AllKnown body
  body-known =
      let v = judged-shape e (parted 0x0A s) w.end w.judges in
      subst AllKnown (sym (tail-eq_of_cons-eq (sym w.lines ∙ v.whole))) (known-body e v.body v.nodes v.items v.stands)

  -- the first line is longer than its word
  pub long-lead : length (word e) + 1 ≤ stop
  long-lead =
      let l = lead-shape e f w.leads in let a = ap length l.whole in
      let b = length-append (word e) (0x09 ∷ l.tail) in
      let c = length-slice 0 stop s (let i = w.inside in omega arith) in
      omega arith

  pub second-lead : e ≡ true → 4 ≤ stop
  second-lead z = let a = rw z at long-lead in omega arith

  pub first-lead : e ≡ false → 3 ≤ stop
  first-lead z = let a = rw z at long-lead in omega arith

  moved_lines_lem : moved_lines e (parted 0x0A s) ≡ renamed e f ∷ reordered e body
  unfolding moved_lines lead behind
  moved_lines_lem = rw w.lines refl

  moved-bytes : written (moved_lines e (parted 0x0A s)) ≡ word (not e) ++ ((drop (length (word e)) f ++ 0x0A ∷ []) ++ written (reordered e body))
  unfolding renamed
  moved-bytes =
      ap written moved_lines_lem ∙ written_one (renamed e f) (reordered e body)
      ∙ ap (λ v. v ++ written (reordered e body)) (append_assoc (word (not e)) (drop (length (word e)) f) (0x0A ∷ []))
      ∙ append_assoc (word (not e)) (drop (length (word e)) f ++ 0x0A ∷ []) (written (reordered e body))

  to-first : (ls : Lines) → reordered true ls ≡ nodes_of ls ++ items_of ls
  unfolding reordered
  to-first ls = refl

  -- in the order of the two cursors
  to-walk : e ≡ false → reordered false body ≡ walk 0 (nodes_of body) (items_of body)
  to-walk z = by (judged-shape false (parted 0x0A s) w.end (rw z at w.judges))
    where
      by : Whole false (parted 0x0A s) → reordered false body ≡ walk 0 (nodes_of body) (items_of body)
      by v =
          let t = v.stands in
          let r : body ≡ v.body ++ [] ∷ [] = tail-eq_of_cons-eq (sym w.lines ∙ v.whole) in
          let ns : nodes_of body ≡ t.ns = ap nodes_of r ∙ picked-end _ refl v.body ∙ ap nodes_of t.whole ∙ first-nodes t.ns t.ms v.nodes t.rows t.low in
          let ms : items_of body ≡ t.ms = ap items_of r ∙ picked-end _ refl v.body ∙ ap items_of t.whole ∙ first-items t.ns t.ms v.nodes t.rows t.low in
          ap (reordered false) r ∙ reordered-end false v.body ∙ ap (reordered false) t.whole
          ∙ to-second t.ns t.ms v.nodes t.rows t.low
          ∙ walk-spreads 0 t.ns v.nodes t.rows 0 (omega arith) t.ms t.low
          ∙ ap₂ (walk 0) (sym ns) (sym ms)

  pub moved-second : e ≡ true → word false ++ ((slice 4 stop s ++ 0x0A ∷ []) ++ (written (nodes_of body) ++ written (items_of body))) ≡ written (moved_lines e (parted 0x0A s))
  moved-second z = sym (moved-bytes ∙ rw z (ap (λ v. word false ++ ((slice 4 stop s ++ 0x0A ∷ []) ++ v)) (ap written (to-first body) ∙ written_both (nodes_of body) (items_of body))))

  pub moved-first : e ≡ false → word true ++ ((slice 3 stop s ++ 0x0A ∷ []) ++ written (walk 0 (nodes_of body) (items_of body))) ≡ written (moved_lines e (parted 0x0A s))
  moved-first z = sym (moved-bytes ∙ rw z (ap (λ v. word true ++ ((slice 3 stop s ++ 0x0A ∷ []) ++ v)) (ap written (to-walk z))))

-- ---- the answer and the room

module _ (s : List ℕ) where
  -- what the call says of its answer, and of the room that it leaves
  abbrev Says : ℕ → Result ℕ → List ℕ → Type 0
  Says room a o = (a ≡ counted (fitting room (move s))) × (o ≡ kept room (fitting room (move s)))

  move-by : move s ≡ answered (λ (t : State). written (moved_lines (is_second s) (parted 0x0A s))) (judged (is_second s) (parted 0x0A s))
  unfolding move
  move-by = refl

  pub says-no_sheet : (room : ℕ) {n : ℕ} → judged (is_second s) (parted 0x0A s) ≡ bad 31 n → {o : List ℕ} → o ≡ replicate room 0 → Says room (bad 31 n) o
  unfolding fitting counted kept
  says-no_sheet room {n} e z = let w : move s ≡ bad 31 n = move-by ∙ rw e refl in rw w (refl, z)

  module _ {e : Bool} {stop : ℕ} (w : Well s e stop) where
    abbrev bytes : List ℕ
    bytes = written (moved_lines e (parted 0x0A s))

    moves : move s ≡ good bytes
    moves = move-by ∙ rw (w.says, w.judges) refl

    module _ {o o₁ : List ℕ} {r : ℕ} (p : Counts o o₁ 0 bytes r) where
      pub says-no_room : length o < r → {o₂ : List ℕ} → o₂ ≡ replicate (length o₁) 0 → Says (length o) (bad 22 0) o₂
      unfolding fitting counted kept
      says-no_room l z = rw (moves, lt-leb (length bytes) (length o) (wrote-past p l)) (refl, z ∙ ap (λ n. replicate n 0) p.long)

      pub says-moved : r ≤ length o → length o < too_many → {o₂ : List ℕ} → o₂ ≡ take r o₁ ++ replicate (length o₁ - r) 0 → Says (length o) (good r) o₂
      unfolding fitting counted kept
      says-moved l m z = let (a, b, c) = wrote-all p l m z in rw (moves, le-leb (length bytes) (length o) a) (ap good b, c)
