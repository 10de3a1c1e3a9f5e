-- How a sheet is judged, line by line as the code goes.
-- Assumes nothing.
use mathlib.Core.Path.{◌≡◌, refl, sym, ap, ◌∙◌}
use mathlib.Core.Bool.{Bool, true, false, cond, ◌&&◌}
use mathlib.Core.List.{List, [], ◌∷◌}
use Prim.Native.Nat.{ℕ, ◌+◌, ◌-◌, ◌≤◌, ◌<◌}
use native.Mathlib.Omega.{arith}
use lib.Dec.{eqb, leb}
use lib.ListN.{length, drop, take}
use lib.Seq.{slice, length-slice}
use borrow.Author.Tests.{eq-eqb, ne_eqb, le-leb, lt-leb, lt-ltb, le-ltb}
use Rattle.room.specs.Room.{Result, good, bad}
use Rattle.editions.specs.declared.State.{State}
use Rattle.editions.specs.Sheets.{Lines, parted, lead, value, field, is_first, Kind, node, item, other, kind, start, stands, after, judge, agreeing, judged, is_second}
use Rattle.editions.specs.Told.{LeadIs, Well}
use Rattle.editions.proofs.Bytes.{some-piece}
use Rattle.editions.proofs.Places.{Next, judge-turn, judge-unended, judge-done, slice-take}

-- ---- one line after those before it

abbrev Steps : Bool → State → Kind → Result State
Steps e t l = cond (stands e t l) (good (after e t l)) (bad 0 0)

module _ (e : Bool) (t : State) {l : Kind} {k : ℕ} where
  module _ (q : l ≡ node k) where
    pub node-apart : (k ≡ t.nodes → ⊥) → bad 0 0 ≡ Steps e t l
    node-apart n = rw q (rw (ne_eqb k t.nodes n) refl)

    module _ (h : k ≡ t.nodes) where
      pub node-second : e ≡ true → good (record { nodes = t.nodes + 1; items = t.items; least = k }) ≡ Steps e t l
      node-second f = rw (q, f) (rw (eq-eqb k t.nodes h) refl)

      module _ (f : e ≡ false) where
        pub node-late : (t.items ≡ 0 → ⊥) → bad 0 0 ≡ Steps e t l
        node-late n = rw (q, f) (rw (eq-eqb k t.nodes h, ne_eqb t.items 0 n) refl)

        pub node-first : t.items ≡ 0 → good (record { nodes = t.nodes + 1; items = t.items; least = t.least }) ≡ Steps e t l
        node-first z = rw (q, f) (rw (eq-eqb k t.nodes h, eq-eqb t.items 0 z) refl)

  module _ (q : l ≡ item k) where
    pub item_back : k < t.least → bad 0 0 ≡ Steps e t l
    item_back h = rw q (rw (lt-leb t.least k h) refl)

    module _ (h : t.least ≤ k) where
      pub item-absent : t.nodes ≤ k → bad 0 0 ≡ Steps e t l
      item-absent m = rw q (rw (le-leb t.least k h, le-ltb k t.nodes m) refl)

      pub item_on : k < t.nodes → good (record { nodes = t.nodes; items = t.items + 1; least = k }) ≡ Steps e t l
      item_on m = rw q (rw (le-leb t.least k h, lt-ltb k t.nodes m) refl)

pub no_line : (e : Bool) (t : State) {l : Kind} → l ≡ other → bad 0 0 ≡ Steps e t l
no_line e t q = rw q refl

stood : (b : Bool) (x : State) {u : State} → good u ≡ cond b (good x) (bad 0 0) → (b ≡ true) × (u ≡ x)
stood true x h = (refl, cc)
stood false x h = let z : ◌≡◌ {A = ℕ} 0 1 = cc in absurd (omega arith)

fell : (b : Bool) (x : State) → bad 0 0 ≡ cond b (good x) (bad 0 0) → b ≡ false
fell false x h = refl
fell true x h = let z : ◌≡◌ {A = ℕ} 0 1 = cc in absurd (omega arith)

-- ---- the lines behind the first: what is left of them is the whole

-- the part of a sheet that is lent
pub lent : (s : List ℕ) (at end : ℕ) → at ≤ end → end ≤ length s → take (end - at) (drop at s) ≡ slice at end s
lent s at end l m = let e : at + (end - at) ≡ end = omega arith in sym (ap (λ n. slice at n s) (sym e) ∙ slice-take at (end - at) s (omega arith))

pub record Judging (s : List ℕ) (second : Bool) (from : ℕ) (t : State) (at number : ℕ) : Type 0 where
  pub same : judge second start 2 (parted 0x0A (drop from s)) ≡ judge second t number (parted 0x0A (drop at s))
  pub nodes-few : t.nodes ≤ at
  pub items-few : t.items ≤ at
  pub few : number ≤ at + 2
  pub inside : at ≤ length s

module _ {s : List ℕ} {second : Bool} {from : ℕ} {t : State} {at number : ℕ} (g : Judging s second from t at number) where
  pub judged-all : length s ≤ at → good t ≡ judge second start 2 (parted 0x0A (drop from s))
  judged-all h = sym (g.same ∙ judge-done second t number s at h)

  module _ (h : at < length s) {end : ℕ} (k : Next 0x0A s at end) where
    pub judged-unended : end ≤ length s → length s ≤ end → bad 31 number ≡ judge second start 2 (parted 0x0A (drop from s))
    judged-unended i m = sym (g.same ∙ judge-unended second t number s at end k m (λ e. some e))
      where
        some : slice at end s ≡ [] → ⊥
        some e = let a = ap length e in let b = length-slice at end s i in omega arith

    module _ (m : end < length s) (a : at ≤ end) {x : List ℕ} (xe : x ≡ slice at end s) {l : Kind} (le : l ≡ kind x) where
      turn : judge second start 2 (parted 0x0A (drop from s)) ≡ cond (stands second t l)
          (judge second (after second t l) (number + 1) (parted 0x0A (drop (end + 1) s))) (bad 31 number)
      turn = g.same ∙ judge-turn second t number s at end k m ∙ rw (← xe, ← le) refl

      pub judged-no : bad 0 0 ≡ Steps second t l → bad 31 number ≡ judge second start 2 (parted 0x0A (drop from s))
      judged-no e = sym (turn ∙ rw (fell (stands second t l) (after second t l) e) refl)

      pub judged-on : {u : State} → good u ≡ Steps second t l → Judging s second from u (end + 1) (number + 1)
      judged-on {u} e = let (b, q) = stood (stands second t l) (after second t l) e in rw q (record {
        same = turn ∙ rw b refl;
        nodes-few = let (w, v) = after-few l in let n = g.nodes-few in omega arith;
        items-few = let (w, v) = after-few l in let n = g.items-few in omega arith;
        few = let n = g.few in omega arith;
        inside = omega arith;
      })
        where
          after-few : (c : Kind) → ((after second t c).nodes ≤ t.nodes + 1) × ((after second t c).items ≤ t.items + 1)
          after-few (node k) = (omega arith, omega arith)
          after-few (item k) = (omega arith, omega arith)
          after-few other = (omega arith, omega arith)

-- ---- the whole sheet

judged-cons : (e : Bool) (f : List ℕ) (ps : Lines) → (ps ≡ [] → ⊥) → judged e (f ∷ ps) ≡ cond (is_first e f) (agreeing f (judge e start 2 ps)) (bad 31 1)
unfolding judged
judged-cons e f [] n = absurd (n refl)
judged-cons e f (l ∷ ps) n = refl

judged-alone : (e : Bool) (f : List ℕ) → judged e (f ∷ []) ≡ bad 31 1
unfolding judged
judged-alone e f = refl

second-by : (s f : List ℕ) (ps : Lines) → parted 0x0A s ≡ f ∷ ps → is_second s ≡ is_first true f
unfolding is_second lead
second-by s f ps e = rw e refl

agree_by : (f : List ℕ) (t : State) {a b : Bool} → eqb t.nodes (value 0 (field 3 f)) ≡ a → leb t.items (value 0 (field 4 f)) ≡ b →
    agreeing f (good t) ≡ cond (a && b) (good t) (bad 31 1)
unfolding agreeing
agree_by f t e g = rw (e, g) refl

agree_bad : (f : List ℕ) (n p : ℕ) → agreeing f (bad n p) ≡ bad n p
unfolding agreeing
agree_bad f n p = refl

module _ (s : List ℕ) {stop : ℕ} (k : Next 0x0A s 0 stop) where
  pub one_line_lem : length s ≤ stop → judged (is_second s) (parted 0x0A s) ≡ bad 31 1
  one_line_lem h = ap (judged (is_second s)) (k.last h) ∙ judged-alone (is_second s) (slice 0 stop s)

  module _ (h : stop < length s) where
    abbrev rest : Lines
    rest = parted 0x0A (drop (stop + 1) s)

    by_first : (e : Bool) → judged e (parted 0x0A s) ≡ cond (is_first e (slice 0 stop s)) (agreeing (slice 0 stop s) (judge e start 2 rest)) (bad 31 1)
    by_first e = ap (judged e) (k.more h) ∙ judged-cons e (slice 0 stop s) rest (some-piece 0x0A (drop (stop + 1) s))

    pub no_lead : {x : List ℕ} → x ≡ slice 0 stop s → ((e : Bool) → is_first e x ≡ false) → judged (is_second s) (parted 0x0A s) ≡ bad 31 1
    no_lead q n = by_first (is_second s) ∙ rw (← q, n (is_second s)) refl

    module _ {x : List ℕ} (q : x ≡ slice 0 stop s) {e : Bool} {nodes items : ℕ} (w : LeadIs x e nodes items) where
      leads : LeadIs (slice 0 stop s) e nodes items
      leads = rw q at w

      says : is_second s ≡ e
      says = second-by s (slice 0 stop s) rest (k.more h) ∙ leads.says

      behind-lead : judged e (parted 0x0A s) ≡ agreeing (slice 0 stop s) (judge e start 2 rest)
      behind-lead = by_first e ∙ rw leads.right refl

      pub bad-body : {n : ℕ} → bad 31 n ≡ judge e start 2 rest → judged (is_second s) (parted 0x0A s) ≡ bad 31 n
      bad-body {n} b = ap (λ d. judged d (parted 0x0A s)) says ∙ behind-lead ∙ ap (agreeing (slice 0 stop s)) (sym b) ∙ agree_bad (slice 0 stop s) 31 n

      module _ {t : State} (b : good t ≡ judge e start 2 rest) where
        counted-by : {c d : Bool} → eqb t.nodes nodes ≡ c → leb t.items items ≡ d → judged e (parted 0x0A s) ≡ cond (c && d) (good t) (bad 31 1)
        counted-by u v =
            behind-lead ∙ ap (agreeing (slice 0 stop s)) (sym b)
            ∙ agree_by (slice 0 stop s) t (ap (eqb t.nodes) (sym leads.nodes-are) ∙ u) (ap (leb t.items) (sym leads.items-are) ∙ v)

        pub bad-nodes : (t.nodes ≡ nodes → ⊥) → judged (is_second s) (parted 0x0A s) ≡ bad 31 1
        bad-nodes n = ap (λ d. judged d (parted 0x0A s)) says ∙ counted-by (ne_eqb t.nodes nodes n) refl

        module _ (n : t.nodes ≡ nodes) where
          pub bad-items : items < t.items → judged (is_second s) (parted 0x0A s) ≡ bad 31 1
          bad-items m = ap (λ d. judged d (parted 0x0A s)) says ∙ counted-by (eq-eqb t.nodes nodes n) (lt-leb t.items items m)

          pub well : t.items ≤ items → Well s e stop
          well m = record {
            says = says;
            end = t;
            judges = counted-by (eq-eqb t.nodes nodes n) (le-leb t.items items m);
            inside = h;
            lines = k.more h;
            leads = leads.right;
          }
