-- A program under smaller limits. It runs as under larger ones, but that it may refuse 10 where a row is to be made and none is left.
-- So it accepts just what is accepted under the larger limits with rows that fit, and with the same rows. A rule for each form, proved once.
-- Assumes nothing.
use mathlib.Core.Path.{◌≡◌, refl, ap, ◌∙◌, subst}
use mathlib.Core.Bool.{Bool, true, false}
use mathlib.Core.Logic.{◌⊎◌, inl, inr}
use mathlib.Core.List.{List, [], ◌∷◌, ◌++◌}
use Prim.Native.Nat.{ℕ, zero, suc, ◌+◌, ◌-◌, ◌≤◌, ◌<◌}
use native.Mathlib.Omega.{arith}
use borrow.Author.Tests.{ltb-true, ltb-false}
use lib.Dec.{T, ltb}
use lib.ListN.{get_or}
use Rattle.machine.specs.Machine.{ret, refuse, here, byte, pass, Out, ok, refused, seen, passed, FirstAt, run, trace, ◌>>=◌, ◌>>◌, when◌then◌else◌, place, skip, check, turns, many, times}
use Rattle.cursor.specs.Rows.{Frame, Part, node_row, item_row, plain, P, Events}
use Rattle.cursor.specs.Refusals.{no_row_left}
use Rattle.cursor.proofs.Uses.{UsesOf, passing, NoRow, Rowless}

-- ---- rows, by their kind

pub data Kind : Type 0 where
  node item : Kind

-- a number of rows of each kind
abbrev pub Rows : Type 0
Rows = Kind → ℕ

-- whether what is passed makes a row of the kind
abbrev pub makes : Kind → Part → Bool
makes node (node_row r) = true
makes node (item_row r) = false
makes node (plain x) = false
makes item (node_row r) = false
makes item (item_row r) = true
makes item (plain x) = false

-- one more, if so
abbrev pub plus : Bool → ℕ → ℕ
plus true n = n + 1
plus false n = n

-- the rows that events make
abbrev pub count : Events → Rows
count [] κ = 0
count (seen f p ∷ es) κ = count es κ
count (passed w p n ∷ es) κ = plus (makes κ w) (count es κ)

-- one more, of what is passed
abbrev pub more : Part → Rows → Rows
more w c κ = plus (makes κ w) (c κ)

-- ---- each accepted run of m makes a row of the kind

abbrev MakesOf : {A : Type 0} → Kind → P A → Type 0
MakesOf κ (ret a) = ⊥
MakesOf κ (refuse n p) = Unit {0}
MakesOf κ (here k) = (at : ℕ) → MakesOf κ (k at)
MakesOf κ (byte f k) = (b : ℕ) → MakesOf κ (k b)
MakesOf κ (pass w n m) = T (makes κ w) ⊎ MakesOf κ m

pub record Makes {A : Type 0} (κ : Kind) (m : P A) : Type 0 where
  row : MakesOf κ m

plus-some : (b : Bool) (n : ℕ) → T b ⊎ (0 < n) → 0 < plus b n
plus-some true n h = omega arith
plus-some false n (inl z) = absurd z
plus-some false n (inr l) = l

module _ {A : Type 0} where
  some-row : (κ : Kind) (m : P A) (f : List ℕ) (at : ℕ) → MakesOf κ m → {a : A} {p : ℕ} → run m f at ≡ ok a p → 0 < count (trace m f at) κ
  unfolding run trace
  some-row κ (ret a) f at w e = absurd w
  some-row κ (refuse n p) f at w e = let z : ◌≡◌ {A = ℕ} 0 1 = cc in absurd (omega arith)
  some-row κ (here k) f at w e = some-row κ (k at) f at (w at) e
  some-row κ (byte φ k) f at w e = some-row κ (k (get_or f at 0)) f (at + 1) (w (get_or f at 0)) e
  some-row κ (pass v n m) f at (inl t) e = plus-some (makes κ v) _ (inl t)
  some-row κ (pass v n m) f at (inr w) e = plus-some (makes κ v) _ (inr (some-row κ m f (at + n) w e))

  makes-bind : {B : Type 0} (κ : Kind) (m : P A) (g : A → P B) → MakesOf κ m ⊎ ((a : A) → MakesOf κ (g a)) → MakesOf κ (m >>= g)
  unfolding ◌>>=◌
  makes-bind κ (ret a) g (inl z) = absurd z
  makes-bind κ (ret a) g (inr h) = h a
  makes-bind κ (refuse n p) g h = tt
  makes-bind κ (here k) g (inl w) = λ at. makes-bind κ (k at) g (inl (w at))
  makes-bind κ (here k) g (inr h) = λ at. makes-bind κ (k at) g (inr h)
  makes-bind κ (byte φ k) g (inl w) = λ b. makes-bind κ (k b) g (inl (w b))
  makes-bind κ (byte φ k) g (inr h) = λ b. makes-bind κ (k b) g (inr h)
  makes-bind κ (pass v n m) g (inl (inl t)) = inl t
  makes-bind κ (pass v n m) g (inl (inr w)) = inr (makes-bind κ m g (inl w))
  makes-bind κ (pass v n m) g (inr h) = inr (makes-bind κ m g (inr h))

  pub makes-first : {B : Type 0} {κ : Kind} {m : P A} (g : A → P B) → Makes κ m → Makes κ (m >>= g)
  makes-first {κ = κ} {m} g w = record { row = makes-bind κ m g (inl w.row) }

  pub makes-then : {B : Type 0} {κ : Kind} (m : P A) {g : A → P B} → ((a : A) → Makes κ (g a)) → Makes κ (m >>= g)
  makes-then {κ = κ} m {g} h = record { row = makes-bind κ m g (inr (λ a. (h a).row)) }

  pub makes-check : {κ : Kind} (b : Bool) (n p : ℕ) {m : P A} → Makes κ m → Makes κ (check b n p >> m)
  unfolding ◌>>=◌ ◌>>◌ check
  makes-check true n p h = record { row = h.row }
  makes-check false n p h = record { row = tt }

  pub makes-row : {κ : Kind} (w : Part) (n : ℕ) (m : P A) → T (makes κ w) → Makes κ (skip w n >> m)
  unfolding ◌>>=◌ ◌>>◌ skip
  makes-row w n m t = record { row = inl t }

-- ---- m is o under smaller limits, when c rows were made: where m refuses for want of a row, it does so at once, and o would make one. Q holds of each answer and
-- the rows made then.

pub data Limited {A : Type 0} (lim : Rows) (Q : A → Rows → Type 0) : Rows → P A → P A → Type 0 where
  answer : {c : Rows} {a : A} → Q a c → Limited lim Q c (ret a) (ret a)
  same : {c : Rows} {n p : ℕ} → Limited lim Q c (refuse n p) (refuse n p)
  full : {c : Rows} (κ : Kind) {o : ℕ → P A} → lim κ ≤ c κ → ((at : ℕ) → Makes κ (o at)) → Limited lim Q c (here λ p. refuse no_row_left p) (here o)
  asked : {c : Rows} {k l : ℕ → P A} → ((at : ℕ) → Limited lim Q c (k at) (l at)) → Limited lim Q c (here k) (here l)
  read : {c : Rows} {φ : Frame} {k l : ℕ → P A} → ((b : ℕ) → Limited lim Q c (k b) (l b)) → Limited lim Q c (byte φ k) (byte φ l)
  moved : {c : Rows} {w : Part} {n : ℕ} {m o : P A} → Limited lim Q (more w c) m o → Limited lim Q c (pass w n m) (pass w n o)

plus-on : (b : Bool) (n k : ℕ) → plus b n + k ≡ n + plus b k
plus-on true n k = omega arith
plus-on false n k = refl

module _ {A : Type 0} {lim : Rows} {Q : A → Rows → Type 0} where
  -- Q holds of what m answers and of the rows made then
  pub limited_ends : {c : Rows} {m o : P A} → Limited lim Q c m o → (f : List ℕ) (at : ℕ) {a : A} {p : ℕ} → run m f at ≡ ok a p → (d : Rows) ×
      Q a d × ((κ : Kind) → d κ ≡ c κ + count (trace m f at) κ)
  unfolding run trace
  limited_ends {c} (answer {a = b} q) f at {a} e = let z : b ≡ a = cc in (c, subst (λ v. Q v c) z q, λ κ. omega arith)
  limited_ends same f at e = let z : ◌≡◌ {A = ℕ} 0 1 = cc in absurd (omega arith)
  limited_ends (full κ l w) f at e = let z : ◌≡◌ {A = ℕ} 0 1 = cc in absurd (omega arith)
  limited_ends (asked h) f at e = limited_ends (h at) f at e
  limited_ends (read h) f at e = limited_ends (h (get_or f at 0)) f (at + 1) e
  limited_ends {c} (moved {w = w} {n} {m} h) f at e =
      let (d, q, z) = limited_ends h f (at + n) e in (d, q, λ κ. z κ ∙ plus-on (makes κ w) (c κ) (count (trace m f (at + n)) κ))

  -- what m accepts, o accepts, with the same trace
  pub limited_run : {c : Rows} {m o : P A} → Limited lim Q c m o → (f : List ℕ) (at : ℕ) {a : A} {p : ℕ} → run m f at ≡ ok a p →
      (run o f at ≡ ok a p) × (trace o f at ≡ trace m f at)
  unfolding run trace
  limited_run (answer q) f at e = (e, refl)
  limited_run same f at e = (e, refl)
  limited_run (full κ l w) f at e = let z : ◌≡◌ {A = ℕ} 0 1 = cc in absurd (omega arith)
  limited_run (asked h) f at e = limited_run (h at) f at e
  limited_run (read {φ = φ} h) f at e = let (r, t) = limited_run (h (get_or f at 0)) f (at + 1) e in (r, ap (λ es. seen φ at ∷ es) t)
  limited_run (moved {w = w} {n} h) f at e = let (r, t) = limited_run h f (at + n) e in (r, ap (λ es. passed w at n ∷ es) t)

  -- what o accepts with rows that fit, m accepts, with the same trace
  pub fitting-run : {c : Rows} {m o : P A} → Limited lim Q c m o → (f : List ℕ) (at : ℕ) {a : A} {p : ℕ} → run o f at ≡ ok a p → ((κ : Kind) → c κ + count (trace o f at) κ ≤ lim κ)
      → (run m f at ≡ ok a p) × (trace m f at ≡ trace o f at)
  unfolding run trace
  fitting-run (answer q) f at e h = (e, refl)
  fitting-run same f at e h = (e, refl)
  fitting-run (full κ {o = o} l w) f at e h = let s = some-row κ (o at) f at (w at).row e in let u = h κ in absurd (omega arith)
  fitting-run (asked k) f at e h = fitting-run (k at) f at e h
  fitting-run (read {φ = φ} k) f at e h = let (r, t) = fitting-run (k (get_or f at 0)) f (at + 1) e h in (r, ap (λ es. seen φ at ∷ es) t)
  fitting-run {c} (moved {w = w} {n} {o = o} k) f at e h =
      let (r, t) = fitting-run k f (at + n) e (λ κ. rw (plus-on (makes κ w) (c κ) (count (trace o f (at + n)) κ)) (h κ)) in (r, ap (λ es. passed w at n ∷ es) t)

-- ---- each run is the same; or it is refused for want of a row, at the place that it came to

-- A run that gave o, with events es, where under the larger limits it gave v, with events fs, and c rows were made before: these begin with es, and go on at the
-- refusal's place, unless v is a refusal there.
pub record Early {A : Type 0} (lim c : Rows) (o v : Out A) (es fs : Events) : Type 0 where
  pub place : ℕ
  pub refuses : o ≡ refused no_row_left place
  pub rest : Events
  pub goes_on : fs ≡ es ++ rest
  pub next : FirstAt place rest
  pub some : {a : A} {q : ℕ} → v ≡ ok a q → rest ≡ [] → ⊥
  pub kind : Kind
  pub none_left : lim kind ≤ c kind + count es kind

first-at : {A : Type 0} (m : P A) (f : List ℕ) (at : ℕ) → FirstAt at (trace m f at)
unfolding trace
first-at (ret a) f at = tt
first-at (refuse n p) f at = tt
first-at (here k) f at = first-at (k at) f at
first-at (byte κ k) f at = refl
first-at (pass w n m) f at = refl

abbrev pub Either : {A : Type 0} → (lim c : Rows) (o v : Out A) (es fs : Events) → Type 0
Either lim c o v es fs = ((o ≡ v) × (es ≡ fs)) ⊎ Early lim c o v es fs

module _ {A : Type 0} {lim : Rows} where
  one_seen : {c : Rows} {o v : Out A} {es fs : Events} (φ : Frame) (at : ℕ) → Either lim c o v es fs → Either lim c o v (seen φ at ∷ es) (seen φ at ∷ fs)
  one_seen φ at (inl w) = inl (w.0, ap (λ es. seen φ at ∷ es) w.1)
  one_seen φ at (inr w) =
      inr (record {
        place = w.place;
        refuses = w.refuses;
        rest = w.rest;
        goes_on = ap (λ es. seen φ at ∷ es) w.goes_on;
        next = w.next;
        some = w.some;
        kind = w.kind;
        none_left = w.none_left;
      })

  one-passed : {c : Rows} {o v : Out A} {es fs : Events} (p : Part) (at n : ℕ) → Either lim (more p c) o v es fs → Either lim c o v (passed p at n ∷ es) (passed p at n ∷ fs)
  one-passed p at n (inl w) = inl (w.0, ap (λ es. passed p at n ∷ es) w.1)
  one-passed {c} {es = es} p at n (inr w) = inr (record {
    place = w.place;
    refuses = w.refuses;
    rest = w.rest;
    goes_on = ap (λ es. passed p at n ∷ es) w.goes_on;
    next = w.next;
    some = w.some;
    kind = w.kind;
    none_left = subst (λ v. lim w.kind ≤ v) (plus-on (makes w.kind p) (c w.kind) (count es w.kind)) w.none_left;
  })

  pub limited_either : {Q : A → Rows → Type 0} {c : Rows} {m o : P A} → Limited lim Q c m o → (f : List ℕ) (at : ℕ) → Either lim c
      (run m f at) (run o f at) (trace m f at) (trace o f at)
  unfolding run trace
  limited_either (answer q) f at = inl (refl, refl)
  limited_either same f at = inl (refl, refl)
  limited_either (full κ {o} l w) f at = inr (record {
    place = at;
    refuses = refl;
    rest = trace (o at) f at;
    goes_on = refl;
    next = first-at (o at) f at;
    some = λ e z. let s = some-row κ (o at) f at (w at).row e in let c : count (trace (o at) f at) κ ≡ 0 = ap (λ (es : Events). count es κ) z in absurd (omega arith);
    kind = κ;
    none_left = omega arith;
  })
  limited_either (asked h) f at = limited_either (h at) f at
  limited_either (read {φ = φ} h) f at = one_seen φ at (limited_either (h (get_or f at 0)) f (at + 1))
  limited_either (moved {w = w} {n} h) f at = one-passed w at n (limited_either h f (at + n))

-- ---- the rules

module _ {lim : Rows} where
  pub after : {A B : Type 0} {Q : A → Rows → Type 0} {R : B → Rows → Type 0} {c : Rows} {m o : P A} {g h : A → P B}
      → Limited lim Q c m o → ((a : A) (d : Rows) → Q a d → Limited lim R d (g a) (h a)) → Limited lim R c (m >>= g) (o >>= h)
  unfolding ◌>>=◌
  after (answer {c = c} {a} q) k = k a c q
  after same k = same
  after {h = h} (full κ l w) k = full κ l (λ at. makes-first h (w at))
  after (asked w) k = asked (λ at. after (w at) k)
  after (read w) k = read (λ b. after (w b) k)
  after (moved w) k = moved (after w k)

  pub weaken : {A : Type 0} {Q R : A → Rows → Type 0} {c : Rows} {m o : P A} → Limited lim Q c m o → ((a : A) (d : Rows) → Q a d → R a d) → Limited lim R c m o
  weaken (answer {c = c} {a} q) k = answer (k a c q)
  weaken same k = same
  weaken (full κ l w) k = full κ l w
  weaken (asked w) k = asked (λ at. weaken (w at) k)
  weaken (read w) k = read (λ b. weaken (w b) k)
  weaken (moved w) k = moved (weaken w k)

  module _ {A : Type 0} where
    -- a program that makes no row is the same under all limits
    still : (m : P A) (c d : Rows) → UsesOf (passing NoRow) m → d node ≡ c node → d item ≡ c item → Limited lim (λ a d. (d node ≡ c node) × (d item ≡ c item)) d m m
    still (ret a) c d u x y = answer (x, y)
    still (refuse n p) c d u x y = same
    still (here f) c d u x y = asked (λ at. still (f at) c d (u at) x y)
    still (byte φ f) c d u x y = read (λ b. still (f b) c d (u.1 b) x y)
    still (pass (node_row r) n m) c d u x y = absurd u.0
    still (pass (item_row r) n m) c d u x y = absurd u.0
    still (pass (plain v) n m) c d u x y = moved (still m c _ u.1 x y)

    -- such a program, and then another; Q is kept by the numbers of rows alone
    pub then_rowless : {B : Type 0} {R : B → Rows → Type 0} {c : Rows} {m : P A} {g h : A → P B} → Rowless m
        → ((a : A) (d : Rows) → d node ≡ c node → d item ≡ c item → Limited lim R d (g a) (h a)) → Limited lim R c (m >>= g) (m >>= h)
    then_rowless {c = c} {m} u k = after (still m c c u.uses refl refl) λ a d q. k a d q.0 q.1

    pub ends : {Q : A → Rows → Type 0} {c : Rows} {a : A} → Q a c → Limited lim Q c (ret a) (ret a)
    ends q = answer q

    pub at_place : {Q : A → Rows → Type 0} {c : Rows} {k l : ℕ → P A} → ((at : ℕ) → Limited lim Q c (k at) (l at)) → Limited lim Q c (here k) (here l)
    at_place w = asked w

    pub places : {Q : A → Rows → Type 0} {c : Rows} {g h : ℕ → P A} → ((at : ℕ) → Limited lim Q c (g at) (h at)) → Limited lim Q c (place >>= g) (place >>= h)
    unfolding ◌>>=◌ place
    places w = asked w

    pub either : {Q : A → Rows → Type 0} {c : Rows} (b : Bool) {m n m' n' : P A} → Limited lim Q c m m' → Limited lim Q c n n' → Limited lim Q c
        (when b then m else n) (when b then m' else n')
    unfolding when◌then◌else◌
    either true x y = x
    either false x y = y

    pub checks : {Q : A → Rows → Type 0} {c : Rows} (b : Bool) (n p : ℕ) {m o : P A} → Limited lim Q c m o → Limited lim Q c (check b n p >> m) (check b n p >> o)
    unfolding ◌>>=◌ ◌>>◌ check
    checks true n p w = w
    checks false n p w = same

    -- the check that a row is left, when n were made; `most` is the larger limit
    pub row-checks : {Q : A → Rows → Type 0} {c : Rows} (κ : Kind) (n most : ℕ) {m o : ℕ → P A} → n ≡ c κ → lim κ ≤ most →
        ((p : ℕ) → Makes κ (o p)) → (c κ < lim κ → (p : ℕ) → Limited lim Q c (m p) (o p))
        → Limited lim Q c (place >>= λ p. check (ltb n (lim κ)) no_row_left p >> m p) (place >>= λ p. check (ltb n most) no_row_left p >> o p)
    unfolding ◌>>=◌ ◌>>◌ check place
    row-checks {Q} {c} κ n most {m} {o} x l w k = by (ltb n (lim κ)) (ltb n most) refl refl
      where
        by : (s t : Bool) → ltb n (lim κ) ≡ s → ltb n most ≡ t → Limited lim Q c (place >>= λ p. check s no_row_left p >> m p) (place >>= λ p. check t no_row_left p >> o p)
        by true true a b = asked (k (omega (arith, ltb-true n (lim κ) a)))
        by true false a b = absurd (omega (arith, ltb-true n (lim κ) a, ltb-false n most b))
        by false true a b = let z : lim κ ≤ c κ = omega (arith, ltb-false n (lim κ) a) in full κ z w
        by false false a b = asked (λ p. same)

    pub passes : {Q : A → Rows → Type 0} {c : Rows} (w : Part) (n : ℕ) {m o : P A} → Limited lim Q (more w c) m o → Limited lim Q c (skip w n >> m) (skip w n >> o)
    unfolding ◌>>=◌ ◌>>◌ skip
    passes w n k = moved k

    turned : (I : A → Rows → Type 0) (t end : ℕ) {body with : A → P A} (s : A) {c : Rows} → ((s : A) (c : Rows) → I s c → Limited lim I c (body s) (with s)) → I s c
        → Limited lim I c (turns t end body s) (turns t end with s)
    unfolding turns
    turned I zero end s step i = answer i
    turned I (suc t) end s {c} step i = asked λ at. either _ (after (step s c i) λ r d q. turned I t end r step q) (answer i)

    pub repeats : (I : A → Rows → Type 0) (end : ℕ) {body with : A → P A} (s : A) {c : Rows} → ((s : A) (c : Rows) → I s c → Limited lim I c (body s) (with s)) → I s c
        → Limited lim I c (many end body s) (many end with s)
    unfolding many
    repeats I end s step i = asked λ at. turned I (end - at) end s step i

    pub counts : (I : A → Rows → Type 0) (n : ℕ) {body with : A → P A} (s : A) {c : Rows} → ((s : A) (c : Rows) → I s c → Limited lim I c (body s) (with s)) → I s c
        → Limited lim I c (times n body s) (times n with s)
    unfolding times
    counts I zero s step i = answer i
    counts I (suc n) s {c} step i = after (step s c i) λ r d q. counts I n r step q
