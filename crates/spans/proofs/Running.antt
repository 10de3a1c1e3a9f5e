-- The runs of a file: together they are its kinds, each begins where the one before it ends, has a place, and is of another kind than the one before it. And the lines
-- of runs, as the code comes to them.
-- Assumes nothing.
use mathlib.Core.Path.{◌≡◌, refl, sym, ap, ◌∙◌}
use mathlib.Core.Bool.{Bool, true, false, cond}
use mathlib.Core.List.{List, [], ◌∷◌, ◌++◌, append_assoc}
use Prim.Native.Nat.{ℕ, zero, suc, ◌+◌, ◌-◌, ◌≤◌, ◌<◌}
use native.Mathlib.Numerals.{add-one}
use native.Mathlib.Omega.{arith}
use lib.Dec.{eqb}
use lib.ListN.{length, length-append, get_or, take, drop, drop_of_length-le, replicate, replicate-append-replicate}
use lib.Seq.{drop-cons, take_at, length-take-le}
use borrow.Author.Tests.{eq-eqb, ne_eqb, eqb-true, eqb-false}
use Rattle.metadata.specs.Tables.{full_nodes, full_items, limits}
use Rattle.room.specs.Room.{Result, good, bad, padded, counted, kept}
use Rattle.refusals.specs.Told.{told}
use Rattle.std.proofs.Common as std
use Rattle.std.proofs.Common.{Ok, Err}
use Rattle.refusals.specs.Reasons.{number_of}
use Rattle.refusals.specs.declared.Refusal.{Refusal}
use Rattle.file.specs.Reading.{read_file}
use Rattle.file.specs.Asking.{ask}
use Rattle.text.specs.Text.{tabbed, number}
use Rattle.account.specs.Marks.{marks_of}
use Rattle.lines.specs.Answer.{plainly, refused_by, fitted, reads}
use Rattle.spans.specs.Runs.{Run, begun, longer, runs_on, runs_from, runs_of, names, name_of, run_line, run_lines, runs_at, Ends, runs_shown, runs_answer}
use Rattle.lines.proofs.Ending.{printed-good, printed-bad}

-- ---- what runs are

-- the kinds of their places
abbrev pub spread : List Run → List ℕ
spread [] = []
spread (r ∷ rs) = replicate r.size r.kind ++ spread rs

-- the first begins at a place and each other where the one before it ends; each has a place
abbrev pub Joined : (at : ℕ) → List Run → Type 0
Joined at [] = Unit {0}
Joined at (r ∷ rs) = (r.place ≡ at) × (0 < r.size) × Joined (at + r.size) rs

-- none is of the kind of the one before it: so none could be longer
abbrev pub Differ : List Run → Type 0
Differ [] = Unit {0}
Differ (r ∷ []) = Unit {0}
Differ (r ∷ s ∷ rs) = ((r.kind ≡ s.kind) → ⊥) × Differ (s ∷ rs)

one_more_lem : (n κ : ℕ) (ws : List ℕ) → replicate (n + 1) κ ++ ws ≡ replicate n κ ++ κ ∷ ws
one_more_lem n κ ws = ap (λ v. v ++ ws) (sym (replicate-append-replicate n 1 κ)) ∙ append_assoc (replicate n κ) (κ ∷ []) ws

on-spread : (κs : List ℕ) (r : Run) → spread (runs_on r κs) ≡ replicate r.size r.kind ++ κs
unfolding runs_on
on-spread [] r = refl
on-spread (κ ∷ κs) r = by (eqb κ r.kind) refl (on-spread κs)
  where
    by : (b : Bool) → eqb κ r.kind ≡ b → ((q : Run) → spread (runs_on q κs) ≡ replicate q.size q.kind ++ κs)
        → spread (cond b (runs_on (longer r) κs) (r ∷ runs_on (begun (r.place + r.size) κ) κs)) ≡ replicate r.size r.kind ++ κ ∷ κs
    by true e h = h (longer r) ∙ one_more_lem r.size r.kind κs ∙ ap (λ v. replicate r.size r.kind ++ v ∷ κs) (sym (eqb-true κ r.kind e))
    by false e h = ap (λ v. replicate r.size r.kind ++ v) (h (begun (r.place + r.size) κ))

pub runs-spread : (κs : List ℕ) → spread (runs_of κs) ≡ κs
unfolding runs_from
runs-spread [] = refl
runs-spread (κ ∷ κs) = on-spread κs (begun 0 κ)

on-joined : (κs : List ℕ) (r : Run) → 0 < r.size → Joined r.place (runs_on r κs)
unfolding runs_on
on-joined [] r l = (refl, l, tt)
on-joined (κ ∷ κs) r l = by (eqb κ r.kind) (on-joined κs)
  where
    by : (b : Bool) → ((q : Run) → 0 < q.size → Joined q.place (runs_on q κs)) → Joined r.place (cond b (runs_on (longer r) κs) (r ∷ runs_on (begun (r.place + r.size) κ) κs))
    by true h = h (longer r) (omega arith)
    by false h = (refl, l, h (begun (r.place + r.size) κ) (omega arith))

pub runs-joined : (κs : List ℕ) → Joined 0 (runs_of κs)
unfolding runs_from
runs-joined [] = tt
runs-joined (κ ∷ κs) = on-joined κs (begun 0 κ) (omega arith)

-- the first is of the kind of the run that went on
abbrev Apart : Run → List Run → Type 0
Apart r rs = Differ rs × ((q : Run) → ((q.kind ≡ r.kind) → ⊥) → Differ (q ∷ rs))

on-differ : (κs : List ℕ) (r : Run) → Apart r (runs_on r κs)
unfolding runs_on
on-differ [] r = (tt, λ q n. (n, tt))
on-differ (κ ∷ κs) r = by (eqb κ r.kind) refl (on-differ κs)
  where
    by : (b : Bool) → eqb κ r.kind ≡ b → ((q : Run) → Apart q (runs_on q κs)) → Apart r (cond b (runs_on (longer r) κs) (r ∷ runs_on (begun (r.place + r.size) κ) κs))
    by true e h = h (longer r)
    by false e h = let d = (h (begun (r.place + r.size) κ)).1 r (λ y. eqb-false κ r.kind e (sym y)) in (d, λ q n. (n, d))

pub runs-differ : (κs : List ℕ) → Differ (runs_of κs)
unfolding runs_from
runs-differ [] = tt
runs-differ (κ ∷ κs) = (on-differ κs (begun 0 κ)).0

-- ---- lines, as the bytes that are put one after the other

pub run_is : (p s κ : ℕ) → (0x4B ∷ []) ++ number p ++ number s ++ tabbed (name_of κ) ++ (0x0A ∷ []) ≡ run_line (record { place = p; size = s; kind = κ })
unfolding run_line
run_is p s κ = refl

-- the name of a kind, and none
pub name-is : (κ : ℕ) {k : ℕ} → k ≡ κ → 0x09 ∷ get_or names κ [] ≡ tabbed (name_of k)
unfolding tabbed name_of
name-is κ e = rw e

pub no_name : (κ : ℕ) → ((κ ≡ 0) → ⊥) → ((κ ≡ 1) → ⊥) → ((κ ≡ 2) → ⊥) → ((κ ≡ 3) → ⊥) → ((κ ≡ 4) → ⊥) → ((κ ≡ 5) → ⊥) → ((κ ≡ 6) → ⊥) → ((κ ≡ 7) → ⊥) → ((κ ≡ 8) → ⊥)
    → 0x09 ∷ [] ≡ tabbed (name_of κ)
unfolding tabbed name_of
no_name zero a b c d e f g h i = absurd (a refl)
no_name (suc zero) a b c d e f g h i = absurd (b refl)
no_name (suc (suc zero)) a b c d e f g h i = absurd (c refl)
no_name (suc (suc (suc zero))) a b c d e f g h i = absurd (d refl)
no_name (suc (suc (suc (suc zero)))) a b c d e f g h i = absurd (e refl)
no_name (suc (suc (suc (suc (suc zero))))) a b c d e f g h i = absurd (f refl)
no_name (suc (suc (suc (suc (suc (suc zero)))))) a b c d e f g h i = absurd (g refl)
no_name (suc (suc (suc (suc (suc (suc (suc zero))))))) a b c d e f g h i = absurd (h refl)
no_name (suc (suc (suc (suc (suc (suc (suc (suc zero)))))))) a b c d e f g h i = absurd (i refl)
no_name (suc (suc (suc (suc (suc (suc (suc (suc (suc κ))))))))) a b c d e f g h i = refl

-- ---- where a run ends: so far it goes up to `at`

pub record GoingOn (κs : List ℕ) (place at : ℕ) : Type 0 where
  pub behind : place < at
  pub within : at ≤ length κs
  pub runs : runs_at κs place ≡ runs_on (record { place = place; size = at - place; kind = get_or κs place 0 }) (drop at κs)

module _ (κs : List ℕ) where
  next-is : (at : ℕ) → at < length κs → drop at κs ≡ get_or κs at 0 ∷ drop (at + 1) κs
  next-is at l = drop-cons κs at 0 l ∙ ap (λ n. get_or κs at 0 ∷ drop n κs) (sym (add-one at))

  pub run-begun : (place : ℕ) → place < length κs → GoingOn κs place (place + 1)
  unfolding runs_from
  run-begun place l = let o : place + 1 - place ≡ 1 = omega arith in record { behind = omega arith; within = omega arith; runs = rw (next-is place l, o) }

  module _ {place at : ℕ} (g : GoingOn κs place at) where
    pub run_on : at < length κs → get_or κs at 0 ≡ get_or κs place 0 → GoingOn κs place (at + 1)
    unfolding runs_on
    run_on l e =
        let b = g.behind in let s : at - place + 1 ≡ at + 1 - place = omega arith in
        record { behind = omega arith; within = omega arith; runs = g.runs ∙ rw (next-is at l, eq-eqb (get_or κs at 0) (get_or κs place 0) e, s) }

    pub run-stopped : at < length κs → ((get_or κs at 0 ≡ get_or κs place 0) → ⊥) → Ends κs place at
    unfolding runs_from runs_on
    run-stopped l n =
        let b = g.behind in let s : place + (at - place) ≡ at = omega arith in
        record { behind = b; within = g.within; runs = g.runs ∙ rw (next-is at l, ne_eqb (get_or κs at 0) (get_or κs place 0) n, s) }

    pub run-last : length κs ≤ at → Ends κs place (length κs)
    unfolding runs_from runs_on
    run-last l =
        let b = g.behind in let w = g.within in let e : at ≡ length κs = omega arith in
        let r : Ends κs place at = record { behind = b; within = w; runs = g.runs ∙ rw (drop_of_length-le κs l) } in
        rw e at r

  -- the lines from a place on
  pub lines_next : {place end : ℕ} → Ends κs place end → run_lines (runs_at κs place) ≡ run_line
      (record { place = place; size = end - place; kind = get_or κs place 0 }) ++ run_lines (runs_at κs end)
  unfolding run_lines
  lines_next e = rw e.runs

  pub lines_none : (place : ℕ) → length κs ≤ place → run_lines (runs_at κs place) ≡ []
  unfolding run_lines runs_from
  lines_none place l = rw (drop_of_length-le κs l)

-- ---- the answer

bad-is : (x : Result (List ℕ)) {a b : ℕ} → bad a b ≡ counted x → x ≡ bad a b
unfolding counted
bad-is (good s) k = let z : ◌≡◌ {A = ℕ} 0 1 = cc in absurd (omega arith)
bad-is (bad c d) {a} {b} k = let x : a ≡ c = cc in let y : b ≡ d = cc in rw (x, y)

-- the kinds that were stored
good-is : (m : ℕ) (x : Result (List ℕ)) {a : ℕ} → good a ≡ counted x → {t : List ℕ} → t ≡ kept m x → (a ≤ length t) × (x ≡ good (take a t))
unfolding counted kept padded
good-is m (good s) {a} k {t} h =
    let z : a ≡ length s = cc in let y = ap length h in let v = length-append s (replicate (m - length s) 0) in
    (omega arith, ap good (sym (rw (h, z) (take_at s (replicate (m - length s) 0) (length s) refl))))
good-is m (bad c d) k h = let z : ◌≡◌ {A = ℕ} 0 1 = cc in absurd (omega arith)

module _ (f : List ℕ) {n i : ℕ} (en : full_nodes ≡ n) (ei : full_items ≡ i) {m : ℕ} (em : 65537 ≡ m) where
  abbrev asked : Result (List ℕ)
  asked = ask (read_file (limits n i) f) (marks_of (limits n i) m f)

  asked_is : asked ≡ ask (reads f) (marks_of (limits full_nodes full_items) 65537 f)
  unfolding reads
  asked_is = rw (← en, ← ei, ← em)

  module _ {w : std.Result ℕ Refusal} (e : told w ≡ counted asked) where
    pub runs-bad : {r : Refusal} → w ≡ Err r → (room : ℕ) → refused_by room [] (number_of r.0) r.1 ≡ runs_answer room f
    unfolding runs_answer
    runs-bad k room = printed-bad runs_shown room [] (sym asked_is ∙ bad-is asked (sym (ap told k) ∙ e))

    module _ {a : ℕ} (k : w ≡ Ok a) {t : List ℕ} (h : t ≡ kept m asked) where
      pub stored : (a ≤ length t) × (a ≡ length (take a t))
      stored = let l = (good-is m asked (sym (ap told k) ∙ e) h).0 in (l, sym (length-take-le a t l))

      pub runs-good : (room : ℕ) → fitted room [] (plainly (run_lines (runs_of (take a t)))) ≡ runs_answer room f
      unfolding runs_answer
      runs-good room = printed-good runs_shown room [] (sym asked_is ∙ (good-is m asked (sym (ap told k) ∙ e) h).1)
