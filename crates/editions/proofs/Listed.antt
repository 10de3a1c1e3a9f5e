-- The refusals of the mover are its own; 31 is placed at one of the sheet's lines, numbered from 1.
-- Assumes nothing.
use mathlib.Core.Path.{◌≡◌, refl, subst}
use mathlib.Core.Bool.{Bool, true, false, cond, ◌&&◌}
use mathlib.Core.List.{List, [], ◌∷◌}
use Prim.Native.Nat.{ℕ, suc, ◌+◌, ◌≤◌, ◌<◌}
use native.Mathlib.Omega.{arith}
use lib.Dec.{eqb, leb}
use lib.ListN.{length}
use Rattle.cursor.specs.Refusals.{bad_sheet, Among}
use Rattle.room.specs.Room.{Result, good, bad}
use Rattle.editions.specs.declared.State.{State}
use Rattle.editions.specs.Sheets.{Lines, lines, same, value, field, is_first, kind, start, stands, after, judge, agreeing, judged, is_second, answered, move, refusals}
use Rattle.editions.proofs.Bytes.{some-piece}

-- a refusal is 31, at a line from n on and before m
abbrev At : {A : Type 0} → (n m : ℕ) → Result A → Type 0
At n m (good a) = Unit {0}
At n m (bad k p) = (k ≡ bad_sheet) × (n ≤ p) × (p < m)

at_if : {A : Type 0} (n m : ℕ) (b : Bool) (x : Result A) {p : ℕ} → n ≤ p → p < m → At n m x → At n m (cond b x (bad bad_sheet p))
at_if n m true x l k h = h
at_if n m false x l k h = (refl, l, k)

at_wider : {A : Type 0} {n m : ℕ} (n' m' : ℕ) (x : Result A) → n' ≤ n → m ≤ m' → At n m x → At n' m' x
at_wider n' m' (good a) l k h = tt
at_wider n' m' (bad j p) l k (e, a, b) = (e, omega arith, omega arith)

judge-at : (e : Bool) (s : State) (n : ℕ) (l : List ℕ) (ls : Lines) → At n (n + suc (length ls)) (judge e s n (l ∷ ls))
unfolding judge
judge-at e s n l [] = at_if n (n + 1) (same l []) (good s) (omega arith) (omega arith) tt
judge-at e s n l (m ∷ ls) =
    let s' = after e s (kind l) in
    at_if n _ (stands e s (kind l)) (judge e s' (n + 1) (m ∷ ls)) (omega arith) (omega arith)
    (at_wider n _ (judge e s' (n + 1) (m ∷ ls)) (omega arith) (omega arith) (judge-at e s' (n + 1) m ls))

agreeing-at : (f : List ℕ) (m : ℕ) → 1 < m → (r : Result State) → At 1 m r → At 1 m (agreeing f r)
unfolding agreeing
agreeing-at f m l (good s) h = at_if 1 m (eqb s.nodes (value 0 (field 3 f)) && leb s.items (value 0 (field 4 f))) (good s) (omega arith) l tt
agreeing-at f m l (bad n p) h = h

judged-at : (e : Bool) (f : List ℕ) (ls : Lines) → At 1 (suc (suc (length ls))) (judged e (f ∷ ls))
unfolding judged
judged-at e f [] = (refl, omega arith, omega arith)
judged-at e f (l ∷ ls) =
    let j = judge e start 2 (l ∷ ls) in
    at_if 1 _ (is_first e f) (agreeing f j) (omega arith) (omega arith) (agreeing-at f _ (omega arith) j (at_wider 1 _ j (omega arith) (omega arith) (judge-at e start 2 l ls)))

answered-at : {A B : Type 0} (g : A → B) (m : ℕ) (r : Result A) → At 1 m r → At 1 m (answered g r)
answered-at g m (good a) h = tt
answered-at g m (bad n p) h = h

placed : (s : List ℕ) → At 1 (suc (length (lines s))) (move s)
unfolding move
placed s = answered-at _ _ (judged (is_second s) (lines s)) (by (lines s) refl)
  where
    by : (ls : Lines) → lines s ≡ ls → At 1 (suc (length ls)) (judged (is_second s) ls)
    by [] e = absurd (some-piece 0x0A s e)
    by (f ∷ ls) e = judged-at (is_second s) f ls

pub move-listed : (s : List ℕ) → Among refusals (move s)
move-listed s = by (suc (length (lines s))) (move s) (placed s)
  where
    by : (m : ℕ) (r : Result (List ℕ)) → At 1 m r → Among refusals r
    by m (good t) h = tt
    by m (bad n p) (e, _, _) = rw e tt

pub move_at : (s : List ℕ) {n p : ℕ} → move s ≡ bad n p → (1 ≤ p) × (p ≤ length (lines s))
move_at s {n} {p} e = let (_, a, b) = subst (At 1 (suc (length (lines s)))) e (placed s) in (a, omega arith)
