-- The types: how what is left of their entries comes to the whole, and what is known of a call that read them.
-- Assumes nothing.
use mathlib.Core.Path.{◌≡◌, refl, sym, ap, ◌∙◌, subst}
use mathlib.Core.List.{List, []}
use Prim.Native.Nat.{ℕ, ◌+◌, ◌-◌, ◌≤◌, ◌<◌}
use native.Mathlib.Omega.{arith}
use Rattle.std.proofs.Common.{Result, Ok, Err}
use Rattle.machine.specs.Machine.{Out, ok, refused, run, times}
use Rattle.machine.proofs.Laws.{and_then, run-times, run-timed}
use Rattle.machine.proofs.Wp.{at_end}
use Rattle.refusals.specs.Reasons.{number_of}
use Rattle.refusals.specs.declared.Refusal.{Refusal}
use Rattle.cursor.specs.declared.Cursor.{Cursor}
use Rattle.cursor.proofs.Leaves.{any_free}
use Rattle.header.specs.Types.{Declared, types_of}
use Rattle.header.specs.Header.{entry}
use Rattle.header.specs.Told.{entry_told, types_told, Listed}
use Rattle.header.proofs.Types.{types-length, types-none}
use Rattle.header.proofs.Ends.{entry-on}

-- ---- the entries, one after the other

pub record Entries (f : List ℕ) (end at count : ℕ) (made : ℕ) (ws : List ℕ) (i : ℕ) : Type 0 where
  pub few : made ≤ 32
  pub same : run (times count (entry end) []) f at ≡ run (times (count - made) (entry end) (types_of made ws)) f i

pub entries-begun : (f : List ℕ) (end at count : ℕ) (ws : List ℕ) → Entries f end at count 0 ws at
entries-begun f end at count ws = let e : count - 0 ≡ count = omega arith in record { few = omega arith; same = rw (types-none, e) refl }

module _ {f : List ℕ} {end at count made : ℕ} {ws : List ℕ} {i : ℕ} (g : Entries f end at count made ws i) where
  pub entries-done : made ≡ count → ok (types_of count ws) i ≡ run (times count (entry end) []) f at
  entries-done z = ap (λ n. ok (types_of n ws) i) (sym z) ∙ sym (g.same ∙ run-timed f (count - made) i (entry end) (types_of made ws) (omega arith))

  module _ (some : made < count) (r : Result Cursor Refusal) (ws' : List ℕ) (d : entry_told r (types_of (made + 1) ws') ≡ run (entry end (types_of made ws)) f i) where
    turn : run (times count (entry end) []) f at ≡ and_then (entry_told r (types_of (made + 1) ws')) (λ t p. run (times (count - (made + 1)) (entry end) t) f p)
    turn =
        let e : count - made - 1 ≡ count - (made + 1) = omega arith in
        rw (← e, d) (g.same ∙ run-times f (count - made) i (entry end) (types_of made ws) (λ z. omega arith))

    pub entries-no : {e : Refusal} → r ≡ Err e → refused (number_of e.0) e.1 ≡ run (times count (entry end) []) f at
    entries-no e = sym (turn ∙ rw e refl)

    pub entries-on : {c : Cursor} → r ≡ Ok c → Entries f end at count (made + 1) ws' c.at.0
    entries-on {c} e =
        let k : run (entry end (types_of made ws)) f i ≡ ok (types_of (made + 1) ws') c.at.0 = sym d ∙ ap (λ x. entry_told x (types_of (made + 1) ws')) e in
        let w = at_end any_free f (entry-on end (types_of made ws) i) k in
        record { few = omega (arith, types-length made ws); same = turn ∙ rw e refl }

-- ---- what is known of a call that read types

module _ (r : Result (ℕ × Cursor) Refusal) (ws : List ℕ) {o : Out (List Declared)} (told : types_told r ws ≡ o) where
  pub types-counted : {n : ℕ} {c : Cursor} → r ≡ Ok (n, c) → o ≡ ok (types_of n ws) c.at.0
  types-counted e = sym told ∙ ap (λ x. types_told x ws) e

  pub types-refused : {e : Refusal} → r ≡ Err e → o ≡ refused (number_of e.0) e.1
  types-refused e = sym told ∙ ap (λ x. types_told x ws) e

pub listed : {r : Result (ℕ × Cursor) Refusal} {n : ℕ} {c : Cursor} → Listed r → r ≡ Ok (n, c) → n ≤ 32
listed h e = subst Listed e h
