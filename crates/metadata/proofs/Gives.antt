-- What is known of a call whose answer is known, and how a contract is met.
-- Assumes nothing.
use mathlib.Core.Path.{◌≡◌, sym, ap, ◌∙◌, subst}
use mathlib.Core.List.{List}
use Prim.Native.Nat.{ℕ, ◌≤◌}
use Rattle.std.proofs.Common.{Result, Ok, Err}
use Rattle.machine.specs.Machine.{Out, ok, refused}
use Rattle.refusals.specs.Reasons.{number_of}
use Rattle.refusals.specs.declared.Refusal.{Refusal}
use Rattle.cursor.specs.declared.Cursor.{Cursor}
use Rattle.metadata.specs.Tables.{State, state}
use Rattle.metadata.specs.Told.{told, Fits, Gives}
use Rattle.metadata.specs.declared.Limits.{Limits}
use Rattle.metadata.specs.declared.Made.{Made}

module _ {lim : Limits} {r : Result (Made × Cursor) Refusal} {t u : List ℕ} {o : Out (Made × State)} (g : Gives lim r t u o) where
  pub done : {m : Made} {c : Cursor} → r ≡ Ok (m, c) → o ≡ ok (m, state t u m) c.at.0
  done e = sym g.answer ∙ ap (λ x. told x t u) e

  pub stopped : {e : Refusal} → r ≡ Err e → o ≡ refused (number_of e.0) e.1
  stopped e = sym g.answer ∙ ap (λ x. told x t u) e

  pub fitting : {m : Made} {c : Cursor} → r ≡ Ok (m, c) → (m.nodes ≤ lim.nodes) × (m.items ≤ lim.items)
  fitting e = subst (Fits lim) e g.fits

module _ {lim : Limits} {t u : List ℕ} {o : Out (Made × State)} where
  pub no : {e : Refusal} → refused (number_of e.0) e.1 ≡ o → Gives lim (Err e) t u o
  no e = record { answer = e; fits = tt }

  pub yes : {m : Made} {c : Cursor} → ok (m, state t u m) c.at.0 ≡ o → (m.nodes ≤ lim.nodes) × (m.items ≤ lim.items) → Gives lim (Ok (m, c)) t u o
  yes e f = record { answer = e; fits = f }

-- a call that does what is left
pub along : {lim : Limits} {r : Result (Made × Cursor) Refusal} {t u : List ℕ} {o o' : Out (Made × State)} → o' ≡ o → Gives lim r t u o → Gives lim r t u o'
along e g = rw e g
