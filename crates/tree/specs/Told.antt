-- What a call that reads nodes answers and leaves in the tables.
-- Assumes nothing.
use Rattle.std.specs.Prelude.{Result, List, ℕ, length}
use Rattle.machine.specs.Machine.{exec}
use Rattle.refusals.specs.declared.Refusal.{Refusal}
use Rattle.cursor.specs.Rows.{P}
use Rattle.cursor.specs.declared.Cursor.{Cursor}
use Rattle.metadata.specs.Tables.{put, state}
use Rattle.metadata.specs.Metadata.{Context}
use Rattle.metadata.specs.Told.{context_of, Gives}
use Rattle.metadata.specs.declared.Made.{Made}
use Rattle.metadata.specs.declared.Scope.{Scope}

-- from place `at` on, with the rows `made` before it, the tables t and u before it and t' and u' after it: what the program p gives from there, in the context of the call
abbrev pub Reads : Scope → (p : Context → P Made) → (file types : List ℕ) → (at : ℕ) → (made : Made) → (t u t' u' : List ℕ) → Result (Made × Cursor) Refusal → Type 0
Reads scope p file types at made t u t' u' r = Gives scope.limits r t' u' (exec put (p (context_of scope types (length file))) file at (state t u made))
