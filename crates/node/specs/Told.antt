-- What the code's answers say.
-- Assumes nothing.
use Rattle.std.specs.Prelude.{◌≡◌, Result, Ok, Err, Bool, true, false, List, ℕ, ◌+◌, ◌≤◌, length}
use Rattle.machine.specs.Machine.{Out, ok, refused, run, exec}
use Rattle.refusals.specs.Reasons.{number_of}
use Rattle.refusals.specs.declared.Refusal.{Refusal}
use Rattle.cursor.specs.Told.{read_told}
use Rattle.cursor.specs.declared.Cursor.{Cursor}
use Rattle.metadata.specs.Tables.{State, state, put}
use Rattle.metadata.specs.Told.{context_of}
use Rattle.metadata.specs.declared.Made.{Made}
use Rattle.metadata.specs.declared.Scope.{Scope}
use Rattle.metadata.specs.declared.Limits.{Limits}
use Rattle.node.specs.declared.Bounds.{Bounds}
use Rattle.node.specs.declared.Head.{Head}
use Rattle.node.specs.declared.Unpackers.{Unpackers}
use Rattle.node.specs.declared.Reference.{Reference}
use Rattle.node.specs.Node.{unpacker, Rest, front}
use Rattle.node.specs.declared.Front.{Front}

abbrev pub head_told : Result (Head × Cursor) Refusal → Out Head
head_told = read_told

-- where the answer is yes, the three bytes at `at` are a whole unpacker
abbrev pub CommonTold : Bool → (f : List ℕ) → (end at : ℕ) → Type 0
CommonTold true f end at = (at + 3 ≤ end) × ((n : ℕ) → run (unpacker end n) f at ≡ ok (n + 1) (at + 3))
CommonTold false f end at = Unit {0}

-- an unpacker that was read is one more
abbrev pub unpacker_told : Result Cursor Refusal → ℕ → Out ℕ
unpacker_told (Ok c) n = ok (n + 1) c.at.0
unpacker_told (Err r) n = refused (number_of r.0) r.1

abbrev pub unpackers_told : Result (Unpackers × Cursor) Refusal → Out Unpackers
unpackers_told = read_told

abbrev pub reference_told : Result (Reference × Cursor) Refusal → Out Reference
reference_told = read_told

abbrev pub rest_told : Result (Unpackers × Reference × Cursor) Refusal → Out Rest
rest_told (Ok (u, r, c)) = ok (record { unpackers = u; reference = r }) c.at.0
rest_told (Err r) = refused (number_of r.0) r.1

abbrev pub front_told : Result (Front × Cursor) Refusal → List ℕ → List ℕ → Out (Front × State)
front_told (Ok (w, c)) t u = ok (w, state t u w.made) c.at.0
front_told (Err r) t u = refused (number_of r.0) r.1

abbrev pub FrontFits : Limits → Result (Front × Cursor) Refusal → Type 0
FrontFits lim (Ok (w, c)) = (w.made.nodes ≤ lim.nodes) × (w.made.items ≤ lim.items)
FrontFits lim (Err r) = Unit {0}

-- what a call answered and left in the tables is o, and no more rows are made than there is room for
pub record Fronts (lim : Limits) (r : Result (Front × Cursor) Refusal) (t u : List ℕ) (o : Out (Front × State)) : Type 0 where
  pub answer : front_told r t u ≡ o
  pub fits : FrontFits lim r

-- a node up to its contents, from `at` on, over tables
abbrev pub front_run : Scope → (types file : List ℕ) → (parent depth : ℕ) → Bounds → Made → (at : ℕ) → State → Out (Front × State)
front_run scope types file parent depth s made at σ = exec put (front (context_of scope types (length file)) parent depth s made) file at σ

-- whatever the node table holds, which is not touched
abbrev pub FrontTold : (State → Out (Front × State)) → Made → Limits → Result (Front × Cursor) Refusal → (items items' : List ℕ) → Type 0
FrontTold go made lim r items items' = (t : List ℕ) → Fronts lim r t items' (go (state t items made))
