-- What a call is lent, what the answer says, rows that stand in the tables, and what following them leaves there.
-- Assumes nothing.
use Rattle.std.specs.Prelude.{◌≡◌, Ok, Err, List, ℕ, ◌+◌, ◌*◌, ◌^◌, ◌≤◌, ◌<◌, length, take}
use Rattle.std.specs.Prelude as std
use Rattle.machine.specs.Machine.{Out, exec, puts}
use Rattle.refusals.specs.Reasons.{number_of}
use Rattle.refusals.specs.declared.Refusal.{Refusal}
use Rattle.cursor.specs.Rows.{Events}
use Rattle.cursor.specs.declared.Cursor.{Cursor}
use Rattle.header.specs.declared.Header.{Header}
use Rattle.header.specs.Told.{header_of}
use Rattle.metadata.specs.Tables.{State, state, put}
use Rattle.rows.specs.Rows.{node_width, item_width, nodes_in, nodes_of, node_at, tree_rows, Rising}
use Rattle.metadata.specs.declared.Limits.{Limits}
use Rattle.metadata.specs.declared.Made.{Made}
use Rattle.metadata.specs.Told.{Fits}
use Rattle.tree.specs.Tree.{tree}
use Rattle.targets.specs.declared.Span.{Span}
use Rattle.targets.specs.Told.{Spanned}
use Rattle.file.specs.Reading.{Result, good, bad, context}
use Rattle.file.specs.Asking.{Counts}
use Rattle.file.specs.declared.Tree.{Tree}

abbrev pub told : std.Result Tree Refusal → Result Counts
told (Ok t) = good (record { version = t.version; nodes = t.nodes; items = t.items })
told (Err r) = bad (number_of r.0) r.1

-- what is lent to a call that reads by the header h: the tree lies in the file, the declared types stand in their table, and both tables hold as many rows as there may be
pub record Lent (h : Header) (lim : Limits) (file types nodes items : List ℕ) : Type 0 where
  pub last-in : h.extent.last.0 < length file
  pub start-in : h.extent.start.0 ≤ length file
  pub short : length file < 2 ^ 28
  pub types-in : h.types * 2 ≤ length types
  pub nodes-in : lim.nodes * node_width ≤ length nodes
  pub items-in : lim.items * item_width ≤ length items

-- what reading the tree answers, and what it leaves in the tables
abbrev pub tree_run : Header → Limits → (types file nodes items : List ℕ) → Out (Made × State)
tree_run h lim types file nodes items =
    exec put (tree (context lim (header_of h types) (length file)) (h.extent.last.0 + 1)) file h.extent.start.0 (state nodes items (record { nodes = 0; items = 0 }))

-- the log's first `tree` rows are the tree's, and rise
pub record TreeFirst (tree : ℕ) (log : Events) : Type 0 where
  pub tree_is : tree_rows (nodes_of log) ≡ tree
  pub rising : Rising (take tree (nodes_of log))

-- The tables t and u are what the log left there, from the state σ on, and its first `tree` rows are the tree's.
pub record Stands (lim : Limits) (size : ℕ) (σ : State) (log : Events) (tree : ℕ) (t u : List ℕ) (m : Made) : Type 0 where
  pub empty : σ.made ≡ record { nodes = 0; items = 0 }
  pub fills : puts put log σ ≡ state t u m
  pub fits : (m.nodes ≤ lim.nodes) × (m.items ≤ lim.items)
  pub long : (length t ≡ length σ.nodes) × (length u ≡ length σ.items)
  pub inside : (i : ℕ) → i < length (nodes_of log) → ((node_at (nodes_of log) i).header ≤ (node_at (nodes_of log) i).size) × ((node_at (nodes_of log) i).start + (node_at (nodes_of log) i).size ≤ size)
  pub first : TreeFirst tree log

-- they are what some log left there
abbrev pub Stand : Limits → (size tree : ℕ) → (t u : List ℕ) → Made → Type 0
Stand lim size tree t u m = (σ : State) × (log : Events) × Stands lim size σ log tree t u m

-- they do, row i is among them, and the span says where the detached nodes of the others lie
abbrev pub CanFollow : Header → Limits → (file types nodes items : List ℕ) → (tree i : ℕ) → Made → Span → Type 0
CanFollow h lim file types nodes items tree i made span =
    Lent h lim file types nodes items × (i < made.nodes) × Stand lim (length file) tree nodes items made × Spanned tree (length file) (nodes_in made.nodes nodes) span

-- what a call says that followed rows: the log's refusal; or its counts, with the tables as the log leaves them
abbrev pub said : std.Result (Made × Cursor) Refusal → List ℕ → List ℕ → Result State
said (Ok (m, c)) t u = good (state t u m)
said (Err r) t u = bad (number_of r.0) r.1

abbrev pub left : State → Result Events → Result State
left σ (good log) = good (puts put log σ)
left σ (bad n p) = bad n p

pub record Leaves (lim : Limits) (σ : State) (r : std.Result (Made × Cursor) Refusal) (t u : List ℕ) (o : Result Events) : Type 0 where
  pub answer : said r t u ≡ left σ o
  pub fits : Fits lim r

-- from every log that left the tables t and u, it goes on to what `next` gives, and the tables are then t' and u'
abbrev pub Follows : Limits → (file : List ℕ) → (tree : ℕ) → Made → (t u t' u' : List ℕ) → std.Result (Made × Cursor) Refusal → (next : Events → Result Events) → Type 0
Follows lim file tree made t u t' u' r next = (σ : State) (log : Events) → Stands lim (length file) σ log tree t u made → Leaves lim σ r t' u' (next log)
