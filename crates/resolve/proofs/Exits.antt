-- The ways out of the question: what each exit of the code comes to, answer and both tables.
-- Assumes nothing.
use mathlib.Core.Path.{◌≡◌, sym, ap, ap₂, subst, ◌∙◌}
use mathlib.Core.List.{List, []}
use Prim.Native.Nat.{ℕ, ◌+◌, ◌*◌, ◌-◌, ◌≤◌}
use native.Mathlib.Omega.{arith}
use lib.ListN.{length, replicate, take, drop}
use Rattle.std.proofs.Common.{Ok, Err}
use Rattle.std.proofs.Common as std
use Rattle.refusals.specs.Reasons.{number_of}
use Rattle.refusals.specs.declared.Refusal.{Refusal}
use Rattle.rows.specs.Rows.{node_width, nodes_in, tree_rows, Rising}
use Rattle.metadata.specs.Tables.{limits}
use Rattle.refusals.specs.Told as refusals
use Rattle.file.specs.Reading.{read_file, read_of, node_table, item_table}
use Rattle.file.specs.Asking.{Result, bad, ask}
use Rattle.file.specs.declared.Summary.{Summary}
use Rattle.rows.proofs.Rows.{in_front}
use Rattle.file.proofs.Rows.{Standing, standing}
use Rattle.file.proofs.Exits.{Says, says-unread, says-refused, says-answer}
use Rattle.file.proofs.TreeRows.{tree-few, rows-rise}
use Rattle.resolve.specs.Resolve.{Resource, resolve_row, resolve, part}
use Rattle.resolve.specs.Told.{told, Linked}
use Rattle.resolve.specs.declared.Resolved.{Resolved}
use Rattle.resolve.proofs.Accepted.{linked, resolved_in}

-- the answer, and both tables
abbrev pub Ends : (f : List ℕ) (nsize isize row : ℕ) → Result Resource → (t u : List ℕ) → Type 0
Ends f nsize isize row a t u = Says nsize isize (read_file (limits nsize isize) f) (resolve row f) a t u

module _ (f : List ℕ) (nsize isize row : ℕ) {r : std.Result Summary Refusal} {t u : List ℕ} (e : refusals.told r ≡ read_of (read_file (limits nsize isize) f))
    (a : t ≡ node_table nsize (read_file (limits nsize isize) f)) (b : u ≡ item_table isize (read_file (limits nsize isize) f)) where
  pub ends_unread : {x : Refusal} → r ≡ Err x → Ends f nsize isize row (bad (number_of x.0) x.1) t u
  ends_unread k = says-unread nsize isize _ (resolve row f) e k a b

  module _ {s : Summary} (k : r ≡ Ok s) where
    stands : Standing f (read_file (limits nsize isize) f) s t u
    stands = standing f (limits nsize isize) nsize isize e a b k

    pub rows-linked : Linked (nodes_in s.nodes t)
    rows-linked = let w = stands in rw w.nodes-are (linked (limits nsize isize) f w.reads)

    pub rows-room : s.nodes * node_width ≤ length t
    rows-room = stands.node-room

    pub tree-among : s.tree ≤ s.nodes
    tree-among = let w = stands in let z = w.summed in let a = tree-few w.ns in rw z (omega arith)

    pub rows-rising : Rising (nodes_in s.tree t)
    rows-rising =
        let w = stands in
        let e : s.tree ≡ tree_rows w.ns = ap (λ (x : Summary). x.tree) w.summed in
        subst Rising (sym (in_front t s.tree s.nodes tree-among ∙ ap₂ take e w.nodes-are)) (rows-rise (limits nsize isize) f w.reads)

    module _ (x : std.Result Resolved Refusal) (y : told x ≡ resolve_row row (nodes_in s.nodes t)) where
      answered : told x ≡ resolve row f stands.h stands.ns stands.is
      unfolding resolve
      answered = y ∙ ap (resolve_row row) stands.nodes-are

      pub ends_refused : {v : Refusal} → x ≡ Err v → {t' u' : List ℕ} → t' ≡ replicate nsize 0 → u' ≡ replicate isize 0
          → Ends f nsize isize row (bad (number_of v.0) v.1) t' u'
      ends_refused z c d = says-refused nsize isize _ (resolve row f) stands.reads (sym answered ∙ ap told z) c d

      pub ends_at : {v : Resolved} → x ≡ Ok v → Ends f nsize isize row (told (Ok v)) t u
      ends_at z = says-answer nsize isize _ (resolve row f) stands.reads (sym answered ∙ ap told z) a b

-- ---- the part of the file

module _ (f : List ℕ) (x : std.Result Resolved Refusal) {o : Result Resource} (y : told x ≡ o) where
  pub part_none : {v : Refusal} → x ≡ Err v → [] ≡ part f o
  unfolding part
  part_none z = ap (part f) (ap told (sym z) ∙ y)

  pub part_at : {v : Resolved} → x ≡ Ok v → take (v.place.0 + v.size - v.place.0) (drop v.place.0 f) ≡ part f o
  unfolding part
  part_at {v} z = let e : v.place.0 + v.size - v.place.0 ≡ v.size = omega arith in ap (λ n. take n (drop v.place.0 f)) e ∙ ap (part f) (ap told (sym z) ∙ y)

-- it lies in the file
pub part-inside : (f : List ℕ) (nsize isize row : ℕ) (x : std.Result Resolved Refusal) → told x ≡ ask (read_file (limits nsize isize) f) (resolve row f) → {v : Resolved}
    → x ≡ Ok v → v.place.0 + v.size ≤ length f
part-inside f nsize isize row x y z = resolved_in (limits nsize isize) f row (ap told (sym z) ∙ y)
