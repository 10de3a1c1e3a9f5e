-- The ways out of the call: a 1,001st file, a refused one, and one that is counted. What each comes to: answer, totals and both tables.
-- Assumes nothing.
use Rattle.std.proofs.Common.{Ok, Err}
use Rattle.std.proofs.Common as std
use mathlib.Core.Path.{◌≡◌, refl, sym, ap, ap₂, ◌∙◌, subst}
use mathlib.Core.Bool.{true, false}
use mathlib.Core.List.{List}
use Prim.Native.Nat.{ℕ, ◌*◌, ◌≤◌, ◌<◌}
use native.Mathlib.Omega.{arith}
use lib.Dec.{leb}
use lib.ListN.{length, replicate}
use borrow.Author.Tests.{le-leb, lt-leb}
use Rattle.refusals.specs.Reasons.{number_of}
use Rattle.refusals.specs.declared.Refusal.{Refusal}
use Rattle.refusals.specs.Told.{told}
use Rattle.rows.specs.Rows.{node_width, item_width, nodes_in, items_in, node_at, node_from}
use Rattle.metadata.specs.Tables.{limits}
use Rattle.file.specs.Reading.{read_file, read_of, node_table, item_table}
use Rattle.file.specs.Asking.{Result, good, bad, ask, kept_nodes, kept_items}
use Rattle.file.specs.declared.Summary.{Summary}
use Rattle.rows.proofs.Rows.{node_at_lem, nodes-in_length}
use Rattle.file.proofs.Rows.{Standing, standing}
use Rattle.file.proofs.Exits.{says-unread, says-answer}
use Rattle.account.specs.Account.{kinds_of, counts, events_of}
use Rattle.account.specs.ByRows.{Inside, NodesInside, RowsFit, kinds_by}
use Rattle.account.specs.Totals.{most_files, added, refused_one, one_more, allowed, totals_left}
use Rattle.account.specs.declared.Kinds.{Kinds}
use Rattle.account.specs.declared.Totals.{Totals}
use Rattle.account.proofs.Parts.{Parts, each_at, rows-parts}
use Rattle.account.proofs.Exact.{kinds-are, rows_fit}

-- ---- what the code knows of the rows that were read

module _ (f : List ℕ) (nsize isize : ℕ) {r : std.Result Summary Refusal} {u v : List ℕ} (e : told r ≡ read_of (read_file (limits nsize isize) f)) (a : u ≡ node_table nsize (read_file (limits nsize isize) f))
    (b : v ≡ item_table isize (read_file (limits nsize isize) f)) {s : Summary} (k : r ≡ Ok s) where
  stands : Standing f (read_file (limits nsize isize) f) s u v
  stands = standing f (limits nsize isize) nsize isize e a b k

  pub items-stand : s.items * item_width ≤ length v
  items-stand = stands.item_room

  pub nodes-stand : NodesInside f s.nodes u
  nodes-stand = let w = stands in (
    w.node-room,
    λ i m.
        let len : s.nodes ≡ length w.ns = sym (nodes-in_length u s.nodes) ∙ ap length w.nodes-are in
        let x = w.sound.nodes-inside i (subst (λ n. i < n) len m) in
        let y : node_at w.ns i ≡ node_from u (i * node_width) = ap (λ ns. node_at ns i) (sym w.nodes-are) ∙ node_at_lem u s.nodes i m in
        let p = each_at (Parts f) w.ns (rows-parts f (limits nsize isize) w.reads) i (subst (λ n. i < n) len m) in
        subst (Inside f) y (p.metas, p.unpacks, omega (arith, p.refers, p.fronts), (x.1, w.sound.small)),
  )

  pub rows-stand : RowsFit f s.header_end.0 s.nodes u s.items v
  rows-stand = let w = stands in (
    nodes-stand,
    items-stand,
    rw (ap (λ (y : Summary). y.header_end.0) w.summed, w.nodes-are, w.items-are) (rows_fit (limits nsize isize) f w.reads),
  )

-- ---- the ways out

module _ (f : List ℕ) (nsize isize : ℕ) (t : Totals) where
  -- what the file by itself gives
  abbrev alone : Result Kinds
  alone = ask (read_file (limits nsize isize) f) (kinds_of (limits nsize isize) f)

  -- the answer, the totals, and both tables
  abbrev pub Ends : Result Kinds → Totals → (u v : List ℕ) → Type 0
  Ends a s u v = (a ≡ allowed t alone) ×
      ((s ≡ totals_left t alone) × ((u ≡ kept_nodes nsize (read_file (limits nsize isize) f) (allowed t alone)) ×
      (v ≡ kept_items isize (read_file (limits nsize isize) f) (allowed t alone))))

  pub ends_full : most_files ≤ t.files → {u v : List ℕ} → u ≡ replicate nsize 0 → v ≡ replicate isize 0 → Ends (bad 32 0) t u v
  unfolding allowed totals_left kept_nodes kept_items
  ends_full l a b = let e : leb most_files t.files ≡ true = le-leb most_files t.files l in (rw e refl, (rw e refl, (rw e a, rw e b)))

  module _ (l : t.files < most_files) {r : std.Result Summary Refusal} {u v : List ℕ} (e : told r ≡ read_of (read_file (limits nsize isize) f))
      (a : u ≡ node_table nsize (read_file (limits nsize isize) f)) (b : v ≡ item_table isize (read_file (limits nsize isize) f)) where
    pub ends_unread : {q : Refusal} → r ≡ Err q → {s : Totals} → s ≡ refused_one t → Ends (bad (number_of q.0) q.1) s u v
    unfolding allowed totals_left
    ends_unread k x =
        let w = says-unread nsize isize _ (kinds_of (limits nsize isize) f) e k a b in
        let z : leb most_files t.files ≡ false = lt-leb most_files t.files l in
        (rw z w.0, (rw z (x ∙ ap (one_more t) w.0), (rw z w.1, rw z w.2)))

    pub ends_counted : {s : Summary} → r ≡ Ok s → {kinds : Kinds} → kinds ≡ kinds_by f s.header_end.0 (nodes_in s.nodes u) (items_in s.items v)
        → {s' : Totals} → s' ≡ added t kinds → Ends (good kinds) s' u v
    unfolding allowed totals_left kinds_of
    ends_counted {s} k {kinds} c x =
        let w = stands f nsize isize e a b k in
        let h : kinds ≡ counts (length f) (events_of (limits nsize isize) f w.h) =
        c ∙ ap (λ (y : Summary). kinds_by f y.header_end.0 (nodes_in s.nodes u) (items_in s.items v)) w.summed
        ∙ ap₂ (kinds_by f w.h.extent.end) w.nodes-are w.items-are ∙ kinds-are (limits nsize isize) f w.reads in
        let y = says-answer nsize isize _ (kinds_of (limits nsize isize) f) w.reads (ap good (sym h)) a b in
        let z : leb most_files t.files ≡ false = lt-leb most_files t.files l in
        (rw z y.0, (rw z (x ∙ ap (one_more t) y.0), (rw z y.1, rw z y.2)))
