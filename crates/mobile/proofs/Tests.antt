-- What is asked of one row, from the tests of its words.
-- Assumes nothing.
use mathlib.Core.Path.{◌≡◌, refl, sym, ap, ◌∙◌}
use mathlib.Core.Bool.{true, false}
use mathlib.Core.List.{List}
use Prim.Native.Nat.{ℕ, ◌*◌, ◌≤◌, ◌<◌}
use native.Mathlib.Omega.{arith}
use lib.ListN.{drop}
use borrow.Author.Tests.{eq-eqb, ne_eqb, le-leb, lt-leb}
use Rattle.cursor.specs.declared.Node.{Node}
use Rattle.cursor.specs.declared.Item.{Item}
use Rattle.rows.specs.Rows.{node_width, node_from, nodes_in, node_at, rows_from}
use Rattle.rows.proofs.Rows.{node_at_lem}
use Rattle.mobile.specs.Mobile.{all, is_file, files_only, is_plain, plain_references, is_unpacked, no_unpackers, is_short, field_size, is_small}

-- ---- node rows

module _ (r : Node) where
  pub file-no : ((r.contained ≡ 0) → ⊥) → is_file r ≡ false
  unfolding is_file
  file-no n = ne_eqb _ _ n

  pub file-yes : r.contained ≡ 0 → is_file r ≡ true
  unfolding is_file
  file-yes e = eq-eqb _ _ e

  pub unpacked_no : ((r.unpacker_count ≡ 0) → ⊥) → is_unpacked r ≡ false
  unfolding is_unpacked
  unpacked_no n = ne_eqb _ _ n

  pub unpacked_yes : r.unpacker_count ≡ 0 → is_unpacked r ≡ true
  unfolding is_unpacked
  unpacked_yes e = eq-eqb _ _ e

  pub short-no : 65535 < r.header → is_short r ≡ false
  unfolding is_short
  short-no l = lt-leb _ _ l

  pub short-yes : r.header ≤ 65535 → is_short r ≡ true
  unfolding is_short
  short-yes l = le-leb _ _ l

pub plain-are : (ns : List Node) → plain_references ns ≡ all is_plain ns
unfolding plain_references
plain-are ns = refl

pub unpackers-are : (ns : List Node) → no_unpackers ns ≡ all is_unpacked ns
unfolding no_unpackers
unpackers-are ns = refl

-- the root, before the other rows are looked at
pub root_none : (ws : List ℕ) (n : ℕ) → n ≡ 0 → false ≡ files_only (nodes_in n ws)
unfolding files_only is_file nodes_in rows_from
root_none ws n e = rw e

module _ (ws : List ℕ) (n : ℕ) (l : 0 < n) {r : Node} (e : r ≡ node_from ws (0 * node_width)) where
  root_is : node_at (nodes_in n ws) 0 ≡ r
  root_is = node_at_lem ws n 0 l ∙ sym e

  pub root_file : r.contained ≡ 0 → false ≡ files_only (nodes_in n ws)
  unfolding files_only
  root_file h = let x : is_file (node_at (nodes_in n ws) 0) ≡ true = ap is_file root_is ∙ file-yes r h in simp x

  pub root_folder : ((r.contained ≡ 0) → ⊥) → files_only (nodes_in n ws) ≡ all is_file (drop 1 (nodes_in n ws))
  unfolding files_only
  root_folder h = let x : is_file (node_at (nodes_in n ws) 0) ≡ false = ap is_file root_is ∙ file-no r h in simp x

-- ---- item rows

module _ (r : Item) {v : ℕ} (h : v ≡ field_size r) where
  pub small-no : 256 < v → is_small r ≡ false
  unfolding is_small
  small-no l = lt-leb (field_size r) 256 (omega arith)

  pub small-yes : v ≤ 256 → is_small r ≡ true
  unfolding is_small
  small-yes l = le-leb (field_size r) 256 (omega arith)
