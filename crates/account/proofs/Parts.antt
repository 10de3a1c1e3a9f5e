-- The parts of each node of an accepted file follow each other, up to its contents; so sums over parts are sums over what they make.
-- Assumes nothing.
use mathlib.Core.Path.{◌≡◌, subst}
use mathlib.Core.List.{List, [], ◌∷◌, ◌++◌}
use Prim.Native.Nat.{ℕ, zero, suc, ◌+◌, ◌-◌, ◌≤◌, ◌<◌}
use native.Mathlib.Omega.{arith}
use lib.ListN.{length}
use Rattle.machine.specs.Machine.{rows_of}
use Rattle.machine.proofs.Laws.{rows_on}
use Rattle.machine.proofs.Wp.{at_end}
use Rattle.cursor.specs.Rows.{Events}
use Rattle.cursor.specs.declared.Node.{Node}
use Rattle.cursor.specs.declared.Item.{Item}
use Rattle.cursor.proofs.Leaves.{any_free}
use Rattle.header.specs.Header.{Header}
use Rattle.metadata.specs.declared.Limits.{Limits}
use Rattle.rows.specs.Rows.{node_of, nodes_of, node_at}
use Rattle.file.specs.Reading.{rows, read_file}
use Rattle.file.proofs.Follow.{read_back}
use Rattle.file_laws.proofs.EachNode.{OfRow, own_row, by_nodes}
use Rattle.account.specs.Account.{sum_over}
use Rattle.account.specs.ByRows.{meta_at, meta_end, contents_at, front_size}
use Rattle.account.proofs.Front.{front_ordered, front-spends}
use Rattle.account.proofs.ByRows.{reference-told, front-reference, front_is_all, contents-at}

pub record Parts (f : List ℕ) (r : Node) : Type 0 where
  pub numbers : r.start ≤ meta_at f r
  pub metas : meta_at f r < meta_end f r
  pub unpacks : meta_end f r < r.start + r.header
  pub refers : r.start + r.header < contents_at r
  pub fronts : contents_at r ≡ r.start + front_size r

-- ---- each row of a list

abbrev pub Each : (Node → Type 0) → List Node → Type 0
Each Q [] = Unit {0}
Each Q (r ∷ rs) = Q r × Each Q rs

module _ (Q : Node → Type 0) where
  each_on : (ns ms : List Node) → Each Q ns → Each Q ms → Each Q (ns ++ ms)
  each_on [] ms a b = b
  each_on (r ∷ ns) ms a b = (a.0, each_on ns ms a.1 b)

  pub each_at : (ns : List Node) → Each Q ns → (i : ℕ) → i < length ns → Q (node_at ns i)
  each_at [] a i l = absurd (omega arith)
  each_at (r ∷ ns) a zero l = a.0
  each_at (r ∷ ns) a (suc i) l = each_at ns a.1 i (omega arith)

-- ---- of an accepted file

module _ (f : List ℕ) where
  abbrev Have : Events → Type 0
  Have es = Each (Parts f) (nodes_of es)

  have_none : Have []
  unfolding rows_of
  have_none = tt

  have_on : (es fs : Events) → Have es → Have fs → Have (es ++ fs)
  have_on es fs a b = rw (rows_on node_of es fs) (each_on (Parts f) (nodes_of es) (nodes_of fs) a b)

  own-parts : OfRow Have have_none have_on f
  own-parts x parent depth s m at w q e body b v r =
      let z = front_ordered x parent depth s m f at e in let y = front-spends x parent depth s m f at e in
      let t = at_end any_free f (reference-told x.header_end x.size z.is.h.contained (at + z.is.h.size.0) z.is.left.p) z.is.left.referred in
      let h = front-reference x parent depth s m f at e body r in
      let c = contents-at x parent depth s m f at e body r in
      let o = front_is_all f w.row q h (omega (arith, z.header-end, t.0)) in
      rw (own_row x parent depth s m f at e) (
        record {
          numbers = omega (arith, y.frames);
          metas = omega (arith, z.meta_at, z.meta_end, z.apart.0);
          unpacks = omega (arith, z.meta_end, z.header-end, z.apart.1);
          refers = omega (arith, z.header-end, t.0);
          fronts = omega (arith, o);
        },
        tt,
      )

  pub rows-parts : (lim : Limits) {h : Header} {ns : List Node} {is : List Item} → read_file lim f ≡ rows h ns is → Each (Parts f) ns
  rows-parts lim {h} r = let a = read_back lim f r in subst (Each (Parts f)) a.nodes-are (by_nodes Have have_none have_on f own-parts lim h a)

  -- ---- sums

  pub headers_sum : (ns : List Node) → Each (Parts f) ns → sum_over (λ r. r.header) ns
      ≡ sum_over (λ r. meta_at f r - r.start) ns + sum_over (λ r. meta_end f r - meta_at f r) ns + sum_over (λ r. r.start + r.header - meta_end f r) ns
  headers_sum [] a = omega arith
  headers_sum (r ∷ ns) a = let h = headers_sum ns a.1 in let p = a.0 in omega (arith, p.numbers, p.metas, p.unpacks)

  pub fronts_sum : (ns : List Node) → Each (Parts f) ns → sum_over front_size ns ≡ sum_over (λ r. r.header) ns + sum_over (λ r. contents_at r - (r.start + r.header)) ns
  fronts_sum [] a = omega arith
  fronts_sum (r ∷ ns) a = let h = fronts_sum ns a.1 in let p = a.0 in omega (arith, p.refers, p.fronts)
