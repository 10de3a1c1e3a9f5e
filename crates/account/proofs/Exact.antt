-- The code's way gives the counts of the definition, and no sum is greater than what it is taken out of.
-- Assumes nothing.
use mathlib.Core.Path.{◌≡◌, refl}
use mathlib.Core.List.{List, [], ◌∷◌}
use Prim.Native.Nat.{ℕ, ◌+◌, ◌*◌, ◌-◌, ◌%◌}
use native.Mathlib.Omega.{arith}
use lib.ListN.{length}
use Rattle.cursor.specs.Rows.{inline_size}
use Rattle.cursor.specs.declared.Node.{Node}
use Rattle.cursor.specs.declared.Item.{Item}
use Rattle.header.specs.Header.{Header}
use Rattle.metadata.specs.declared.Limits.{Limits}
use Rattle.file.specs.Reading.{rows, read_file}
use Rattle.file.proofs.Rows.{accepted}
use Rattle.account.specs.Account.{counts, events_of, sum_over}
use Rattle.account.specs.ByRows.{meta_at, meta_end, front_size, with_node, with_item, folded, none, nothing, in_nodes, in_items, together, kinds_by, SmallFrames, SmallData, Fits}
use Rattle.account.specs.declared.Kinds.{Kinds}
use Rattle.account.specs.declared.Frames.{Frames}
use Rattle.account.specs.declared.Data.{Data}
use Rattle.account.proofs.Parts.{rows-parts, headers_sum, fronts_sum}
use Rattle.account.proofs.Whole.{both-data, hidden_data_lem, rows-count}

-- ---- a field of what is folded is a sum over the rows

module _ {S A : Type 0} (add : S → A → S) (get : S → ℕ) (c : A → ℕ) (step : (s : S) (r : A) → get (add s r) ≡ get s + c r) where
  folds : (rs : List A) (s : S) → get (folded add s rs) ≡ get s + sum_over c rs
  unfolding folded
  folds [] s = omega arith
  folds (r ∷ rs) s = let e = step s r in let h = folds rs (add s r) in omega arith

module _ (f : List ℕ) (ns : List Node) (k : Frames) where
  record Summed (s : Frames) : Type 0 where
    nodes : s.nodes ≡ k.nodes + sum_over (λ r. meta_at f r - r.start) ns
    metadata : s.metadata ≡ k.metadata + sum_over (λ r. meta_end f r - meta_at f r) ns
    headers : s.headers ≡ k.headers + sum_over (λ r. r.header) ns
    fronts : s.fronts ≡ k.fronts + sum_over front_size ns
    inline : s.inline ≡ k.inline + sum_over inline_size ns

  summed : Summed (folded (with_node f) k ns)
  summed = record {
    nodes = folds (with_node f) (λ k. k.nodes) _ (λ k r. refl) ns k;
    metadata = folds (with_node f) (λ k. k.metadata) _ (λ k r. refl) ns k;
    headers = folds (with_node f) (λ k. k.headers) _ (λ k r. refl) ns k;
    fronts = folds (with_node f) (λ k. k.fronts) _ (λ k r. refl) ns k;
    inline = folds (with_node f) (λ k. k.inline) _ (λ k r. refl) ns k;
  }

  -- so what is on the way to small sums is small
  pub small-frames : SmallFrames (folded (with_node f) k ns) → SmallFrames k
  small-frames l =
      let s = summed in
      (omega (arith, s.nodes), omega (arith, s.metadata), omega (arith, s.headers), omega (arith, s.fronts), omega (arith, s.inline))

module _ (is : List Item) (d : Data) where
  data_summed : ((folded with_item d is).all ≡ d.all + sum_over (λ r. r.size) is) × ((folded with_item d is).hidden ≡ d.hidden + sum_over (λ r. r.format % 2 * r.size) is)
  data_summed = (folds with_item (λ d. d.all) _ (λ d r. refl) is d, folds with_item (λ d. d.hidden) _ (λ d r. refl) is d)

  pub small-data : SmallData (folded with_item d is) → SmallData d
  small-data l = let (a, b) = data_summed in (omega arith, omega arith)

-- ---- the whole

nine : {a b c d e f g h i a' b' c' d' e' f' g' h' i' : ℕ} → a ≡ a' → b ≡ b' → c ≡ c' → d ≡ d' → e ≡ e' → f ≡ f' → g ≡ g' → h ≡ h' → i ≡ i'
    → ◌≡◌ {A = Kinds} (record { header = a; nodes = b; metadata = c; visible = d; hidden = e; unpackers = f; references = g; inline = h; rest = i })
    (record { header = a'; nodes = b'; metadata = c'; visible = d'; hidden = e'; unpackers = f'; references = g'; inline = h'; rest = i' })
nine x₀ x₁ x₂ x₃ x₄ x₅ x₆ x₇ x₈ = cc

module _ (lim : Limits) (f : List ℕ) {h : Header} {ns : List Node} {is : List Item} (r : read_file lim f ≡ rows h ns is) where
  abbrev c : Kinds
  c = counts (length f) (events_of lim f h)

  record Sums (k : Frames) (d : Data) : Type 0 where
    nodes : k.nodes ≡ c.nodes
    metadata : k.metadata ≡ c.metadata + c.visible + c.hidden
    headers : k.headers ≡ k.nodes + k.metadata + c.unpackers
    fronts : k.fronts ≡ k.headers + c.references
    inline : k.inline ≡ c.inline
    hidden : d.hidden ≡ c.hidden
    all : d.all ≡ c.visible + c.hidden

  sums : Sums (in_nodes f ns) (in_items is)
  sums =
      let s = summed f ns none in let (a, b) = data_summed is nothing in let R = rows-count lim f r in
      let p = rows-parts f lim r in
      record {
        nodes = omega (arith, s.nodes, R.frames);
        metadata = omega (arith, s.metadata, R.metas);
        headers = omega (arith, s.nodes, s.metadata, s.headers, R.unpacks, headers_sum f ns p);
        fronts = omega (arith, s.headers, s.fronts, R.refs, fronts_sum f ns p);
        inline = omega (arith, s.inline, R.inlines);
        hidden = omega (arith, R.hidden, hidden_data_lem is);
        all = omega (arith, R.visible, R.hidden, both-data is);
      }

  pub kinds-are : kinds_by f h.extent.end ns is ≡ c
  unfolding kinds_by
  kinds-are = by (in_nodes f ns) (in_items is) sums
    where
      by : (k : Frames) (d : Data) → Sums k d → together (length f) h.extent.end k d ≡ c
      by k d s = let R = rows-count lim f r in
          nine (omega (arith, R.headers)) s.nodes (omega (arith, s.metadata, s.all)) (omega (arith, s.all, s.hidden)) s.hidden
          (omega (arith, s.headers)) (omega (arith, s.fronts)) s.inline
          (omega (arith, s.inline, s.fronts, s.headers, s.metadata, s.nodes, R.headers, R.total))

  pub rows_fit : Fits (length f) h.extent.end (in_nodes f ns) (in_items is)
  rows_fit = by (in_nodes f ns) (in_items is) sums
    where
      by : (k : Frames) (d : Data) → Sums k d → Fits (length f) h.extent.end k d
      by k d s = let R = rows-count lim f r in (
        omega (arith, s.headers),
        omega (arith, s.fronts),
        omega (arith, s.inline, s.fronts, s.headers, s.metadata, s.nodes, R.headers, R.total),
        omega (arith, s.all, s.hidden),
        omega (arith, s.all, s.metadata),
        (accepted lim f r).small,
      )
