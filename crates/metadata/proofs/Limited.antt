-- A node's metadata under smaller limits.
-- Assumes nothing.
use mathlib.Core.Path.{◌≡◌}
use Prim.Native.Nat.{ℕ, ◌+◌, ◌≤◌}
use native.Mathlib.Omega.{arith}
use Rattle.machine.specs.Machine.{place}
use Rattle.cursor.proofs.Uses.{number-uses, block-uses, block_with}
use Rattle.cursor.proofs.Limited.{node, item, Rows, makes-then, makes-check, makes-row, Limited, after, then_rowless, ends, places, checks, row-checks, passes, repeats, counts}
use Rattle.header.specs.Types.{format_of}
use Rattle.metadata.specs.Metadata as spec
use Rattle.metadata.specs.Metadata.{Context, universal, version, rows_for, next_item, meta_items, metadata}
use Rattle.metadata.specs.declared.Limits.{Limits}
use Rattle.metadata.specs.declared.Made.{Made}
use Rattle.metadata.specs.declared.Label.{Label}
use Rattle.metadata.specs.declared.Contents.{Contents}
use Rattle.metadata.specs.declared.Contents.TheVariants.{Universal, Versions}
use Rattle.metadata.proofs.Uses.{frame-uses, format-uses}

-- the limits by the kind of row
abbrev pub room : Limits → Rows
room lim node = lim.nodes
room lim item = lim.items

-- m counts the rows made: k node rows, and item rows that are no more than the limit
abbrev pub Items : Limits → ℕ → Made → Rows → Type 0
Items lim k m c = (m.nodes ≡ k) × (c node ≡ k) × (m.items ≡ c item) × (c item ≤ lim.items)

-- limits that are not greater
pub record Less (lim most : Limits) : Type 0 where
  pub nodes : lim.nodes ≤ most.nodes
  pub items : lim.items ≤ most.items

-- a context but for its limits
abbrev pub under : Context → Limits → Context
under x lim = record { limits = lim; types = x.types; header_end = x.header_end; size = x.size }

module _ {lim most : Limits} (less : Less lim most) (x : Context) (k : ℕ) where
  module _ (l : Label) (end : ℕ) where
    universal-limited : (m : Made) (c : Rows) → Items lim k m c → Limited (room lim) (Items lim k) c (universal (under x lim) l end m) (universal (under x most) l end m)
    unfolding universal
    universal-limited m c i =
        row-checks item m.items most.items i.2 less.items
        (λ p. makes-then _ λ n. makes-check _ _ _ (makes-then place λ q. makes-then _ λ format. makes-then place λ r. makes-row _ _ _ tt)) λ left p.
        (then_rowless (block-uses _ tt end) λ n d a b. checks _ _ _ (places λ q. then_rowless (number-uses _ tt (q + n)) λ format e a' b'. places λ r.
        passes _ _ (ends (omega arith, omega arith, omega arith, omega arith))))

    version-limited : (before : ℕ) (m : Made) (c : Rows) → Items lim k m c → Limited (room lim) (Items lim k) c
        (version (under x lim) l end before m) (version (under x most) l end before m)
    unfolding version
    version-limited before m c i =
        row-checks item m.items most.items i.2 less.items
        (λ p. makes-then _ λ t. makes-then _ λ format. makes-then _ λ n. makes-then place λ q. makes-row _ _ _ tt) λ left p.
        (then_rowless (number-uses _ tt end) λ t d a b. then_rowless (format-uses p (format_of x.types t)) λ format d₁ a₁ b₁. then_rowless
        (block-uses _ tt end) λ n d₂ a₂ b₂. places λ q.
        passes _ _ (ends (omega arith, omega arith, omega arith, omega arith)))

    rows-limited : (d : Contents) (m : Made) (c : Rows) → Items lim k m c → Limited (room lim) (Items lim k) c (rows_for (under x lim) l end d m) (rows_for (under x most) l end d m)
    unfolding rows_for
    rows-limited Universal m c i = universal-limited m c i
    rows-limited (Versions n) m c i = counts (Items lim k) n m (λ s d j. version-limited m.items s d j) i

  item-limited : (row index end : ℕ) (m : Made) (c : Rows) → Items lim k m c → Limited (room lim) (Items lim k) c
      (spec.item (under x lim) row index end m) (spec.item (under x most) row index end m)
  unfolding spec.item
  item-limited row index end m c i =
      then_rowless (frame-uses tt tt end) λ j d a b. rows-limited (record { node = row; item = index; field = j.field }) end j.contents m d
      (omega arith, omega arith, omega arith, omega arith)

  items-limited : (row end : ℕ) (m : Made) (c : Rows) → Items lim k m c → Limited (room lim) (Items lim k) c
      (meta_items (under x lim) row end m) (meta_items (under x most) row end m)
  unfolding meta_items next_item
  items-limited row end m c i =
      after (repeats (λ s. Items lim k s.made) end _ (λ s d j. after (item-limited row s.index end s.made d j) λ m' e v. ends v) i) λ s d j. ends j

  pub metadata-limited : (row end : ℕ) (m : Made) (c : Rows) → Items lim k m c → Limited (room lim) (Items lim k) c
      (metadata (under x lim) row end m) (metadata (under x most) row end m)
  unfolding metadata
  metadata-limited row end m c i = then_rowless (block_with _ tt _ end (λ p. tt)) λ n d a b. places λ q. items-limited row (q + n) m d
      (omega arith, omega arith, omega arith, omega arith)
