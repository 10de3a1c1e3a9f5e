-- The rows of a node's items name that node, and are counted.
-- Assumes nothing.
use mathlib.Core.Path.{◌≡◌, refl, ◌∙◌}
use Prim.Native.Nat.{ℕ, ◌+◌}
use native.Mathlib.Omega.{arith}
use Rattle.cursor.proofs.Uses.{number-uses, block-uses, block_with}
use Rattle.cursor.proofs.Order.{Orders, after, weaken, ends, checks, places, passes_item, repeats, counts, then_rowless}
use Rattle.header.specs.Types.{format_of}
use Rattle.metadata.specs.Metadata.{Context, universal, version, rows_for, item, next_item, meta_items, metadata}
use Rattle.metadata.specs.declared.Made.{Made}
use Rattle.metadata.specs.declared.Label.{Label}
use Rattle.metadata.specs.declared.Contents.{Contents}
use Rattle.metadata.specs.declared.Contents.TheVariants.{Universal, Versions}
use Rattle.metadata.proofs.Uses.{format-uses, frame-uses}

-- no node's row is made, and the item rows made are counted: k node rows, and m.items item rows when there were c since the last of them
abbrev pub Counted : (k c : ℕ) → Made → Made → ℕ → ℕ → Type 0
Counted k c m m' k' c' = (k' ≡ k) × (m'.nodes ≡ m.nodes) × (c' + m.items ≡ c + m'.items)

module _ (x : Context) (l : Label) (end : ℕ) where
  universal-orders : (m : Made) (k c : ℕ) → l.node ≡ k → Orders (universal x l end m) (Counted k c m) k c
  unfolding universal
  universal-orders m k c e =
      places λ p. checks _ _ _ (then_rowless (block-uses _ tt end) λ n. checks _ _ _ (places λ q. then_rowless (number-uses _ tt (q + n)) λ format. places λ r.
      passes_item _ _ e (ends (refl, refl, omega arith))))

  version-orders : (before : ℕ) (m : Made) (k c : ℕ) → l.node ≡ k → Orders (version x l end before m) (Counted k c m) k c
  unfolding version
  version-orders before m k c e =
      places λ p. checks _ _ _ (then_rowless (number-uses _ tt end) λ t. then_rowless (format-uses p (format_of x.types t)) λ format.
      then_rowless (block-uses _ tt end) λ n. places λ q.
      passes_item _ _ e (ends (refl, refl, omega arith)))

  rows-order : (d : Contents) (m : Made) (k c : ℕ) → l.node ≡ k → Orders (rows_for x l end d m) (Counted k c m) k c
  unfolding rows_for
  rows-order Universal m k c e = universal-orders m k c e
  rows-order (Versions n) m k c e =
      counts (Counted k c m) n m (λ m' k' c' i. weaken (version-orders m.items m' k' c' (e ∙ omega arith))
      (λ m'' k'' c'' j. (omega arith, omega arith, omega arith))) (refl, refl, refl)

item-orders : (x : Context) (node index end : ℕ) (m : Made) (k c : ℕ) → node ≡ k → Orders (item x node index end m) (Counted k c m) k c
unfolding item
item-orders x node index end m k c e = then_rowless (frame-uses tt tt end) λ i. rows-order x (record { node = node; item = index; field = i.field }) end i.contents m k c e

items-order : (x : Context) (node end : ℕ) (m : Made) (k c : ℕ) → node ≡ k → Orders (meta_items x node end m) (Counted k c m) k c
unfolding meta_items next_item
items-order x node end m k c e =
    after
    (repeats (λ s. Counted k c m s.made) end _
    (λ s k' c' i. after (item-orders x node s.index end s.made k' c' (e ∙ omega arith)) λ m'' k'' c'' j. ends
    (omega arith, omega arith, omega arith)) (refl, refl, refl))
    λ s k' c' i. ends i

pub metadata-orders : (x : Context) (node end : ℕ) (m : Made) (k c : ℕ) → node ≡ k → Orders (metadata x node end m) (Counted k c m) k c
unfolding metadata
metadata-orders x node end m k c e = then_rowless (block_with _ tt _ end (λ p. tt)) λ n. places λ q. items-order x node (q + n) m k c e
