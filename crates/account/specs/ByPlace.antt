-- The kinds of places by the rows: each part of the file as a span of places, and the later over the earlier. First the header, then the parts of nodes, then the data
-- of items, which lies in the metadata.
-- Assumes nothing.
use Rattle.std.specs.Prelude.{cond, ◌&&◌, List, [], ◌∷◌, ℕ, ◌+◌, leb, ltb}
use Rattle.cursor.specs.Rows.{inline_size}
use Rattle.cursor.specs.declared.Node.{Node}
use Rattle.cursor.specs.declared.Item.{Item}
use Rattle.file.specs.Hidden.{is_hidden}
use Rattle.account.specs.Account.{of_header, of_nodes, of_metadata, visible_data, hidden_data, of_unpackers, of_references, inline_data, all_else}
use Rattle.account.specs.ByRows.{meta_at, meta_end, contents_at, folded}

-- the places from one up to another, and their kind
pub record Span : Type 0 where
  pub from : ℕ
  pub to : ℕ
  pub kind : ℕ

abbrev pub over : (ℕ → ℕ) → Span → ℕ → ℕ
over m s k = cond (leb s.from k && ltb k s.to) s.kind (m k)

abbrev pub header_span : (end : ℕ) → Span
header_span end = record { from = 0; to = end; kind = of_header }

-- three numbers, metadata, unpackers, reference, inline data
abbrev pub node_spans : List ℕ → Node → List Span
node_spans f r =
    record { from = r.start; to = meta_at f r; kind = of_nodes }
    ∷ record { from = meta_at f r; to = meta_end f r; kind = of_metadata }
    ∷ record { from = meta_end f r; to = r.start + r.header; kind = of_unpackers }
    ∷ record { from = r.start + r.header; to = contents_at r; kind = of_references }
    ∷ record { from = contents_at r; to = contents_at r + inline_size r; kind = inline_data } ∷ []

abbrev pub item_span : Item → Span
item_span r = record { from = r.place; to = r.place + r.size; kind = cond (is_hidden r) hidden_data visible_data }

abbrev pub over_node : List ℕ → (ℕ → ℕ) → Node → ℕ → ℕ
over_node f m r = folded over m (node_spans f r)

abbrev pub over_item : (ℕ → ℕ) → Item → ℕ → ℕ
over_item m r = over m (item_span r)

-- of a file whose header ends at `end`
abbrev pub kind_by_rows : List ℕ → (end : ℕ) → List Node → List Item → ℕ → ℕ
kind_by_rows f end ns is = folded over_item (folded (over_node f) (over (λ k. all_else) (header_span end)) ns) is
