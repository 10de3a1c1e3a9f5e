-- What the code's answer says, and what its search for a row gives.
-- Assumes nothing.
use Rattle.std.specs.Prelude.{◌≡◌, List, [], ◌∷◌, ℕ, ◌+◌, ◌≤◌, ◌<◌}
use Rattle.cursor.specs.declared.Item.{Item}
use Rattle.header.specs.Header.{Header}
use Rattle.rows.specs.Rows.{item_at, nodes_in, items_in}
use Rattle.file.specs.Reading.{summary}
use Rattle.file.specs.declared.Summary.{Summary}
pub use Rattle.refusals.specs.Told.{told}
use Rattle.file.specs.Own.{those, part}
use Rattle.description.specs.Row.{is_field}
use Rattle.mobile.specs.Mobile.{verdict}

-- r is the first row of the field in a part, or its end
pub record NextRow (field : ℕ) (is : List Item) (from end r : ℕ) : Type 0 where
  pub low : from ≤ r
  pub high : r ≤ end
  pub here : r < end → those (is_field field) (part is from end) ≡ item_at is r ∷ those (is_field field) (part is (r + 1) end)
  pub none : end ≤ r → those (is_field field) (part is from end) ≡ []

-- r is the verdict on every header and rows of which s is the summary, the rows being in the two tables
abbrev pub Judges : Summary → (file nodes items : List ℕ) → ℕ → Type 0
Judges s file nodes items r =
    (h : Header) → s ≡ summary h (nodes_in s.nodes nodes) (items_in s.items items) → r ≡ verdict file h (nodes_in s.nodes nodes) (items_in s.items items)
