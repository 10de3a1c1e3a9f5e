-- Item rows as the code takes them: contents by their row, one with another title, and their bytes.
-- Assumes nothing.
use Rattle.std.specs.Prelude.{cond, List, [], ◌∷◌, ℕ, zero, suc, ◌+◌, ◌-◌, ◌*◌, eqb, leb, length}
use Rattle.room.specs.Parts.{joined}
use Rattle.rows.specs.Rows.{item_width, item_from, ItemIn}
use Rattle.title_text.specs.Description.{Content, content, titled}
use Rattle.title_text.specs.Text.{further, item_text, content_text}

-- the content of item row k; row `row` has that title
unfoldable pub content_at : (f : List ℕ) → (row : ℕ) → (title us : List ℕ) → ℕ → Content
content_at f row title us k = cond (eqb k row) (titled title (content f (item_from us (k * item_width)))) (content f (item_from us (k * item_width)))

-- n contents, from row k on
unfoldable pub contents_from : (f : List ℕ) → (row : ℕ) → (title us : List ℕ) → (k n : ℕ) → List Content
contents_from f row title us k zero = []
contents_from f row title us k (suc n) = content_at f row title us k ∷ contents_from f row title us (k + 1) n

-- a content with what its item has before it where it is the first of the item, and the contents `cs` follow it
unfoldable pub row_of : Content → List Content → List ℕ
row_of c cs = joined (cond (leb c.version 1) (item_text c (suc (further cs))) [] ∷ content_text c ∷ [])

-- what the item of row k has before its first content, where row `end` is the first that follows the node's
abbrev pub front_text : (f : List ℕ) → (row : ℕ) → (title us : List ℕ) → (k end : ℕ) → List ℕ
front_text f row title us k end = item_text (content_at f row title us k) (suc (further (contents_from f row title us (k + 1) (end - (k + 1)))))

-- item row k of the words lies in the file
abbrev pub RowIn : (f us : List ℕ) → (k : ℕ) → Type 0
RowIn f us k = ItemIn (length f) (item_from us (k * item_width))

-- the content of row k, where row `end` is the first that follows the node's
unfoldable pub row_text : (f : List ℕ) → (row : ℕ) → (title us : List ℕ) → (k end : ℕ) → List ℕ
row_text f row title us k end = row_of (content_at f row title us k) (contents_from f row title us (k + 1) (end - (k + 1)))
