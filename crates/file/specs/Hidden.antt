-- Hidden contents.
-- Assumes nothing.
use Rattle.std.specs.Prelude.{Bool, ◌%◌, eqb}
use Rattle.cursor.specs.declared.Item.{Item}

-- a content is hidden when its string format is odd; a version's row has its declared type's format
unfoldable pub is_hidden : Item → Bool
is_hidden r = eqb (r.format % 2) 1
