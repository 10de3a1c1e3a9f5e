-- What is asked of an item row before its data is read.
-- Assumes nothing.
use Rattle.std.specs.Prelude.{Bool, ◌&&◌, ◌||◌, ℕ, eqb}
use Rattle.cursor.specs.declared.Item.{Item}

-- a row of the standard field n
unfoldable pub is_field : ℕ → Item → Bool
is_field n r = eqb r.kind 0 && eqb r.field n

-- universal, format 6 or 7
unfoldable pub is_binary : Item → Bool
is_binary r = eqb r.version 0 && (eqb r.format 6 || eqb r.format 7)

-- a content description: a universal field 13 in format 6 or 7
unfoldable pub is_description : Item → Bool
is_description r = is_field 13 r && is_binary r
