-- What the code's answers say.
-- Assumes nothing.
use Rattle.std.specs.Prelude.{ℕ, Option, Some, None}
use Rattle.utf16.specs.Unicode.{Char, char, none}

abbrev pub char_told : Option (ℕ × ℕ) → Char
char_told (Some (c, n)) = char c n
char_told None = none
