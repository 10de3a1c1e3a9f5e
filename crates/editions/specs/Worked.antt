-- Sheets moved in one test: the worked file's sheet over and back, hidden rows that are counted, a text of format 2; and which line is refused.
-- Assumes nothing.
use Rattle.std.specs.Prelude.{◌≡◌, refl, List, [], ◌∷◌, ◌++◌, ℕ, take}
use Rattle.room.specs.Room.{good, bad}
use Rattle.room.specs.Decimal.{digits, decimal}
use Rattle.text.specs.Text.{hex_digits, hex_digit, plain, hexed, escaped, version_text}
use Rattle.editions.specs.Sheets.{parted, fields, field, written, same, value, is_number, is_even, nibble, is_escape, itself, is_text, is_name, is_version, fits, is_first, is_node, is_item, kind, judge, agreeing, judged, picked, spread, reordered, renamed, lead, behind, moved_lines, is_second, move}

-- `XMF`, 2.00, 56, 2, 3
abbrev pub first : List ℕ
first = 0x58 ∷ 0x4D ∷ 0x46 ∷ 0x09 ∷ 0x32 ∷ 0x2E ∷ 0x30 ∷ 0x30 ∷ 0x09 ∷ 0x35 ∷ 0x36 ∷ 0x09 ∷ 0x32 ∷ 0x09 ∷ 0x33 ∷ 0x0A ∷ []

-- the same in the second edition
abbrev pub second : List ℕ
second = 0x58 ∷ 0x4D ∷ 0x46 ∷ 0x32 ∷ 0x09 ∷ 0x32 ∷ 0x2E ∷ 0x30 ∷ 0x30 ∷ 0x09 ∷ 0x35 ∷ 0x36 ∷ 0x09 ∷ 0x32 ∷ 0x09 ∷ 0x33 ∷ 0x0A ∷ []

-- row 0
abbrev pub node_one : List ℕ
node_one = 0x4E ∷ 0x09 ∷ 0x30 ∷ 0x09 ∷ 0x30 ∷ 0x09 ∷ 0x31 ∷ 0x09 ∷ 0x31 ∷ 0x09 ∷ 0x32 ∷ 0x37 ∷ 0x09 ∷ 0x32 ∷ 0x39 ∷ 0x0A ∷ []

-- row 1
abbrev pub node_two : List ℕ
node_two = 0x4E ∷ 0x09 ∷ 0x31 ∷ 0x09 ∷ 0x30 ∷ 0x09 ∷ 0x32 ∷ 0x09 ∷ 0x31 ∷ 0x09 ∷ 0x35 ∷ 0x34 ∷ 0x09 ∷ 0x32 ∷ 0x0A ∷ []

-- an item of row 1, custom
abbrev pub visible : List ℕ
visible = 0x4D ∷ 0x09 ∷ 0x31 ∷ 0x09 ∷ 0x43 ∷ 0x09 ∷ 0x61 ∷ 0x09 ∷ 0x30 ∷ 0x09 ∷ 0x30 ∷ 0x09 ∷ 0x48 ∷ 0x69 ∷ 0x0A ∷ []

-- another, standard
abbrev pub mobile : List ℕ
mobile = 0x4D ∷ 0x09 ∷ 0x31 ∷ 0x09 ∷ 0x53 ∷ 0x09 ∷ 0x33 ∷ 0x09 ∷ 0x30 ∷ 0x09 ∷ 0x36 ∷ 0x09 ∷ 0x5C ∷ 0x30 ∷ 0x30 ∷ 0x5C ∷ 0x30 ∷ 0x30 ∷ 0x0A ∷ []

-- an item of row 0, in format 2
abbrev pub unicode : List ℕ
unicode = 0x4D ∷ 0x09 ∷ 0x30 ∷ 0x09 ∷ 0x53 ∷ 0x09 ∷ 0x31 ∷ 0x34 ∷ 0x09 ∷ 0x32 ∷ 0x09 ∷ 0x32 ∷ 0x09 ∷ 0xC3 ∷ 0xA9 ∷ 0x5C ∷ 0x35 ∷ 0x63 ∷ 0x0A ∷ []

cases : (move (first ++ node_one ++ node_two ++ visible ++ mobile) ≡ good (second ++ node_one ++ node_two ++ visible ++ mobile))
    × (move (second ++ node_one ++ node_two ++ visible ++ mobile) ≡ good (first ++ node_one ++ node_two ++ visible ++ mobile))
    × (move (first ++ node_one ++ node_two ++ unicode ++ visible) ≡ good (second ++ node_one ++ unicode ++ node_two ++ visible))
    × (move (second ++ node_one ++ unicode ++ node_two ++ visible) ≡ good (first ++ node_one ++ node_two ++ unicode ++ visible))
    × (move [] ≡ bad 31 1)
    × (move (first ++ node_one) ≡ bad 31 1)
    × (move (first ++ node_two) ≡ bad 31 2)
    × (move (first ++ node_one ++ node_two ++ visible ++ unicode) ≡ bad 31 5)
    × (move (first ++ node_one ++ unicode ++ node_two) ≡ bad 31 4)
    × (move (second ++ node_one ++ node_two ++ unicode) ≡ bad 31 4)
    × (move (first ++ node_one ++ node_two ++ take 10 visible) ≡ bad 31 4)
    × (move (first ++ node_one ++ node_two ++ unicode ++ visible ++ mobile ++ mobile) ≡ bad 31 1)
unfolding digits decimal hex_digits hex_digit plain hexed escaped version_text parted fields field written same value is_number is_even nibble is_escape itself is_text is_name is_version fits is_first is_node is_item kind judge agreeing judged picked spread reordered renamed lead behind moved_lines is_second move
cases = (refl, refl, refl, refl, refl, refl, refl, refl, refl, refl, refl, refl)
