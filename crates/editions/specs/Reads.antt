-- What the code reads of a sheet, in the terms of its contracts: fields of a line by their places, the rest of an item line, the order of lines as it is put.
-- Assumes nothing.
use Rattle.std.specs.Prelude.{◌≡◌, ◌⊎◌, Option, Some, None, Bool, true, false, cond, ◌||◌, List, [], ◌∷◌, ◌++◌, ℕ, ◌+◌, ◌≤◌, length, get_or, drop}
use Rattle.editions.specs.Sheets.{Lines, parted, same, value, is_number, is_even, is_text, is_name, fits, other, kind, is_of}

-- a field's number, if it is one
unfoldable pub number_of : List ℕ → Option ℕ
number_of t = cond (is_number t) (Some (value 0 t)) None

-- the fields of a line from a place on
abbrev pub fields_at : List ℕ → ℕ → Lines
fields_at l at = parted 0x09 (drop at l)

-- the field at a place is t, and the next one begins at q
pub record FieldIs (l : List ℕ) (at : ℕ) (t : List ℕ) (q : ℕ) : Type 0 where
  pub inside : q ≤ length l
  pub next : fields_at l at ≡ t ∷ fields_at l q

-- no field that passes p and has another one behind it stands there
abbrev pub NoField : (List ℕ → Bool) → List ℕ → ℕ → Type 0
NoField p l at = (q : List ℕ → Bool) (ps : List (List ℕ → Bool)) → fits (p ∷ q ∷ ps) (fields_at l at) ≡ false

-- a number
pub record NumberIs (l : List ℕ) (at v q : ℕ) : Type 0 where
  pub text : List ℕ
  pub field : FieldIs l at text q
  pub spelled : is_number text ≡ true
  pub says : v ≡ value 0 text

-- a name
pub record NameIs (l : List ℕ) (at q : ℕ) : Type 0 where
  pub text : List ℕ
  pub field : FieldIs l at text q
  pub spelled : is_name text ≡ true

-- one letter, where it is neither 0 nor a tab; no other one
pub record LetterIs (l : List ℕ) (at b : ℕ) : Type 0 where
  pub field : (b ≡ 0 → ⊥) → (b ≡ 0x09 → ⊥) → FieldIs l at (b ∷ []) (at + 2)
  pub no : (x : ℕ) → (x ≡ b → ⊥) → NoField (same (x ∷ [])) l at

-- what an item line has behind its label: version, format, text
unfoldable pub is_tail : Lines → Bool
is_tail ts = fits (is_number ∷ is_even ∷ is_text (same (get_or ts 1 []) (0x32 ∷ [])) ∷ []) ts

-- and with the label before it
unfoldable pub is_labelled : Lines → Bool
is_labelled ts =
    let rest = is_number ∷ is_even ∷ is_text (same (get_or ts 3 []) (0x32 ∷ [])) ∷ [] in
    fits (same (0x53 ∷ []) ∷ is_number ∷ rest) ts || fits (same (0x43 ∷ []) ∷ is_name ∷ rest) ts

-- ---- lines of a well-formed sheet: each is a node's, an item's or blank

abbrev pub Known : List ℕ → Type 0
Known l = (l ≡ []) ⊎ (kind l ≡ other → ⊥)

abbrev pub AllKnown : Lines → Type 0
AllKnown [] = Unit {0}
AllKnown (l ∷ ls) = Known l × AllKnown ls

-- ---- the order of the second edition, in one walk with two cursors

-- the lines of node n that stand first, and what stands behind them
abbrev pub run_of : ℕ → Lines → Lines
run_of n [] = []
run_of n (l ∷ ls) = cond (is_of n (kind l)) (l ∷ run_of n ls) []

abbrev pub past_run : ℕ → Lines → Lines
past_run n [] = []
past_run n (l ∷ ls) = cond (is_of n (kind l)) (past_run n ls) (l ∷ ls)

-- each node line, then the item lines of its row that stand next
abbrev pub walk : ℕ → Lines → Lines → Lines
walk n [] ms = []
walk n (l ∷ ns) ms = l ∷ run_of n ms ++ walk (n + 1) ns (past_run n ms)
