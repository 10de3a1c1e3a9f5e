-- What the contracts of `casetext` cite. Assumes nothing.
use Rattle.std.specs.Prelude.{Bool, true, cond, Option, IfSome, IsTrue, is_some, List, [], ◌∷◌, ◌⊎◌, ◌≡◌, ℕ, ◌+◌, ◌-◌, ◌*◌, ◌^◌, ◌≤◌, ◌<◌, min, ltb, length, take, get_or}
use Rattle.std.proofs.lemmas.List.Edits.{sets}

-- r is where the first mark of text from `from` on is, or the text's length where there is none
pub record FirstMark (text : List ℕ) (from mark r : ℕ) : Type 0 where
  pub within : r ≤ length text
  pub after : min from (length text) ≤ r
  pub before : (k : ℕ) → from ≤ k → k < r → get_or text k 0 ≡ mark → ⊥
  pub found : r < length text → get_or text r 0 ≡ mark

-- r bytes of out are used after text was put there from `at` on: r is within out, and not before `at`
pub record Ends (out : List ℕ) (at r : ℕ) : Type 0 where
  pub within : r ≤ length out
  pub counted : r ≡ length (take r out)
  pub after : min at (length out) ≤ r

-- out became out' when bytes were put from `at` on, of which those past its end are left out, and r is the place after them
pub record Puts (out out' : List ℕ) (at : ℕ) (bytes : List ℕ) (r : ℕ) : Type 0 where
  pub wrote : out' ≡ sets out at bytes
  pub fits : at + length bytes ≤ length out → r ≡ at + length bytes
  pub over : length out ≤ at + length bytes → r ≡ length out

-- the value of a lower-case hex digit, and 16 for any other byte
abbrev pub digit_of : ℕ → ℕ
digit_of b = cond (ltb b 48) 16 (cond (ltb b 58) (b - 48) (cond (ltb b 97) 16 (cond (ltb b 103) (b - 87) 16)))

-- the number that decimal digits spell after v
abbrev pub value_from : ℕ → List ℕ → ℕ
value_from v [] = v
value_from v (d ∷ ds) = value_from (v * 10 + digit_of d) ds

-- r is the number that digits spell, if any; and it is one where they are decimal digits of a number that a word holds
pub record Spells (digits : List ℕ) (r : Option ℕ) : Type 0 where
  pub meant : IfSome r (λ value. value ≡ value_from 0 digits)
  pub taken : 0 < length digits → ((k : ℕ) → k < length digits → digit_of (get_or digits k 0) ≤ 9) → value_from 0 digits < 2 ^ 64 → IsTrue (is_some r)

-- byte k of the bytes that field spells, two digits to a byte
abbrev pub byte_at : List ℕ → ℕ → ℕ
byte_at field k = digit_of (get_or field (2 * k) 0) * 16 + digit_of (get_or field (2 * k + 1) 0)

-- the first count of bytes are those that digits spell, and all of them where right; and pairs of hex digits that have room are right, and a single `-`
pub record SpellsBytes (digits bytes : List ℕ) (count : ℕ) (right : Bool) : Type 0 where
  pub within : count ≤ length bytes
  pub counted : count ≡ length (take count bytes)
  pub each : (k : ℕ) → k < count → get_or bytes k 0 ≡ byte_at digits k
  pub whole : right ≡ true → (length digits ≡ count * 2) ⊎ ((length digits ≡ 1) × (get_or digits 0 0 ≡ 45))
  pub taken : (n : ℕ) → length digits ≡ n * 2 → n ≤ length bytes → ((k : ℕ) → k < length digits → digit_of (get_or digits k 0) ≤ 15) → right ≡ true
  pub dash : length digits ≡ 1 → get_or digits 0 0 ≡ 45 → right ≡ true
