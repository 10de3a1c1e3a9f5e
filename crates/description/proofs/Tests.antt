-- What is asked of one item row, from the tests of its words.
-- Assumes nothing.
use mathlib.Core.Path.{◌≡◌, refl}
use mathlib.Core.Bool.{Bool, true, false, ◌&&◌}
use Prim.Native.Nat.{ℕ}
use native.Mathlib.Omega.{arith}
use lib.Dec.{eqb}
use borrow.Author.Tests.{eqb-true}
use Rattle.cursor.specs.declared.Item.{Item}
use Rattle.description.specs.Row.{is_field, is_binary, is_description}

both : (a b : Bool) → (a && b) ≡ true → (a ≡ true) × (b ≡ true)
both true b e = (refl, e)
both false b e = let z : ◌≡◌ {A = ℕ} 0 1 = cc in absurd (omega arith)

module _ (r : Item) where
  -- a row of that field
  pub field_is : (n : ℕ) → is_field n r ≡ true → (r.kind ≡ 0) × (r.field ≡ n)
  unfolding is_field
  field_is n e = let x = both (eqb r.kind 0) (eqb r.field n) e in (eqb-true r.kind 0 x.0, eqb-true r.field n x.1)

  -- a description is of field 13
  pub description-is : is_description r ≡ true → (r.kind ≡ 0) × (r.field ≡ 13)
  unfolding is_description
  description-is e = field_is 13 (both (is_field 13 r) (is_binary r) e).0
