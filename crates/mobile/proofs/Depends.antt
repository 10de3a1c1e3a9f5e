-- The verdict depends on the rows and on the data of the rows of fields 3 and 13 alone: no other byte of the file counts.
-- Assumes nothing.
use mathlib.Core.Path.{◌≡◌, refl, ap, ap₂, ◌∙◌, sym}
use mathlib.Core.Bool.{Bool, true, false, cond, not, ◌&&◌}
use mathlib.Core.List.{List, [], ◌∷◌}
use Prim.Native.Nat.{ℕ, suc, ◌+◌, ◌<◌}
use native.Mathlib.Omega.{arith}
use native.Mathlib.Decide.{dec_lt}
use lib.Dec.{ltb, eqb}
use lib.ListN.{length, get_or, drop}
use borrow.Author.Tests.{le-ltb}
use Rattle.machine.specs.Machine.{Out}
use Rattle.cursor.specs.Rows.{meta_frame}
use Rattle.cursor.specs.declared.Node.{Node}
use Rattle.cursor.specs.declared.Item.{Item}
use Rattle.cursor.proofs.Leaves.{number_same}
use Rattle.machine.proofs.Agree.{Agree}
use Rattle.header.specs.Header.{Header}
use Rattle.rows.specs.Rows.{item_at}
use Rattle.file.specs.Own.{Numbered, items_of, numbered, those, is_own, own}
use Rattle.description.specs.Row.{is_field, is_binary}
use Rattle.description.proofs.Tests.{field_is}
use Rattle.description.proofs.Depends.{readable_same}
use Rattle.mobile.specs.Mobile.{all, is_empty, role_of_number, role_of_row, role_of_rows, role_of, is_need, are_needs, verdict}
use Rattle.mobile.specs.Pass.{child, children_from, children, tune_needs_of, later_by, verdict_by}
use Rattle.mobile.proofs.Counts.{by_pass}
use Rattle.mobile.specs.declared.Role.{Role}
use Rattle.mobile.specs.declared.Role.TheVariants as role
use Rattle.mobile.specs.declared.Few.{Few}
use Rattle.mobile.specs.declared.Few.TheVariants as few
use Rattle.mobile.specs.declared.Children.{Children}

-- what holds of each element
abbrev Each : {A : Type 0} → (A → Type 0) → List A → Type 0
Each Q [] = Unit {0}
Each Q (x ∷ xs) = Q x × Each Q xs

module _ {A : Type 0} (Q : A → Type 0) where
  each_at : (d : A) (xs : List A) → ((i : ℕ) → i < length xs → Q (get_or xs i d)) → Each Q xs
  each_at d [] h = tt
  each_at d (x ∷ xs) h = (h 0 (omega arith), each_at d xs (λ i l. h (suc i) (omega arith)))

-- of those that are kept
module _ {A : Type 0} (p : A → Bool) (Q R : A → Type 0) (h : (x : A) → Q x → p x ≡ true → R x) where
  those-each : (xs : List A) → Each Q xs → Each R (those p xs)
  unfolding those
  those-each [] a = tt
  those-each (x ∷ xs) a = by (p x) refl (those-each xs a.1)
    where
      by : (b : Bool) → p x ≡ b → Each R (those p xs) → Each R (cond b (x ∷ those p xs) (those p xs))
      by true e rest = (h x a.0 e, rest)
      by false e rest = rest

-- of rows with their numbers, and without
module _ (Q : Item → Type 0) where
  each-numbered : (i : ℕ) (is : List Item) → Each Q is → Each (λ (x : Numbered). Q x.item) (numbered i is)
  unfolding numbered
  each-numbered i [] h = tt
  each-numbered i (r ∷ is) h = (h.0, each-numbered (i + 1) is h.1)

  each-items : (xs : List Numbered) → Each (λ (x : Numbered). Q x.item) xs → Each Q (items_of xs)
  each-items [] h = tt
  each-items (x ∷ xs) h = (h.0, each-items xs h.1)

module _ (f g : List ℕ) where
  -- ---- what a child is

  -- the files agree on a row's data
  abbrev Same : Item → Type 0
  Same r = Agree f g r.place r.size

  row_same : (r : Item) → Same r → role_of_row f r ≡ role_of_row g r
  unfolding role_of_row
  row_same r h = elim (dec_lt 0 r.size) [
    | yes l ↦ (
        ap₂ (λ (x : ℕ) (o : Out ℕ). cond (is_binary r && (ltb 0 r.size && eqb x 0)) (role_of_number (r.place + r.size) o) role.Other)
        (h r.place (omega arith) (omega arith))
        (number_same f g meta_frame 3 (r.place + r.size) (r.place + 1) (λ k lo hi. h k (omega arith) hi))
        )
    | no n ↦ simp (le-ltb 0 r.size (omega arith))
        (ap (λ (o : Out ℕ). cond (is_binary r && false) (role_of_number (r.place + r.size) o) role.Other)
        (number_same f g meta_frame 3 (r.place + r.size) (r.place + 1) (λ k lo hi. absurd (omega arith))))
  ]

  rows_same : (rs : List Item) → Each Same rs → role_of_rows f rs ≡ role_of_rows g rs
  unfolding role_of_rows
  rows_same [] h = refl
  rows_same (r ∷ []) h = row_same r h.0
  rows_same (r ∷ s ∷ rs) h = refl

  -- the files agree on a row's data if its field is n
  abbrev Of : ℕ → Item → Type 0
  Of n r = is_field n r ≡ true → Same r

  -- so they do on the rows of that field
  those-same : (n : ℕ) (rs : List Item) → Each (Of n) rs → Each Same (those (is_field n) rs)
  those-same n rs a = those-each (is_field n) (Of n) Same (λ r t e. t e) rs a

  children-same : (is : List Item) → Each (Of 3) is → (k : ℕ) (ns : List Node) → children_from f is k ns ≡ children_from g is k ns
  unfolding children_from role_of own
  children-same is h k [] = refl
  children-same is h k (r ∷ ns) =
      let a : Each (λ (x : Numbered). Of 3 x.item) (own is k) = those-each (is_own k) (λ (x : Numbered). Of 3 x.item)
      (λ (x : Numbered). Of 3 x.item) (λ x t e. t) (numbered 0 is) (each-numbered (Of 3) 0 is h) in
      let b : Each Same (those (is_field 3) (items_of (own is k))) = those-same 3 (items_of (own is k)) (each-items (Of 3) (own is k) a) in
      ap₂ (λ (x : Role) (c : Children). child x k c) (rows_same (those (is_field 3) (items_of (own is k))) b) (children-same is h (k + 1) ns)

  -- ---- what the tune needs

  all_same : (tune : ℕ) (rs : List Item) → Each Same rs → all (is_need f tune) rs ≡ all (is_need g tune) rs
  unfolding all is_need
  all_same tune [] h = refl
  all_same tune (r ∷ rs) h = ap₂ (λ (x y : Bool). (eqb r.node tune && (is_binary r && x)) && y) (readable_same f g r h.0) (all_same tune rs h.1)

  needs-same : (ts : Few) (is : List Item) → Each (Of 13) is → tune_needs_of f ts is ≡ tune_needs_of g ts is
  unfolding tune_needs_of are_needs
  needs-same (few.One t) is h = let rs = those (is_field 13) is in ap (λ x. not (is_empty rs) && x) (all_same t rs (those-same 13 is h))
  needs-same few.None is h = refl
  needs-same few.More is h = refl

  -- ---- the verdict

  -- each row of the field is as the files agree on
  abbrev pub Agreed : ℕ → List Item → Type 0
  Agreed n is = (i : ℕ) → i < length is → (item_at is i).kind ≡ 0 → (item_at is i).field ≡ n → Agree f g (item_at is i).place (item_at is i).size

  each_of : (n : ℕ) (is : List Item) → Agreed n is → Each (Of n) is
  each_of n is a = each_at (Of n) _ is (λ i l e. let x = field_is (item_at is i) n e in a i l x.0 x.1)

  pass-depends : (h : Header) (ns : List Node) (is : List Item) → Agreed 3 is → Agreed 13 is → verdict_by f (children f ns is) h ns is ≡ verdict_by g (children g ns is) h ns is
  unfolding verdict_by later_by children
  pass-depends h ns is a b =
      ap (λ (c : Children). verdict_by f c h ns is) (children-same is (each_of 3 is a) 1 (drop 1 ns))
      ∙ rw (needs-same (children g ns is).tunes is (each_of 13 is b)) refl

  pub verdict-depends : (h : Header) (ns : List Node) (is : List Item) → Agreed 3 is → Agreed 13 is → verdict f h ns is ≡ verdict g h ns is
  verdict-depends h ns is a b = sym (by_pass f h ns is) ∙ pass-depends h ns is a b ∙ by_pass g h ns is
