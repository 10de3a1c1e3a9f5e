-- What one pass keeps of the children says the same as their rows by kind: so the verdict by it is the verdict.
-- Assumes nothing.
use mathlib.Core.Path.{◌≡◌, refl, sym, ap, ap₂, ◌∙◌}
use mathlib.Core.Bool.{Bool, true, false, cond, ◌&&◌}
use mathlib.Core.List.{List, [], ◌∷◌}
use Prim.Native.Nat.{ℕ, suc, ◌+◌}
use native.Mathlib.Omega.{arith}
use lib.Dec.{ltb, leb, eqb}
use lib.ListN.{length, drop}
use borrow.Author.Tests.{ne_eqb, lt-leb}
use Rattle.cursor.specs.declared.Node.{Node}
use Rattle.cursor.specs.declared.Item.{Item}
use Rattle.header.specs.Header.{Header}
use Rattle.file.specs.Own.{items_of, those, own}
use Rattle.description.specs.Row.{is_field}
use Rattle.mobile.specs.Mobile.{all, is_empty, role_of, is_tune, is_instruments, is_other, rows_from, children_that, each_typed, one_tune, are_needs, tune_needs, right_edition, files_only, plain_references, no_unpackers, small_fields, check, verdict}
use Rattle.mobile.specs.Pass.{besides, child, children_from, children, one_tune_of, tune_needs_of, later_by, verdict_by}
use Rattle.mobile.specs.declared.Role.{Role}
use Rattle.mobile.specs.declared.Role.TheVariants as role
use Rattle.mobile.specs.declared.Few.{Few}
use Rattle.mobile.specs.declared.Few.TheVariants as few
use Rattle.mobile.specs.declared.Children.{Children}

-- none, one, or more
unfoldable few_of : List ℕ → Few
few_of [] = few.None
few_of (k ∷ []) = few.One k
few_of (k ∷ j ∷ ks) = few.More

few-more : (k : ℕ) (ks : List ℕ) → besides k (few_of ks) ≡ few_of (k ∷ ks)
unfolding besides few_of
few-more k [] = refl
few-more k (j ∷ []) = refl
few-more k (j ∷ i ∷ ks) = refl

-- ---- the pass

abbrev kept : (others tunes instruments : List ℕ) → Children
kept os ts is = record { typed = is_empty os; tunes = few_of ts; instruments = few_of is }

module _ (f : List ℕ) (is : List Item) where
  abbrev rows : (Role → Bool) → ℕ → List Node → List ℕ
  rows p k ns = rows_from p f is k ns

  one_more_lem : (x : Role) (k : ℕ) (os ts js : List ℕ)
      → child x k (kept os ts js) ≡ kept (cond (is_other x) (k ∷ os) os) (cond (is_tune x) (k ∷ ts) ts) (cond (is_instruments x) (k ∷ js) js)
  unfolding child is_empty
  one_more_lem role.Tune k os ts js = ap (λ v. record { typed = is_empty os; tunes = v; instruments = few_of js }) (few-more k ts)
  one_more_lem role.Instruments k os ts js = ap (λ v. record { typed = is_empty os; tunes = few_of ts; instruments = v }) (few-more k js)
  one_more_lem role.Other k os ts js = refl

  pass-keeps : (k : ℕ) (ns : List Node) → children_from f is k ns ≡ kept (rows is_other k ns) (rows is_tune k ns) (rows is_instruments k ns)
  unfolding children_from rows_from is_empty few_of
  pass-keeps k [] = refl
  pass-keeps k (r ∷ ns) = ap (child (role_of f (items_of (own is k))) k) (pass-keeps (k + 1) ns) ∙ one_more_lem (role_of f (items_of (own is k))) k _ _ _

-- ---- checks 6 and 7

and-true : (b : Bool) → (b && true) ≡ b
and-true true = refl
and-true false = refl

tune_and : (t : ℕ) (ks : List ℕ) → one_tune_of (few.One t) (few_of ks) ≡ one_tune (t ∷ []) ks
unfolding one_tune_of one_tune few_of all
tune_and t [] = refl
tune_and t (k ∷ []) = sym (and-true (ltb k t && true) ∙ and-true (ltb k t))
tune_and t (k ∷ j ∷ ks) =
    let z : leb (suc (suc (length ks))) 1 ≡ false = lt-leb (suc (suc (length ks))) 1 (omega arith) in
    sym (ap (λ b. b && all (λ k. all (ltb k) (t ∷ [])) (k ∷ j ∷ ks)) z)

needs-and : (f : List ℕ) (t : ℕ) (is : List Item) → tune_needs_of f (few.One t) is ≡ tune_needs f (t ∷ []) is
unfolding tune_needs_of tune_needs all
needs-and f t is = sym (and-true (are_needs f t (those (is_field 13) is)))

six : (f : List ℕ) (ts ks : List ℕ) (is : List Item) (later : ℕ)
    → check 6 (one_tune_of (few_of ts) (few_of ks)) (check 7 (tune_needs_of f (few_of ts) is) later) ≡ check 6 (one_tune ts ks) (check 7 (tune_needs f ts is) later)
unfolding check one_tune one_tune_of few_of
six f [] ks is later = refl
six f (t ∷ []) ks is later = ap₂ (λ b n. check 6 b n) (tune_and t ks) (ap (λ b. check 7 b later) (needs-and f t is))
six f (t ∷ u ∷ ts) ks is later =
    let z : eqb (suc (suc (length ts))) 1 ≡ false = ne_eqb (suc (suc (length ts))) 1 (λ e. omega arith) in
    sym (ap (λ b. check 6 (b && (leb (length ks) 1 && all (λ k. all (ltb k) (t ∷ u ∷ ts)) ks)) (check 7 (tune_needs f (t ∷ u ∷ ts) is) later)) z)

-- ---- the verdict

pub by_pass : (f : List ℕ) (h : Header) (ns : List Node) (is : List Item) → verdict_by f (children f ns is) h ns is ≡ verdict f h ns is
unfolding verdict verdict_by later_by children children_that each_typed
by_pass f h ns is =
    ap (λ (c : Children). verdict_by f c h ns is) (pass-keeps f is 1 (drop 1 ns))
    ∙ ap (λ n. check 1 (right_edition h) (check 2 (files_only ns) (check 3 (plain_references ns) (check 4 (no_unpackers ns) (check 5 (is_empty (rows_from is_other f is 1 (drop 1 ns))) n)))))
    (six f (rows_from is_tune f is 1 (drop 1 ns)) (rows_from is_instruments f is 1 (drop 1 ns)) is (check 8 (small_fields ns is) 0))
