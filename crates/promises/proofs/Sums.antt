-- Sums over files: what one call adds, and what calls one after the other do.
-- Assumes nothing.
use mathlib.Core.Path.{◌≡◌, refl, sym, ap, ◌∙◌, subst}
use mathlib.Core.Bool.{true, false}
use mathlib.Core.List.{List, [], ◌∷◌, map}
use Prim.Native.Nat.{ℕ, zero, suc, ◌+◌, ◌*◌, ◌≤◌, ◌<◌, ◌^◌, min}
use native.Mathlib.Decide.{dec_le}
use native.Mathlib.Omega.{arith}
use lib.Dec.{T, eqb, leb}
use lib.ListN.{length, get_or}
use borrow.Author.Tests.{ne_eqb, le-leb, lt-leb}
use Rattle.cursor.specs.Refusals.{of_reader, is_allowed, Among}
use Rattle.metadata.specs.Tables.{limits}
use Rattle.file.specs.Asking.{Result, good, bad, ask}
use Rattle.file.proofs.Rows.{accepted}
use Rattle.account.specs.Account.{kinds_of}
use Rattle.account.specs.Totals.{most_files, zeros, added, refused_one, allowed, by_answer}
use Rattle.account.specs.Told.{kind_words, total_words}
use Rattle.account.specs.declared.Kinds.{Kinds}
use Rattle.account.specs.declared.Totals.{Totals}
use Rattle.account.proofs.Words.{plus-at, at_most}
use Rattle.account.proofs.Listed.{alone-listed}
use Rattle.promises.specs.Promises.{account_bytes, saying, Sizes, size, about, Outcome, answer_to, leaves, outcome, reads}
use Rattle.promises.specs.Calls.{Called, InSum, none, next, sum_of, unread, Sums}
use Rattle.promises.proofs.Kept.{in_totals, called, accounts}

-- ---- one call

-- with totals t, which left t': there were 1,000 files; the reader refused; the file was counted
data Step (t t' : Totals) (o : Outcome) : Type 0 where
  full : most_files ≤ t.files → o.answer ≡ 32 ∷ 0 ∷ [] → total_words t' ≡ total_words t → Step t t' o
  refusing : t.files < most_files → (n p : ℕ) → o.answer ≡ n ∷ p ∷ [] → ((n ≡ 0) → ⊥) → ((n ≡ 32) → ⊥) → total_words t' ≡ total_words (refused_one t) → Step t t' o
  counting : t.files < most_files → (k : Kinds) → o.answer ≡ 0 ∷ 0 ∷ kind_words k → ((κ : ℕ) → get_or (kind_words k) κ 0 < 2 ^ 28) → total_words
      t' ≡ total_words (added t k) → Step t t' o

below : (t : Totals) (ls : Sizes) (f : List ℕ) (k : Kinds) → (outcome (account_bytes t) ls f).answer ≡ 0 ∷ 0 ∷ kind_words k → (κ : ℕ) → get_or (kind_words k) κ 0 < 2 ^ 28
unfolding reads
below t ls f k e κ =
    let a = accounts t ls f (kind_words k) e in let m = at_most (kind_words k) κ in
    let l = (accepted (limits (size ls 0) (size ls 1)) f a.accepted).small in
    let s = a.total in
    omega arith

module _ (t t' : Totals) (ls : Sizes) (f : List ℕ) (h : get_or (outcome (account_bytes t) ls f).holds 2 [] ≡ total_words t') where
  step : Step t t' (outcome (account_bytes t) ls f)
  unfolding outcome leaves reads allowed
  step = let lim = limits (size ls 0) (size ls 1) in elim (dec_le most_files t.files) [
    | yes l ↦ (let e : leb most_files t.files ≡ true = le-leb most_files t.files l in full l (rw e refl) (sym h ∙ rw e refl))
    | no l ↦ (let m : t.files < most_files = omega arith in let e : leb most_files t.files ≡ false = lt-leb most_files t.files m in by m e
        (ask (reads ls f) (kinds_of lim f)) refl (alone-listed lim f))
  ]
    where
      by : t.files < most_files → leb most_files t.files ≡ false → (o : Result Kinds) → ask (reads ls f) (kinds_of (limits (size ls 0) (size ls 1)) f) ≡ o → Among of_reader o
          → Step t t' (outcome (account_bytes t) ls f)
      by m e (good k) x l = let a : (outcome (account_bytes t) ls f).answer ≡ 0 ∷ 0 ∷ kind_words k = rw (e, x) refl in counting m k a (below t ls f k a) (sym h ∙ rw (e, x) refl)
      by m e (bad n p) x l =
          let not : (i : ℕ) → (T (is_allowed of_reader i p) → ⊥) → (n ≡ i) → ⊥ = λ i u z. u (subst (λ j. T (is_allowed of_reader j p)) z l) in
          let d : (n ≡ 32) → ⊥ = not 32 (λ z. z) in
          refusing m n p (rw (e, x) refl) (not 0 (λ z. z)) d (sym h ∙ rw (e, x, ne_eqb n 32 d) refl)

stepped : {t t' : Totals} {lends : List (List ℕ)} {f : List ℕ} {o : Outcome} → Called (account_bytes t) lends f o → get_or o.holds 2 [] ≡ total_words t' → Step t t' o
stepped {t} {t'} {lends} {f} c h = let e = called c in subst (Step t t') (sym e)
    (step t t' (map length lends) f (subst (λ (v : Outcome). get_or v.holds 2 [] ≡ total_words t') e h))

-- ---- calls one after the other

-- what holds of totals that began all zero
record Small (t : Totals) : Type 0 where
  files : t.files ≤ 1000
  refused : t.refused ≤ t.files
  sums : (κ : ℕ) → get_or (kind_words t.kinds) κ 0 ≤ t.files * 2 ^ 28

-- and what calls with totals t added, which left t'
record Adds (t : Totals) (os : List Outcome) (t' : Totals) : Type 0 where
  small : Small t'
  files : t'.files ≡ min (t.files + length os) 1000
  refused : t'.refused ≡ t.refused + unread os
  sums : (κ : ℕ) → get_or (kind_words t'.kinds) κ 0 ≡ get_or (kind_words t.kinds) κ 0 + sum_of κ os

one : {t t' : Totals} {o : Outcome} → Small t → Step t t' o → Adds t (o ∷ []) t'
one {t} {t'} s e = by e
  where
    word : {x : Totals} → total_words t' ≡ total_words x → (i : ℕ) → get_or (total_words t') i 0 ≡ get_or (total_words x) i 0
    word e i = ap (λ ws. get_or ws i 0) e

    by : {o : Outcome} → Step t t' o → Adds t (o ∷ []) t'
    by (full l a w) = let f = s.files in let r = s.refused in let f' = word w 0 in let r' = word w 1 in record {
      small = record { files = omega arith; refused = omega arith; sums = λ κ. omega (arith, s.sums κ, word w (suc (suc κ))) };
      files = omega arith;
      refused = rw a (omega arith);
      sums = λ κ. rw a (omega (arith, word w (suc (suc κ))));
    }
    by (refusing l n p a z u w) = let f = s.files in let r = s.refused in let f' = word w 0 in let r' = word w 1 in record {
      small = record { files = omega arith; refused = omega arith; sums = λ κ. omega (arith, s.sums κ, word w (suc (suc κ))) };
      files = omega arith;
      refused = rw a (simp (ne_eqb n 0 z, ne_eqb n 32 u) (omega arith));
      sums = λ κ. rw a (omega (arith, word w (suc (suc κ))));
    }
    by (counting l k a b w) = let f = s.files in let r = s.refused in let f' = word w 0 in let r' = word w 1 in
        let x : (κ : ℕ) → get_or (kind_words t'.kinds) κ 0 ≡ get_or (kind_words t.kinds) κ 0 + get_or (kind_words k) κ 0 = λ κ. omega
        (arith, s.sums κ, b κ, word w (suc (suc κ)) ∙ plus-at t.kinds k κ) in record {
          small = record { files = omega arith; refused = omega arith; sums = λ κ. omega (arith, s.sums κ, b κ, x κ) };
          files = omega arith;
          refused = rw a (omega arith);
          sums = λ κ. rw a (omega (arith, x κ));
        }

join : {t t' t'' : Totals} {o : Outcome} {os : List Outcome} → Adds t (o ∷ []) t' → Adds t' os t'' → Adds t (o ∷ os) t''
join a b =
    let f = a.files in let f' = b.files in let r = a.refused in let r' = b.refused in
    record { small = b.small; files = omega arith; refused = omega arith; sums = λ κ. omega (arith, a.sums κ, b.sums κ) }

all : {t t' : Totals} {os : List Outcome} → Small t → InSum t os t' → Adds t os t'
all s none = record { small = s; files = let l = s.files in omega arith; refused = omega arith; sums = λ κ. omega arith }
all s (next c h rest) = let a = one s (stepped c h) in join a (all a.small rest)

-- a further call
further : {t : Totals} {lends : List (List ℕ)} {f : List ℕ} {o : Outcome} → Called (account_bytes t) lends f o
    → (most_files ≤ t.files → o.answer ≡ 32 ∷ 0 ∷ []) × (t.files < most_files → (get_or o.answer 0 0 ≡ 32) → ⊥)
unfolding outcome leaves
further {t} {lends} {f} {o} c =
    let r = answer_to (map length lends) f ((about (account_bytes t)).asks (map length lends)) in
    by (stepped {t' = by_answer t r} c (ap (λ (v : Outcome). get_or v.holds 2 []) (called c) ∙ sym (in_totals f (saying kind_words r) t r)))
  where
    by : {t' : Totals} → Step t t' o → (most_files ≤ t.files → o.answer ≡ 32 ∷ 0 ∷ []) × (t.files < most_files → (get_or o.answer 0 0 ≡ 32) → ⊥)
    by (full l a w) = (λ m. a, λ m. absurd (omega arith))
    by (refusing l n p a z u w) = (λ m. absurd (omega arith), λ m y. u (sym (ap (λ v. get_or v 0 0) a) ∙ y))
    by (counting l k a b w) = (λ m. absurd (omega arith), λ m y. let x : ◌≡◌ {A = ℕ} 0 32 = sym (ap (λ v. get_or v 0 0) a) ∙ y in omega arith)

none_yet : (κ : ℕ) → get_or (kind_words zeros.kinds) κ 0 ≡ 0
none_yet zero = refl
none_yet (suc zero) = refl
none_yet (suc (suc zero)) = refl
none_yet (suc (suc (suc zero))) = refl
none_yet (suc (suc (suc (suc zero)))) = refl
none_yet (suc (suc (suc (suc (suc zero))))) = refl
none_yet (suc (suc (suc (suc (suc (suc zero)))))) = refl
none_yet (suc (suc (suc (suc (suc (suc (suc zero))))))) = refl
none_yet (suc (suc (suc (suc (suc (suc (suc (suc zero)))))))) = refl
none_yet (suc (suc (suc (suc (suc (suc (suc (suc (suc κ))))))))) = refl

fits : {t : Totals} → Small t → (i : ℕ) → get_or (total_words t) i 0 < 2 ^ 64
fits s zero = let l = s.files in omega arith
fits s (suc zero) = let l = s.files in let m = s.refused in omega arith
fits s (suc (suc κ)) = let l = s.files in let m = s.sums κ in omega arith

pub sums : Sums
sums os t r =
    let d = all (record { files = omega arith; refused = omega arith; sums = λ κ. omega (arith, none_yet κ) }) r in
    let f = d.files in let n = d.refused in
    record {
      files = omega arith;
      refused = omega arith;
      sums = λ κ. omega (arith, none_yet κ, d.sums κ);
      fits = fits d.small;
      full = λ lends f o c. let w = further c in (λ l. w.0 (omega arith), λ l. w.1 (omega arith));
    }
