-- Its refusals are the reader's and its own; the totals that are left are told by the answer.
-- Assumes nothing.
use mathlib.Core.Path.{◌≡◌, refl, subst}
use mathlib.Core.Bool.{Bool, true, false, cond}
use mathlib.Core.List.{List, ◌++◌}
use Prim.Native.Nat.{ℕ}
use native.Mathlib.Omega.{arith}
use lib.Dec.{T, leb}
use borrow.Author.Tests.{ne_eqb}
use Rattle.cursor.specs.Refusals.{of_reader, is_allowed, Among}
use Rattle.metadata.specs.declared.Limits.{Limits}
use Rattle.cursor.proofs.Listed.{allowed-front, among-if}
use Rattle.file.specs.Reading.{Reading, rows, refusal, read_file}
use Rattle.file.specs.Asking.{Result, good, bad, ask}
use Rattle.file_laws.proofs.Listed.{refusal-listed}
use Rattle.account.specs.Account.{kinds_of}
use Rattle.account.specs.Totals.{most_files, one_more, allowed, totals_left, by_answer, refusals}
use Rattle.account.specs.declared.Kinds.{Kinds}
use Rattle.account.specs.declared.Totals.{Totals}

module _ (lim : Limits) (f : List ℕ) where
  -- by itself a file is refused by the reader alone
  pub alone-listed : Among of_reader (ask (read_file lim f) (kinds_of lim f))
  unfolding ask kinds_of
  alone-listed = by (read_file lim f) refl
    where
      by : (o : Reading) → read_file lim f ≡ o → Among of_reader (ask o (kinds_of lim f))
      by (rows h ns is) e = tt
      by (refusal n p) e = refusal-listed lim f e

  module _ (t : Totals) where
    pub account-listed : Among (of_reader ++ refusals) (allowed t (ask (read_file lim f) (kinds_of lim f)))
    unfolding allowed
    account-listed = among-if (of_reader ++ refusals) (leb most_files t.files) _ _ tt (wider (ask (read_file lim f) (kinds_of lim f)) alone-listed)
      where
        wider : (o : Result Kinds) → Among of_reader o → Among (of_reader ++ refusals) o
        wider (good k) l = tt
        wider (bad n p) l = allowed-front of_reader refusals n p l

    -- the reader does not refuse with 32
    pub left_is : totals_left t (ask (read_file lim f) (kinds_of lim f)) ≡ by_answer t (allowed t (ask (read_file lim f) (kinds_of lim f)))
    unfolding allowed totals_left
    left_is = by (leb most_files t.files) (ask (read_file lim f) (kinds_of lim f)) alone-listed
      where
        by : (b : Bool) (o : Result Kinds) → Among of_reader o → (cond b t (one_more t o)) ≡ by_answer t (cond b (bad 32 0) o)
        by true o l = refl
        by false (good k) l = refl
        by false (bad n p) l = let e : (n ≡ 32) → ⊥ = λ z. subst (λ m. T (is_allowed of_reader m p)) z l in rw (ne_eqb n 32 e) refl

-- a file that is counted is counted by itself
pub allowed-good : (t : Totals) (o : Result Kinds) {k : Kinds} → allowed t o ≡ good k → o ≡ good k
unfolding allowed
allowed-good t o e = by (leb most_files t.files) e
  where
    by : {k : Kinds} (b : Bool) → (cond b (bad 32 0) o) ≡ good k → o ≡ good k
    by true e = let z : ◌≡◌ {A = ℕ} 0 1 = cc in absurd (omega arith)
    by false e = e
