-- Whether a file is accepted, and its verdict, as the code comes to them.
-- Assumes nothing.
use mathlib.Core.Path.{◌≡◌, refl, ap, ◌∙◌}
use mathlib.Core.List.{List, [], ◌∷◌, ◌++◌}
use Prim.Native.Nat.{ℕ}
use lib.ListN.{length}
use borrow.Author.Tests.{eq-eqb, ne_eqb}
use Rattle.metadata.specs.Tables.{full_nodes, full_items, limits}
use Rattle.file.specs.Reading.{read_file}
use Rattle.file.specs.Asking.{counts}
use Rattle.file.specs.declared.Summary.{Summary}
use Rattle.file.proofs.Rows.{Standing}
use Rattle.text.specs.Text.{tabbed, number, version_text}
use Rattle.lines.specs.Answer.{plainly, ended, fitted}
use Rattle.checks.specs.Checked.{ok_line, checked, check_answer, verdict_line, verdict_status}
use Rattle.lines.proofs.Ending.{printed-good}
use Rattle.lines.proofs.Reading.{known}

-- ---- lines, as the bytes that are put one after the other

pub ok-is : (tail : List ℕ) (v size : ℕ) → (0x6F ∷ 0x6B ∷ 0x09 ∷ []) ++ version_text v ++ number size ++ ended tail ≡ ok_line tail v size
unfolding ok_line tabbed
ok-is tail v size = refl

pub verdict-is : (tail : List ℕ) (v : ℕ) → (0x56 ∷ []) ++ number v ++ ended tail ≡ verdict_line tail v
unfolding verdict_line
verdict-is tail v = refl

-- ---- with full tables

module _ (f : List ℕ) {n i : ℕ} (en : full_nodes ≡ n) (ei : full_items ≡ i) where
  module _ (room : ℕ) (tail : List ℕ) where
    pub check-good : {s : Summary} {t u : List ℕ} → Standing f (read_file (limits n i) f) s t u → fitted room tail
        (plainly (ok_line tail s.version (length f))) ≡ check_answer room tail f
    unfolding check_answer counts
    check-good st = ap (λ (x : Summary). fitted room tail (plainly (ok_line tail x.version (length f)))) st.summed ∙ printed-good (checked tail f) _ _ (known f en ei st (counts f))
