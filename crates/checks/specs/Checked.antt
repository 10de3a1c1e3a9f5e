-- Whether a file is accepted, and its verdict: the text of each answer.
-- Assumes nothing.
use Rattle.std.specs.Prelude.{cond, List, ◌∷◌, ◌++◌, ℕ, eqb, length}
use Rattle.file.specs.Asking.{Counts, counts, ask}
use Rattle.text.specs.Text.{tabbed, number, version_text}
use Rattle.mobile.specs.Mobile.{mobile}
use Rattle.lines.specs.Answer.{Answer, answer, plainly, ended, printed, reads}

-- ---- whether a file is accepted: `ok`, version, length

unfoldable pub ok_line : (tail : List ℕ) → (version size : ℕ) → List ℕ
ok_line tail version size = 0x6F ∷ 0x6B ∷ tabbed (version_text version) ++ number size ++ ended tail

abbrev pub checked : (tail f : List ℕ) → Counts → Answer
checked tail f c = plainly (ok_line tail c.version (length f))

unfoldable pub check_answer : (room : ℕ) → (tail f : List ℕ) → Answer
check_answer room tail f = printed room tail (checked tail f) (ask (reads f) (counts f))

-- ---- the verdict: `V`, the first check that fails, or 0

unfoldable pub verdict_line : (tail : List ℕ) → (v : ℕ) → List ℕ
verdict_line tail v = 0x56 ∷ number v ++ ended tail

unfoldable pub verdict_status : (v : ℕ) → ℕ
verdict_status v = cond (eqb v 0) 0 3

abbrev pub judged : (tail : List ℕ) → (v : ℕ) → Answer
judged tail v = answer (verdict_status v) (verdict_line tail v)

unfoldable pub verdict_answer : (room : ℕ) → (tail f : List ℕ) → Answer
verdict_answer room tail f = printed room tail (judged tail) (ask (reads f) (mobile f))
