-- The byte behind `--status=` is the digit.
-- Assumes nothing.
use Rattle.std.proofs.Common.{◌≡◌, ℕ, ◌≤◌, ◌<◌, List, [], ◌∷◌, ◌++◌, length, get_or, take, drop, refl, sym, ap, ap₂, ◌∙◌, arith, rules}
use Rattle.std.proofs.lemmas.Slice.Eq.{bytes_eq-Decides}
use lib.ListN.{take-append-drop}
use mir.Syntax.{w32}
use mir.Val.{SFits}
use mir.ValLaws.{to_z-of_z}
use borrow.Author.Rules.{rules}
use Rattle.spelling.specs.Spelling.{descriptor_of, status_word, Names}
use Rattle.spelling.proofs.status.Goals as goal

one : (x : List ℕ) → 1 ≤ length x → length x < 2 → x ≡ get_or x 0 0 ∷ []
one [] l m = absurd (omega arith)
one (a ∷ []) l m = refl
one (a ∷ b ∷ x) l m = absurd (omega arith)

by_digit : (word : List ℕ) (d : ℕ) → word ≡ status_word d → Names word (descriptor_of d)
by_digit word d e = record { named = λ d' e'. ap (λ (l : List ℕ). descriptor_of (get_or l 9 0)) (sym e ∙ e'); other = λ n. absurd (n d e) }

pub returns-in-Some-len1 : goal.returns-in-Some-len1
returns-in-Some-len1 c =
    let fits : SFits w32 c.descriptor.result = search rules in
    let w = c.args.word.now in
    let h = c.in-Some-len1.ensures.cases in
    let front : take 9 w ≡ take 9 (status_word 0) = (bytes_eq-Decides _ _).0 h.0 in
    let back : drop 9 w ≡ get_or c.in-Some-len1.field-0.now 0 0 ∷ [] = sym h.1 ∙ one _ c.in-Some-len1.len_at_least c.in-Some-len1.len_below in
    rw (to_z-of_z w32 c.descriptor.result fits, c.descriptor.ensures) (by_digit w (get_or c.in-Some-len1.field-0.now 0 0) (sym (take-append-drop 9 w) ∙ ap₂ (λ (x y : List ℕ). x ++ y) front back))
