-- `find_place` judges 39, 27, 29, 30, 28.
-- Assumes nothing.
use mathlib.Core.Path.{sym, ◌∙◌}
use native.Mathlib.Omega.{arith}
use Rattle.shelf.proofs.Judging.{place-damaged, place-zero, place-there, place-long, place_at, place-full}
use Rattle.shelf.proofs.find_place.Goals as goal

pub returns-then-is_damaged : goal.returns-then-is_damaged
returns-then-is_damaged c = place-damaged _ _ _ _ (sym c.is_damaged.ensures ∙ c.if-is_damaged.true)

pub returns-then-label-eq0 : goal.returns-then-label-eq0
returns-then-label-eq0 c = place-zero _ _ _ (sym c.is_damaged.ensures ∙ c.if-is_damaged.false) _ c.if-label-eq0.true

pub returns-then-at-n : goal.returns-then-at-n
returns-then-at-n c = place-there _ _ _ (sym c.is_damaged.ensures ∙ c.if-is_damaged.false) c.if-label-eq0.false _ c.find_from-at.ensures
    (omega arith)

pub returns-then-size-part : goal.returns-then-size-part
returns-then-size-part c = place-long _ _ _ (sym c.is_damaged.ensures ∙ c.if-is_damaged.false) c.if-label-eq0.false _
    c.find_from-at.ensures (omega arith) c.if-size-part.true

pub returns-then-i-n : goal.returns-then-i-n
returns-then-i-n c = place_at _ _ _ (sym c.is_damaged.ensures ∙ c.if-is_damaged.false) c.if-label-eq0.false _
    c.find_from-at.ensures (omega arith)
    c.if-size-part.false c.find_free-i.ensures (omega arith)

pub returns : goal.returns
returns c = place-full _ _ _ (sym c.is_damaged.ensures ∙ c.if-is_damaged.false) c.if-label-eq0.false _
    c.find_from-at.ensures (omega arith)
    c.if-size-part.false c.find_free-i.ensures (omega arith)
