-- `put_content` puts a universal content or a version.
-- Assumes nothing.
use mathlib.Core.List.{List}
use Prim.Native.Nat.{ℕ}
use Rattle.title_items.proofs.Putting.{content-universal, content-version}
use Rattle.title_items.proofs.put_content.Goals as goal

pub returns-then-item-eq0 : goal.returns-then-item-eq0
returns-then-item-eq0 c = λ (f : List ℕ). content-universal f c.item_at-item.ensures _ c.if-item-eq0.true c.put_universal.ensures

pub returns : goal.returns
returns c = λ (f : List ℕ). content-version f c.item_at-item.ensures _ c.if-item-eq0.false c.put_version.ensures
