-- `is_text` judges a text. The invariant: what is left of it is the whole.
-- Assumes nothing.
use mathlib.Core.Path.{refl}
use native.Mathlib.Omega.{arith}
use Rattle.editions.proofs.Texts.{spelled-cut, spelled-bad, spelled-three, spelled-no, spelled-one, spelled-all}
use Rattle.editions.proofs.is_text.Goals as goal

pub loop-i-init : goal.loop-i-init
loop-i-init c = record { before = omega arith; inside = omega arith; same = refl }

pub bounds-line-i : goal.bounds-line-i
bounds-line-i c = omega (arith, c.loop-i.invariant.inside)

pub returns-then-end-i-lt3 : goal.returns-then-end-i-lt3
returns-then-end-i-lt3 c = spelled-cut c.loop-i.invariant c.loop-i-test.true refl c.if-b-eq92.true c.if-end-i-lt3.true

pub overflow_add-i : goal.overflow_add-i
overflow_add-i c = omega (arith, c.loop-i.invariant.inside)

pub bounds-line-i-then-b-eq92 : goal.bounds-line-i-then-b-eq92
bounds-line-i-then-b-eq92 c = omega (arith, c.loop-i.invariant.inside)

pub overflow_add-i-then-b-eq92 : goal.overflow_add-i-then-b-eq92
overflow_add-i-then-b-eq92 c = omega (arith, c.loop-i.invariant.inside)

pub bounds-line-i-then-b-eq92-2 : goal.bounds-line-i-then-b-eq92-2
bounds-line-i-then-b-eq92-2 c = omega (arith, c.loop-i.invariant.inside)

pub is_escape-requires : goal.is_escape-requires
is_escape-requires c = c.hex_digits-hex.ensures

pub returns-then-not-is_escape : goal.returns-then-not-is_escape
returns-then-not-is_escape c = spelled-bad c.loop-i.invariant c.loop-i-test.true refl c.if-b-eq92.true c.if-end-i-lt3.false refl refl c.is_escape.ensures c.if-not-is_escape.true

pub overflow_add-i-then-b-eq92-2 : goal.overflow_add-i-then-b-eq92-2
overflow_add-i-then-b-eq92-2 c = omega (arith, c.loop-i.invariant.inside)

pub loop-i-preserved-then-b-eq92 : goal.loop-i-preserved-then-b-eq92
loop-i-preserved-then-b-eq92 c = spelled-three c.loop-i.invariant c.loop-i-test.true refl c.if-b-eq92.true c.if-end-i-lt3.false refl refl c.is_escape.ensures c.if-not-is_escape.false

pub returns-then-not-is_itself : goal.returns-then-not-is_itself
returns-then-not-is_itself c = spelled-no c.loop-i.invariant c.loop-i-test.true refl c.if-b-eq92.false c.is_itself.ensures c.if-not-is_itself.true

pub overflow_add-i-else-b-eq92 : goal.overflow_add-i-else-b-eq92
overflow_add-i-else-b-eq92 c = omega (arith, c.loop-i.invariant.inside)

pub loop-i-preserved : goal.loop-i-preserved
loop-i-preserved c = spelled-one c.loop-i.invariant c.loop-i-test.true refl c.if-b-eq92.false c.is_itself.ensures c.if-not-is_itself.false

pub returns : goal.returns
returns c = spelled-all c.loop-i.invariant c.loop-i-test.false
