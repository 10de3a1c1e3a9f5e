-- `nibble` gives what `nibble` gives.
-- Assumes nothing.
use native.Mathlib.Omega.{arith}
use Rattle.editions.proofs.Texts.{nibble-none, nibble-digit, nibble-letter}
use Rattle.editions.proofs.nibble.Goals as goal

pub returns-then-v-lt48 : goal.returns-then-v-lt48
returns-then-v-lt48 c = (nibble-none _ c.wide-v.ensures.0 c.if-v-lt48.true, omega arith)

pub returns-then-v-lt97 : goal.returns-then-v-lt97
returns-then-v-lt97 c = (nibble-digit _ c.wide-v.ensures.0 c.if-v-lt97.true, omega (arith, c.wide-v.ensures.1))

pub returns : goal.returns
returns c = (nibble-letter _ c.wide-v.ensures.0 c.if-v-lt97.false, omega (arith, c.wide-v.ensures.1))
