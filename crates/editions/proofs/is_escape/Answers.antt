-- `is_escape` judges an escape.
-- Assumes nothing.
use native.Mathlib.Omega.{arith}
use Rattle.editions.proofs.Texts.{escape_great, escape_plain, escape_high, escape_low}
use Rattle.editions.proofs.is_escape.Goals as goal

pub overflow_mul-v : goal.overflow_mul-v
overflow_mul-v c = omega (arith, c.nibble.ensures.1)

pub overflow_add-v : goal.overflow_add-v
overflow_add-v c = omega (arith, c.nibble.ensures.1, c.nibble-2.ensures.1)

pub returns-then-v-ge256 : goal.returns-then-v-ge256
returns-then-v-ge256 c = escape_great _ _ c.nibble.ensures.0 c.nibble-2.ensures.0 c.if-v-ge256.true

pub returns-then-is_plain : goal.returns-then-is_plain
returns-then-is_plain c = escape_plain _ _ c.nibble.ensures.0 c.nibble-2.ensures.0 c.if-v-ge256.false c.is_plain.ensures c.if-is_plain.true

pub returns-then-x-hex : goal.returns-then-x-hex
returns-then-x-hex c = escape_high _ _ c.nibble.ensures.0 c.nibble-2.ensures.0 c.if-v-ge256.false
    c.is_plain.ensures c.if-is_plain.false c.requires c.if-x-hex.true

pub returns : goal.returns
returns c = escape_low _ _ c.nibble.ensures.0 c.nibble-2.ensures.0 c.if-v-ge256.false c.is_plain.ensures c.if-is_plain.false c.requires c.if-x-hex.false
