-- What is left of the digits, after the value so far, spells what the word spells.
-- Assumes nothing.
use Rattle.std.proofs.Common.{◌≡◌, ◌<◌, ◌^◌, drop}
use Rattle.spelling.specs.Spelling.{number_from}
use Rattle.spelling.proofs.decimal.Given as goal

abbrev pub invariant-loop-b : goal.invariant-loop-b
invariant-loop-b l = (number_from 0 l.word ≡ number_from l.value (drop l.b-index l.word)) × (l.value < 2 ^ 64)
