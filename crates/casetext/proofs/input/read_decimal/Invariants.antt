-- What is left of the digits, after the value so far, spells what all of them spell. Assumes nothing.
use Rattle.std.proofs.Common.{◌≡◌, drop}
use Rattle.casetext.specs.Text.{value_from}
use Rattle.casetext.proofs.input.read_decimal.Given as goal

abbrev pub invariant-loop-b : goal.invariant-loop-b
invariant-loop-b l = value_from 0 l.digits ≡ value_from l.value (drop l.b-index l.digits)
