-- `index_of` gives a place of the table.
-- Assumes nothing.
use mathlib.Core.Path.{refl}
use native.Mathlib.Omega.{arith}
use Rattle.description.proofs.Ways.{product}
use Rattle.description.proofs.index_of.Goals as goal

pub returns-then-channels-channel : goal.returns-then-channels-channel
returns-then-channels-channel c = λ h k. absurd (omega arith)

pub returns-then-resources-resource : goal.returns-then-resources-resource
returns-then-resources-resource c = λ h k. absurd (omega arith)

pub overflow_mul-result : goal.overflow_mul-result
overflow_mul-result c = omega (arith, product c.args.channel c.args.resources (omega arith) (omega arith))

pub overflow_add-result : goal.overflow_add-result
overflow_add-result c = omega (arith, product c.args.channel c.args.resources (omega arith) (omega arith))

pub returns : goal.returns
returns c = λ h k. refl
