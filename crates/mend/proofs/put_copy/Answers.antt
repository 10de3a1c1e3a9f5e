-- The file, and both fields.
-- Assumes nothing.
use mathlib.Core.List.{[]}
use native.Mathlib.Omega.{arith}
use Rattle.mend.specs.Told.{fields_of}
use Rattle.mend.proofs.Exits.{copied}
use Rattle.mend.proofs.put_copy.Goals as goal

pub set_field-requires : goal.set_field-requires
set_field-requires c = omega (arith, c.requires.0 [], c.requires.1, c.store.auto.xs)

pub set_field-requires-2 : goal.set_field-requires-2
set_field-requires-2 c = omega (arith, c.requires.0 [], c.requires.1, c.store.auto.xs, c.set_field.auto.copy)

pub returns : goal.returns
returns c = λ ws. copied c.args.file.now (fields_of c.args.w ws) c.args.last c.args.copy.now (c.requires.0 ws) c.requires.1 c.store.ensures c.set_field.ensures c.set_field-2.ensures c.fill_from.ensures
