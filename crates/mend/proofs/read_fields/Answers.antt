-- The opening ends in the file.
-- Assumes nothing.
use native.Mathlib.Omega.{arith}
use lib.ListN.{length}
use Rattle.machine.proofs.Laws.{was}
use Rattle.machine.proofs.Wp.{at_end}
use Rattle.cursor.specs.Told.{number_told}
use Rattle.cursor.proofs.Leaves.{any_free}
use Rattle.header.proofs.Ends.{opening_on}
use Rattle.mend.proofs.read_fields.Goals as goal

pub read_edition-requires : goal.read_edition-requires
read_edition-requires c = omega (arith, at_end any_free c.args.file.now (opening_on (length c.args.file.now)) (was number_told c.read_opening.ensures c.in_ok-version.was))

pub read_types-requires : goal.read_types-requires
read_types-requires c = omega (arith, c.requires, at_end any_free c.args.file.now (opening_on (length c.args.file.now)) (was number_told c.read_opening.ensures c.in_ok-version.was))
