-- `look` gives the first row of the field in the run. The invariant: what is left of the look is the whole.
-- Assumes nothing.
use mathlib.Core.Path.{◌≡◌}
use Rattle.rows.specs.Rows.{items_in}
use Rattle.find.specs.Told.{wanted_of}
use Rattle.find.proofs.Looking.{looked}
use Rattle.find.proofs.look.Given as goal

abbrev pub invariant-loop-i : goal.invariant-loop-i
invariant-loop-i l = looked l.file (wanted_of l.field l.name) (items_in l.m l.items) l.first l.end ≡ looked l.file (wanted_of l.field l.name) (items_in l.m l.items) l.i l.end
