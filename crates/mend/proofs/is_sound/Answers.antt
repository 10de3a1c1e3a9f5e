-- `is_sound` says what `sound_for` says.
-- Assumes nothing.
use mathlib.Core.Bool.{not}
use mathlib.Core.Path.{ap}
use mathlib.Core.List.{[]}
use native.Mathlib.Omega.{arith}
use Rattle.mend.specs.Told.{fields_of}
use Rattle.mend.proofs.Exits.{no_length, no_last, no-behind, no-order, by_end}
use Rattle.mend.proofs.is_sound.Goals as goal

pub overflow_sub-a1 : goal.overflow_sub-a1
overflow_sub-a1 c = omega (arith, c.requires [])

pub fits_in-requires : goal.fits_in-requires
fits_in-requires c = omega (arith, c.requires [])

pub returns-then-not-fits_in : goal.returns-then-not-fits_in
returns-then-not-fits_in c = λ ws. no_length c.args.size (fields_of c.args.w ws) c.args.last c.fits_in.ensures (ap not c.if-not-fits_in.true)

pub overflow_sub-b1 : goal.overflow_sub-b1
overflow_sub-b1 c = omega (arith, c.requires [])

pub fits_in-requires-2 : goal.fits_in-requires-2
fits_in-requires-2 c = omega (arith, c.requires [])

pub returns-then-not-fits_in-2 : goal.returns-then-not-fits_in-2
returns-then-not-fits_in-2 c = λ ws. no_last c.args.size (fields_of c.args.w ws) c.args.last c.fits_in.ensures (ap not c.if-not-fits_in.false) c.fits_in-2.ensures (ap not c.if-not-fits_in-2.true)

pub returns-then-start-b1 : goal.returns-then-start-b1
returns-then-start-b1 c = λ ws. no-behind c.args.size (fields_of c.args.w ws) c.args.last c.fits_in.ensures (ap not c.if-not-fits_in.false) c.fits_in-2.ensures (ap not c.if-not-fits_in-2.false) c.if-start-b1.true

pub returns-then-last-start : goal.returns-then-last-start
returns-then-last-start c = λ ws. no-order c.args.size (fields_of c.args.w ws) c.args.last c.fits_in.ensures (ap not c.if-not-fits_in.false) c.fits_in-2.ensures (ap not c.if-not-fits_in-2.false) c.if-start-b1.false c.if-last-start.true

pub returns : goal.returns
returns c = λ ws. by_end c.args.size (fields_of c.args.w ws) c.args.last c.fits_in.ensures (ap not c.if-not-fits_in.false) c.fits_in-2.ensures (ap not c.if-not-fits_in-2.false) c.if-start-b1.false c.if-last-start.false
