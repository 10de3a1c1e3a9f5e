-- `read_first` reads the first line.
-- Assumes nothing.
use Rattle.editions.specs.Told.{WordAt}
use Rattle.editions.proofs.Places.{as_told}
use Rattle.editions.proofs.First.{lead-none}
use Rattle.editions.proofs.read_first.Goals as goal

pub read_counts-requires : goal.read_counts-requires
read_counts-requires c = as_told (WordAt c.args.line.now) c.read_word.ensures c.in_ok-second.was

pub returns-in_err-second : goal.returns-in_err-second
returns-in_err-second c = rw c.from_residual.ensures (λ e. lead-none c.args.line.now (as_told (WordAt c.args.line.now) c.read_word.ensures c.in_err-second.was) e)
