-- `read_rows` gives what `rows_for` gives.
-- Assumes nothing.
use Rattle.metadata.proofs.Gives.{along}
use Rattle.metadata.proofs.Ways.{rows-universal, rows-versions}
use Rattle.metadata.proofs.read_rows.Goals as goal

pub returns-in-Universal : goal.returns-in-Universal
returns-in-Universal c = λ t. along (rows-universal _ _ _ _ _ _ _ c.in-Universal.is) (c.read_universal.ensures _ t)

pub returns-in-Versions : goal.returns-in-Versions
returns-in-Versions c = λ t. along (rows-versions _ _ _ _ _ _ _ c.in-Versions.is) (c.read_versions.ensures t)
