-- Two lines.
-- Assumes nothing.
use Rattle.mend.specs.Told.{field_of}
use Rattle.mend.proofs.Ways.{lines_are}
use Rattle.mend.proofs.put_lines.Goals as goal

pub returns : goal.returns
returns c = lines_are (field_of c.args.w.length) (field_of c.args.w.last) _ _ c.put_line-a.ensures c.put_line.ensures
