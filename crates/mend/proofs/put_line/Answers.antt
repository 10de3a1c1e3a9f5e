-- `put_line` puts what `line` gives.
-- Assumes nothing.
use Rattle.mend.specs.Told.{field_of}
use Rattle.mend.proofs.Ways.{line_same, line-is}
use Rattle.mend.proofs.put_line.Goals as goal

pub returns-then-x-n : goal.returns-then-x-n
returns-then-x-n c = line_same c.args.name.now (field_of c.args.x) _ c.if-x-n.true c.put_bytes.ensures

pub returns : goal.returns
returns c = line-is c.args.name.now (field_of c.args.x) _ c.if-x-n.false c.put_bytes-a.ensures c.put_tabbed-b.ensures c.put_tabbed-c.ensures c.put_tabbed-d.ensures c.put_byte.ensures
