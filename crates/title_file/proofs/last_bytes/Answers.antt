-- `last_bytes` gives the least count for TreeEnd.
-- Assumes nothing.
use Rattle.title_nodes.proofs.Lengths.{last_found}
use Rattle.title_file.proofs.last_bytes.Goals as goal

pub returns : goal.returns
returns c = last_found c.args.fixed c.args.tree c.args.x c.args.y c.requires.2 c.self_bytes.ensures
