-- `name_bytes` has the bytes of a name.
-- Assumes nothing.
use Rattle.std.proofs.Common.{rules}
use Rattle.frames.specs.Tags.{name_bytes}
use Rattle.frames.proofs.name_bytes.Goals as goal

pub returns : goal.returns
unfolding name_bytes
returns c = search rules
