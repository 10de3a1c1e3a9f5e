-- The unchanged file is refused, and that is the answer.
-- Assumes nothing.
use lib.ListN.{length}
use Rattle.mend.proofs.Exits.{ends_refused, never_read}
use Rattle.mend.proofs.refuse_unchanged.Goals as goal

pub returns : goal.returns
returns c = ends_refused c.args.file.now (length c.args.nodes.now) (length c.args.items.now) c.requires c.read_file.ensures.answer c.in-Err.is c.read_file.ensures.nodes c.read_file.ensures.items (c.fill.ensures.after (λ _ e. e)) (c.fill-2.ensures.after (λ _ e. e))

pub unreachable-requires : goal.unreachable-requires
unreachable-requires c = never_read c.args.file.now (length c.args.nodes.now) (length c.args.items.now) c.requires c.read_file.ensures.answer c.in-Ok.is
