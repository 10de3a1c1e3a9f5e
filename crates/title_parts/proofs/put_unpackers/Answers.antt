-- `put_unpackers` puts the length, and the unpackers as they stand in the file, or one by one.
-- Assumes nothing.
use Rattle.title_parts.proofs.Copying.{block_same, block-measured, block-empty, block-some, copied-was, copied-no}
use Rattle.title_text.specs.Description.{shape}
use Rattle.title_parts.proofs.put_unpackers.Goals as goal

pub returns-then-p-eq0 : goal.returns-then-p-eq0
returns-then-p-eq0 c = block-empty _ c.requires.1.size c.if-p-eq0.true c.put_number-a.ensures

pub put_part-requires : goal.put_part-requires
put_part-requires c = (c.requires.1.same c.if-p.true).0

pub returns-then-p : goal.returns-then-p
returns-then-p c = block_same c.requires.1.size (c.requires.1.same c.if-p.true).1 c.put_number-a.ensures c.put_part.ensures

pub returns-in-Err : goal.returns-in-Err
unfolding shape
returns-in-Err c = block-some _ (copied-no c.copy_unpackers.ensures c.in-Err.is) c.requires.1.size c.if-p-eq0.false

pub returns-in-Ok : goal.returns-in-Ok
unfolding shape
returns-in-Ok c = block-measured _ c.requires.1.size c.put_number-a.ensures (copied-was c.copy_unpackers.ensures c.in-Ok.is)
