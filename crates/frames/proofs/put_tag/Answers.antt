-- `put_tag` puts the lines that are asked for, or tells the refusal.
-- Assumes nothing.
use Rattle.needs.proofs.Needing.{puts-as}
use Rattle.frames.proofs.Tagging.{tag-all, tag_one}
use Rattle.frames.proofs.put_tag.Goals as goal

pub returns-in-All : goal.returns-in-All
returns-in-All c = puts-as c.args.out.now c.put_frames.new.out 0 c.put_frames.result (tag-all c.args.tag.now c.in-All.is) c.put_frames.ensures

pub returns-in-One : goal.returns-in-One
returns-in-One c = puts-as c.args.out.now c.put_one.new.out 0 c.put_one.result (tag_one c.args.tag.now c.in-One.is) c.put_one.ensures
