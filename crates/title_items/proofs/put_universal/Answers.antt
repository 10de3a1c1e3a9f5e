-- `put_universal` counts string format and data, and puts their length and them.
-- Assumes nothing.
use Rattle.title_items.proofs.Putting.{text-sized}
use Rattle.title_items.proofs.put_universal.Goals as goal

pub returns : goal.returns
returns c = text-sized c.args.format c.args.bytes.now c.vlq_size.ensures c.on-n.ensures
    c.put_number-a.ensures c.put_text.ensures
