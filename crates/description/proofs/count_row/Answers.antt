-- `count_row` gives what `count_row` gives.
-- Assumes nothing.
use Rattle.file.proofs.Own.{row_in}
use Rattle.description.proofs.Exits.{row-none, row-there}
use Rattle.description.proofs.count_row.Goals as goal

pub returns-then-count-row : goal.returns-then-count-row
returns-then-count-row c = row-none c.args.file.now c.args.items.now c.args.count c.args.row c.args.channel c.args.resource c.if-count-row.true

pub count_in-requires : goal.count_in-requires
count_in-requires c = row_in c.args.items.now c.requires c.if-count-row.false c.item_at.ensures

pub returns : goal.returns
returns c = row-there c.args.file.now c.args.items.now c.args.count c.args.row c.args.channel
    c.args.resource c.if-count-row.false c.item_at.ensures c.count_in.ensures
