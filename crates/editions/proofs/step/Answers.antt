-- `step` gives the state after a line.
-- Assumes nothing.
use mathlib.Core.Path.{ap}
use Rattle.editions.specs.Told.{line_told}
use Rattle.editions.proofs.Judging.{node-apart, node-second, node-late, node-first, item_back, item-absent, item_on, no_line}
use Rattle.editions.proofs.step.Goals as goal

pub returns-then-k-t : goal.returns-then-k-t
returns-then-k-t c = node-apart c.args.second c.args.t (ap line_told c.in-Node.is) c.if-k-t.true

pub returns-then-second : goal.returns-then-second
returns-then-second c = node-second c.args.second c.args.t (ap line_told c.in-Node.is) c.if-k-t.false c.if-second.true

pub returns-then-t-ne0 : goal.returns-then-t-ne0
returns-then-t-ne0 c = node-late c.args.second c.args.t (ap line_told c.in-Node.is) c.if-k-t.false c.if-second.false c.if-t-ne0.true

pub returns-then-k-t-2 : goal.returns-then-k-t-2
returns-then-k-t-2 c = item_back c.args.second c.args.t (ap line_told c.in-Item.is) c.if-k-t-2.true

pub returns-then-t-k : goal.returns-then-t-k
returns-then-t-k c = item-absent c.args.second c.args.t (ap line_told c.in-Item.is) c.if-k-t-2.false c.if-t-k.true

pub returns-in-Other : goal.returns-in-Other
returns-in-Other c = no_line c.args.second c.args.t (ap line_told c.in-Other.is)

pub returns-else-t-ne0 : goal.returns-else-t-ne0
returns-else-t-ne0 c = node-first c.args.second c.args.t (ap line_told c.in-Node.is) c.if-k-t.false c.if-second.false c.if-t-ne0.false

pub returns-else-t-k : goal.returns-else-t-k
returns-else-t-k c = item_on c.args.second c.args.t (ap line_told c.in-Item.is) c.if-k-t-2.false c.if-t-k.false
