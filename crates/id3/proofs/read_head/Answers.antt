-- `read_head` gives what `head` gives.
-- Assumes nothing.
use native.Mathlib.Omega.{arith}
use Rattle.cursor.specs.Told.{number_told}
use Rattle.machine.proofs.Laws.{was}
use Rattle.refusals.proofs.Passing.{passed_on}
use Rattle.id3.proofs.Ways.{head_few, head-i, head-d, head_three, head-version, head-unsynchronised, head-size, head-long, head-all}
use Rattle.id3.proofs.read_head.Goals as goal

pub returns-then-tag-lt10 : goal.returns-then-tag-lt10
returns-then-tag-lt10 c = head_few c.args.tag.now c.if-tag-lt10.true

pub returns-then-tag-ne73 : goal.returns-then-tag-ne73
returns-then-tag-ne73 c = head-i c.args.tag.now c.if-tag-lt10.false c.if-tag-ne73.true

pub returns-then-tag-ne68 : goal.returns-then-tag-ne68
returns-then-tag-ne68 c = head-d c.args.tag.now c.if-tag-lt10.false c.if-tag-ne73.false c.if-tag-ne68.true

pub returns-then-tag-ne51 : goal.returns-then-tag-ne51
returns-then-tag-ne51 c = head_three c.args.tag.now c.if-tag-lt10.false c.if-tag-ne73.false c.if-tag-ne68.false c.if-tag-ne51.true

pub returns-then-tag-ne4 : goal.returns-then-tag-ne4
returns-then-tag-ne4 c = head-version c.args.tag.now c.if-tag-lt10.false c.if-tag-ne73.false c.if-tag-ne68.false c.if-tag-ne51.false c.if-tag-ne4.true

pub returns-then-flags-eq1 : goal.returns-then-flags-eq1
returns-then-flags-eq1 c = head-unsynchronised c.args.tag.now c.if-tag-lt10.false c.if-tag-ne73.false c.if-tag-ne68.false c.if-tag-ne51.false
    c.if-tag-ne4.false c.wide-flags.ensures.0 c.if-flags-eq1.true

pub returns-then-lent-size : goal.returns-then-lent-size
returns-then-lent-size c = head-long c.args.tag.now c.if-tag-lt10.false c.if-tag-ne73.false c.if-tag-ne68.false c.if-tag-ne51.false c.if-tag-ne4.false
    c.wide-flags.ensures.0 c.if-flags-eq1.false (was number_told c.read_size.ensures c.in_ok-size.was) (omega arith)

pub returns-in_err-size : goal.returns-in_err-size
returns-in_err-size c = rw (passed_on c.from_residual.ensures.1) (head-size c.args.tag.now c.if-tag-lt10.false c.if-tag-ne73.false c.if-tag-ne68.false c.if-tag-ne51.false c.if-tag-ne4.false
    c.wide-flags.ensures.0 c.if-flags-eq1.false (was number_told c.read_size.ensures c.in_err-size.was))

pub returns : goal.returns
returns c = head-all c.args.tag.now c.if-tag-lt10.false c.if-tag-ne73.false c.if-tag-ne68.false c.if-tag-ne51.false c.if-tag-ne4.false
    c.wide-flags.ensures.0 c.if-flags-eq1.false (was number_told c.read_size.ensures c.in_ok-size.was) (omega arith)
