-- `read_table` gives what `table` gives, and the count in it.
-- Assumes nothing.
use native.Mathlib.Omega.{arith}
use Rattle.cursor.specs.Told.{number_told}
use Rattle.refusals.proofs.Passing.{passed_on}
use Rattle.machine.proofs.Laws.{was}
use Rattle.description.proofs.Ways.{product, table-cut, table-left, table-channel, table-resource, table-count}
use Rattle.description.proofs.read_table.Goals as goal

pub overflow_mul-channels : goal.overflow_mul-channels
overflow_mul-channels c = omega (arith, product c.args.channels c.args.resources (omega arith) (omega arith))

pub returns-then-after-end : goal.returns-then-after-end
returns-then-after-end c = table-left _ _ _ _ _ _ _ _ (was number_told c.read_numbers.ensures c.in_ok-count.was) c.if-after-end.true

pub returns-then-channels-channel : goal.returns-then-channels-channel
returns-then-channels-channel c = table-channel _ _ _ _ _ _ _ _ (was number_told c.read_numbers.ensures c.in_ok-count.was) c.if-after-end.false c.if-channels-channel.true

pub returns-then-resources-resource : goal.returns-then-resources-resource
returns-then-resources-resource c = table-resource _ _ _ _ _ _ _ _ (was number_told c.read_numbers.ensures c.in_ok-count.was) c.if-after-end.false c.if-channels-channel.false c.if-resources-resource.true

pub returns-in_err-count : goal.returns-in_err-count
returns-in_err-count c = rw (passed_on c.from_residual.ensures.1) (table-cut _ _ _ _ _ _ _ _ (was number_told c.read_numbers.ensures c.in_err-count.was))

pub returns : goal.returns
returns c = table-count _ _ _ _ _ _ _ _ (was number_told c.read_numbers.ensures c.in_ok-count.was) c.if-after-end.false
    c.if-channels-channel.false c.if-resources-resource.false c.index_of-index.ensures
