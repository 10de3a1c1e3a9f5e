-- `put_types` measures the table, and puts its length and it.
-- Assumes nothing.
use Rattle.title_parts.proofs.Copying.{block_none, block-copied, block-never, copied-was, copied-no}
use Rattle.title_parts.proofs.put_types.Goals as goal

pub returns-in_default : goal.returns-in_default
returns-in_default c = block_none _ (copied-no c.copy_table.ensures c.in_default.is) c.put_number.ensures

pub returns-in-Err : goal.returns-in-Err
returns-in-Err c = block-never _ (copied-was c.copy_table.ensures c.in-Ok.is) (copied-no c.copy_table-2.ensures c.in-Err.is)

pub returns-in-Ok-copy_table : goal.returns-in-Ok-copy_table
returns-in-Ok-copy_table c = block-copied _ (copied-was c.copy_table.ensures c.in-Ok.is) c.put_number-a.ensures
    (copied-was c.copy_table-2.ensures c.in-Ok-copy_table.is)
