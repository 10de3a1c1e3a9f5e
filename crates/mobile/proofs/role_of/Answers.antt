-- `role_of` says what `role_of` says: the rows of field 3 are looked for twice.
-- Assumes nothing.
use Rattle.file.proofs.Own.{row_in}
use Rattle.mobile.proofs.Roles.{role_none, role_two, role_one}
use native.Mathlib.Omega.{arith}
use Rattle.mobile.proofs.role_of.Goals as goal

pub returns-then-end-first : goal.returns-then-end-first
returns-then-end-first c = role_none c.args.file.now c.args.items.now c.args.many c.next_row-first.ensures c.if-end-first.true

pub returns-then-second-end : goal.returns-then-second-end
returns-then-second-end c = role_two c.args.file.now c.args.items.now c.args.many c.next_row-first.ensures c.if-end-first.false
    c.next_row-second.ensures c.if-second-end.true

pub role_of_row-requires : goal.role_of_row-requires
role_of_row-requires c = row_in c.args.items.now c.requires.0 (omega arith) c.item_at.ensures

pub returns : goal.returns
returns c = role_one c.args.file.now c.args.items.now c.args.many c.next_row-first.ensures c.if-end-first.false
    c.next_row-second.ensures c.if-second-end.false (omega arith) c.item_at.ensures c.role_of_row.ensures
