-- `copy_entry` puts a type, its string format, and the language's name with its length.
-- Assumes nothing.
use Rattle.title_parts.proofs.Copying.{type-no, format-no, language-no, entry_done, entry-put, number-was, copied-was, copied-answer, copied-puts, copied-no, copies-no}
use Rattle.room.proofs.Counting.{counts-as}
use Rattle.cursor.proofs.Leaves.{block_inside}
use Rattle.cursor.specs.Rows.{file_frame}
use Rattle.cursor.specs.Told.{number_told}
use Rattle.machine.proofs.Laws.{was}
use Rattle.refusals.proofs.Passing.{passed_on}
use native.Mathlib.Omega.{arith}
use Rattle.title_parts.proofs.copy_entry.Goals as goal

pub put_part-h-requires : goal.put_part-h-requires
put_part-h-requires c = omega (arith, block_inside file_frame 3 _ _ _ (was number_told (c.block.ensures file_frame) c.in_ok-size.was))

pub on-requires : goal.on-requires
on-requires c = omega (arith, c.requires, block_inside file_frame 3 _ _ _ (was number_told (c.block.ensures file_frame) c.in_ok-size.was))

pub returns-in_err-a : goal.returns-in_err-a
returns-in_err-a c = copies-no (passed_on c.from_residual.ensures.1) (type-no _ _ (copied-no (c.copy_number.ensures file_frame) c.in_err-a.was))

pub returns-in_err-b : goal.returns-in_err-b
returns-in_err-b c = let k = number-was file_frame _ _ (copied-answer (copied-was (c.copy_number.ensures file_frame) c.in_ok-a.was)) in
    copies-no (passed_on c.from_residual-in_err-b.ensures.1) (format-no _ _ k.read (copied-no (c.copy_number-2.ensures file_frame) c.in_err-b.was))

pub returns-in_err-size : goal.returns-in_err-size
returns-in_err-size c = let k = number-was file_frame _ _ (copied-answer (copied-was (c.copy_number.ensures file_frame) c.in_ok-a.was)) in
    let l = number-was file_frame _ _ (copied-answer (copied-was (c.copy_number-2.ensures file_frame) c.in_ok-b.was)) in
    copies-no (passed_on c.from_residual-in_err-size.ensures.1) (language-no _ _ k.read l.read (was number_told (c.block.ensures file_frame) c.in_err-size.was))

pub returns : goal.returns
returns c = let p = copied-was (c.copy_number.ensures file_frame) c.in_ok-a.was in
    let q = copied-was (c.copy_number-2.ensures file_frame) c.in_ok-b.was in
    let k = number-was file_frame _ _ (copied-answer p) in let l = number-was file_frame _ _ (copied-answer q) in
    record {
      is = (
        _,
        entry_done _ _ k.read l.read (was number_told (c.block.ensures file_frame) c.in_ok-size.was)
            c.on.ensures,
        entry-put _ _ _ _ (counts-as k.text (copied-puts p)) (counts-as l.text (copied-puts q))
            c.put_number-g.ensures c.put_part-h.ensures,
      );
    }
