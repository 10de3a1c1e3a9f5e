-- `write_edition` answers, and leaves tables and sheet, as `write_in` says of what the file reads as.
-- Assumes nothing.
use Rattle.file.proofs.Rows.{standing}
use Rattle.file.proofs.Own.{item-rows}
use Rattle.sheet.proofs.Asked.{asked-refused, asked-good, asked-full, zeros}
use native.Mathlib.Omega.{arith}
use Rattle.sheet.proofs.write_edition.Goals as goal

pub put_sheet-end-requires : goal.put_sheet-end-requires
put_sheet-end-requires c = let w = standing c.args.file.now _ _ _ c.read_file.ensures.answer c.read_file.ensures.nodes c.read_file.ensures.items c.in-Ok.is in
    (w.node-room, item-rows w)

pub returns-then-sheet-end : goal.returns-then-sheet-end
returns-then-sheet-end c = let all = (let w = standing c.args.file.now _ _ _ c.read_file.ensures.answer c.read_file.ensures.nodes c.read_file.ensures.items
    c.in-Ok.is in
    asked-full c.args.second c.args.file.now _ _ c.args.sheet.now _ c.read_file.ensures.nodes c.read_file.ensures.items w c.put_sheet-end.ensures (omega (arith, c.if-sheet-end.true, c.put_sheet-end.auto.out))
    (zeros c.clear_all.ensures.nodes c.read_file.auto.nodes) (zeros c.clear_all.ensures.items c.read_file.auto.items) (zeros (c.fill-then-sheet-end.ensures.after (λ _ e. e)) c.put_sheet-end.auto.out)) in record { answer = all.0; nodes = all.1.0; items = all.1.1.0; sheet = all.1.1.1 }

pub returns-in-Err : goal.returns-in-Err
returns-in-Err c = let all = (asked-refused c.args.second c.args.file.now _ _ c.args.sheet.now _ c.read_file.ensures.nodes c.read_file.ensures.items c.read_file.ensures.answer
    c.in-Err.is (c.fill.ensures.after (λ _ e. e))) in record { answer = all.0; nodes = all.1.0; items = all.1.1.0; sheet = all.1.1.1 }

pub returns-else-sheet-end : goal.returns-else-sheet-end
returns-else-sheet-end c = let all = (let w = standing c.args.file.now _ _ _ c.read_file.ensures.answer c.read_file.ensures.nodes c.read_file.ensures.items
    c.in-Ok.is in
    asked-good c.args.second c.args.file.now _ _ c.args.sheet.now _ c.read_file.ensures.nodes c.read_file.ensures.items w c.put_sheet-end.ensures (omega (arith, c.if-sheet-end.false, c.put_sheet-end.auto.out))
    (omega (arith, c.well_formed)) c.fill_from.ensures) in record { answer = all.0; nodes = all.1.0; items = all.1.1.0; sheet = all.1.1.1 }
