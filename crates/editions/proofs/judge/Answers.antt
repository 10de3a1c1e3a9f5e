-- `judge` judges a sheet.
-- Assumes nothing.
use mathlib.Core.Path.{sym}
use native.Mathlib.Omega.{arith}
use Rattle.machine.proofs.Laws.{was}
use Rattle.editions.specs.Told.{LeadAt, body_told}
use Rattle.editions.proofs.Places.{next-piece, as_told, was_some, was_none, passed_on}
use Rattle.editions.proofs.Judging.{lent, one_line_lem, no_lead, bad-body, bad-nodes, bad-items, well}
use Rattle.editions.proofs.judge.Goals as goal

pub returns-then-sheet-stop : goal.returns-then-sheet-stop
returns-then-sheet-stop c = one_line_lem c.args.sheet.now (next-piece 0x0A c.args.sheet.now 0 (omega arith) c.piece_end-stop.ensures.1) c.if-sheet-stop.true

pub returns-then-t-nodes : goal.returns-then-t-nodes
returns-then-t-nodes c = let told = as_told (LeadAt _) c.read_first.ensures (was_some _ _ c.ok_or.ensures.value c.in_ok-second.was) in
    let line = lent c.args.sheet.now 0 c.piece_end-stop.result (omega arith) c.piece_end-stop.ensures.0 in
    let piece = next-piece 0x0A c.args.sheet.now 0 (omega arith) c.piece_end-stop.ensures.1 in
    bad-nodes c.args.sheet.now piece c.if-sheet-stop.false line told (sym (was body_told c.judge_body.ensures c.in_ok-t.was)) c.if-t-nodes.true

pub returns-then-items-t : goal.returns-then-items-t
returns-then-items-t c = let told = as_told (LeadAt _) c.read_first.ensures (was_some _ _ c.ok_or.ensures.value c.in_ok-second.was) in
    let line = lent c.args.sheet.now 0 c.piece_end-stop.result (omega arith) c.piece_end-stop.ensures.0 in
    let piece = next-piece 0x0A c.args.sheet.now 0 (omega arith) c.piece_end-stop.ensures.1 in
    bad-items c.args.sheet.now piece c.if-sheet-stop.false line told (sym (was body_told c.judge_body.ensures c.in_ok-t.was)) c.if-t-nodes.false c.if-items-t.true

pub returns-in_err-second : goal.returns-in_err-second
returns-in_err-second c = let none = was_none _ _ c.ok_or.ensures.value c.in_err-second.was in
    let told = as_told (LeadAt _) c.read_first.ensures none.0 in
    let line = lent c.args.sheet.now 0 c.piece_end-stop.result (omega arith) c.piece_end-stop.ensures.0 in
    let piece = next-piece 0x0A c.args.sheet.now 0 (omega arith) c.piece_end-stop.ensures.1 in
    rw (passed_on c.from_residual.ensures.1, none.1) (no_lead c.args.sheet.now piece c.if-sheet-stop.false line told)

pub returns-in_err-t : goal.returns-in_err-t
returns-in_err-t c = let told = as_told (LeadAt _) c.read_first.ensures (was_some _ _ c.ok_or.ensures.value c.in_ok-second.was) in
    let line = lent c.args.sheet.now 0 c.piece_end-stop.result (omega arith) c.piece_end-stop.ensures.0 in
    let piece = next-piece 0x0A c.args.sheet.now 0 (omega arith) c.piece_end-stop.ensures.1 in
    rw (passed_on c.from_residual-in_err-t.ensures.1) (bad-body c.args.sheet.now piece c.if-sheet-stop.false line told (sym (was body_told c.judge_body.ensures c.in_err-t.was)))

pub returns : goal.returns
returns c = let told = as_told (LeadAt _) c.read_first.ensures (was_some _ _ c.ok_or.ensures.value c.in_ok-second.was) in
    let line = lent c.args.sheet.now 0 c.piece_end-stop.result (omega arith) c.piece_end-stop.ensures.0 in
    let piece = next-piece 0x0A c.args.sheet.now 0 (omega arith) c.piece_end-stop.ensures.1 in
    well c.args.sheet.now piece c.if-sheet-stop.false line told (sym (was body_told c.judge_body.ensures c.in_ok-t.was)) c.if-t-nodes.false c.if-items-t.false
