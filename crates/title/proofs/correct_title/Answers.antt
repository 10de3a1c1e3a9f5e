-- `correct_title` answers, and leaves tables and buffer, as `correct_title` says of what the file reads as; what is written is read again.
-- Assumes nothing.
use native.Mathlib.Omega.{arith}
use mathlib.Core.Path.{sym}
use lib.ListN.{length}
use lib.Seq.{length-take-le}
use Rattle.file.proofs.Rows.{standing}
use Rattle.title.proofs.Asked.{asked-refused, reads_as, stands, asked-bad, file-inside, asked-good, zeros}
use Rattle.title.proofs.correct_title.Goals as goal

pub write_titled-requires : goal.write_titled-requires
write_titled-requires c = stands c.args.file.now (length c.args.nodes.now) (length c.args.items.now)
    (standing c.args.file.now _ _ _ c.read_file.ensures.answer c.read_file.ensures.nodes
    c.read_file.ensures.items c.in-Ok.is)

pub slice_bounds-written-end : goal.slice_bounds-written-end
slice_bounds-written-end c = let st = (standing c.args.file.now _ _ _ c.read_file.ensures.answer c.read_file.ensures.nodes
    c.read_file.ensures.items c.in-Ok.is) in omega (
      arith,
      file-inside c.args.file.now (length c.args.nodes.now) (length c.args.items.now) c.args.row
          c.args.title.now (length c.args.out.now) st
          (c.write_titled.ensures _ _
          (reads_as c.args.file.now (length c.args.nodes.now) (length c.args.items.now) st)) c.in-Ok-write_titled.is,
      c.fill_from.auto,
    )

pub slice_bounds-written-end-in-Ok-write_titled : goal.slice_bounds-written-end-in-Ok-write_titled
slice_bounds-written-end-in-Ok-write_titled c = let st = (standing c.args.file.now _ _ _ c.read_file.ensures.answer c.read_file.ensures.nodes
    c.read_file.ensures.items c.in-Ok.is) in sym
    (length-take-le _ _ (omega (
      arith,
      file-inside c.args.file.now (length c.args.nodes.now)
          (length c.args.items.now) c.args.row c.args.title.now (length c.args.out.now) st
          (c.write_titled.ensures _ _
          (reads_as c.args.file.now (length c.args.nodes.now) (length c.args.items.now) st)) c.in-Ok-write_titled.is,
      c.fill_from.auto,
    )))

pub returns-in-Err : goal.returns-in-Err
returns-in-Err c = let all = (asked-refused c.args.file.now (length c.args.nodes.now) (length c.args.items.now) c.args.row
    c.args.title.now (length c.args.out.now) c.read_file.ensures.answer c.in-Err.is
    c.read_file.ensures.nodes c.read_file.ensures.items (c.fill.ensures.after (λ _ e. e))) in record { answer = all.0; nodes = all.1.0; items = all.1.1.0; out = all.1.1.1 }

pub returns-in-Err-write_titled : goal.returns-in-Err-write_titled
returns-in-Err-write_titled c = let all = (let st = (standing c.args.file.now _ _ _ c.read_file.ensures.answer c.read_file.ensures.nodes
    c.read_file.ensures.items c.in-Ok.is) in asked-bad c.args.file.now (length c.args.nodes.now)
    (length c.args.items.now) c.args.row c.args.title.now (length c.args.out.now) st
    (c.write_titled.ensures _ _
    (reads_as c.args.file.now (length c.args.nodes.now) (length c.args.items.now) st)) c.in-Err-write_titled.is
    (zeros c.clear_all.ensures.nodes c.read_file.auto.nodes)
    (zeros c.clear_all.ensures.items c.read_file.auto.items)
    (zeros (c.fill-in-Err-write_titled.ensures.after (λ _ e. e)) c.write_titled.auto.out)) in record { answer = all.0; nodes = all.1.0; items = all.1.1.0; out = all.1.1.1 }

pub returns-in-Ok-write_titled : goal.returns-in-Ok-write_titled
returns-in-Ok-write_titled c = let all = (let st = (standing c.args.file.now _ _ _ c.read_file.ensures.answer c.read_file.ensures.nodes
    c.read_file.ensures.items c.in-Ok.is) in asked-good c.args.file.now (length c.args.nodes.now)
    (length c.args.items.now) c.args.row c.args.title.now (length c.args.out.now) st
    (c.write_titled.ensures _ _
    (reads_as c.args.file.now (length c.args.nodes.now) (length c.args.items.now) st)) c.in-Ok-write_titled.is
    c.write_titled.auto.out c.fill_from.ensures c.read_file.auto.nodes
    c.read_file.auto.items c.read_file-in-Ok-write_titled.ensures.nodes c.read_file-in-Ok-write_titled.ensures.items) in record { answer = all.0; nodes = all.1.0; items = all.1.1.0; out = all.1.1.1 }
