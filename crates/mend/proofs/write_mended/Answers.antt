-- What is set, where there is room.
-- Assumes nothing.
use native.Mathlib.Omega.{arith}
use Rattle.mend.specs.Told.{fields_of}
use Rattle.room.proofs.Counting.{wrote-all}
use Rattle.mend.proofs.Exits.{set-short, set-narrow, set-good, zeros}
use Rattle.mend.proofs.write_mended.Goals as goal

pub returns-then-copy-file : goal.returns-then-copy-file
returns-then-copy-file c = λ ws. set-short c.args.file.now (fields_of c.args.w ws) c.args.last c.if-copy-file.true c.no_room.ensures.answer c.no_room.ensures.nodes c.no_room.ensures.items
    c.no_room.ensures.copy (zeros c.no_room.ensures.lines c.put_lines-n.auto.lines)

pub returns-then-lines-n : goal.returns-then-lines-n
returns-then-lines-n c = λ ws. set-narrow c.args.file.now (fields_of c.args.w ws) c.args.last c.if-copy-file.false (omega (arith, c.if-lines-n.true, c.put_lines-n.auto.lines, c.put_lines-n.ensures.after))
    c.no_room-then-lines-n.ensures.answer c.no_room-then-lines-n.ensures.nodes c.no_room-then-lines-n.ensures.items c.no_room-then-lines-n.ensures.copy (zeros c.no_room-then-lines-n.ensures.lines c.put_lines-n.auto.lines)

pub put_copy-requires : goal.put_copy-requires
put_copy-requires c = (c.requires, c.if-copy-file.false)

pub returns : goal.returns
returns c = λ ws. let v = wrote-all c.put_lines-n.ensures (omega (arith, c.if-lines-n.false, c.put_lines-n.auto.lines)) (omega (arith, c.well_formed)) c.fill_from.ensures in set-good
    c.args.file.now (fields_of c.args.w ws) c.args.last c.if-copy-file.false v.1 (omega (arith, c.if-lines-n.false, c.put_lines-n.auto.lines)) (c.put_copy.ensures ws) v.2
