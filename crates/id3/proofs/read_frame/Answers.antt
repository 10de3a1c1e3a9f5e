-- `read_frame` gives what `frame` gives.
-- Assumes nothing.
use native.Mathlib.Omega.{arith}
use Rattle.cursor.specs.Told.{number_told}
use Rattle.machine.proofs.Laws.{was}
use Rattle.refusals.proofs.Passing.{passed_on}
use Rattle.id3.proofs.Ways.{from-four, frame-cut, frame-size, frame_past, frame-flags, frame-unsynchronised, frame-all}
use Rattle.id3.proofs.read_frame.Goals as goal

pub returns-then-left-lt4 : goal.returns-then-left-lt4
returns-then-left-lt4 c = frame-cut _ c.args.tag.now _ (omega arith)

pub returns-then-size-ne0 : goal.returns-then-size-ne0
returns-then-size-ne0 c = frame_past _ c.args.tag.now _ (omega arith)
    (from-four _ c.args.tag.now _ c.on.ensures
    (was number_told c.read_size.ensures c.in_ok-size.was))
    c.if-size-ne0.true (omega arith)

pub returns-then-left-lt10 : goal.returns-then-left-lt10
returns-then-left-lt10 c = frame-flags _ c.args.tag.now _ (omega arith)
    (from-four _ c.args.tag.now _ c.on.ensures
    (was number_told c.read_size.ensures c.in_ok-size.was))
    c.if-size-ne0.false (omega arith)

pub returns-then-left-size : goal.returns-then-left-size
returns-then-left-size c = frame_past _ c.args.tag.now _ (omega arith)
    (from-four _ c.args.tag.now _ c.on.ensures
    (was number_told c.read_size.ensures c.in_ok-size.was)) (λ z. omega arith) (omega arith)

pub returns-then-format-eq1 : goal.returns-then-format-eq1
returns-then-format-eq1 c = frame-unsynchronised _ c.args.tag.now _ (omega arith)
    (from-four _ c.args.tag.now _ c.on.ensures
    (was number_told c.read_size.ensures c.in_ok-size.was)) (omega arith) c.wide-format.ensures.0 c.if-format-eq1.true

pub returns-in_err-size : goal.returns-in_err-size
returns-in_err-size c = rw (passed_on c.from_residual.ensures.1) (frame-size _ c.args.tag.now _ (omega arith)
    (from-four _ c.args.tag.now _ c.on.ensures
    (was number_told c.read_size.ensures c.in_err-size.was)))

pub returns : goal.returns
returns c = frame-all _ c.args.tag.now _ (omega arith)
    (from-four _ c.args.tag.now _
    c.on.ensures
    (was number_told c.read_size.ensures
    c.in_ok-size.was)) (omega arith) c.wide-format.ensures.0 c.if-format-eq1.false
    c.wide-first.ensures.0 c.wide-second.ensures.0
    c.wide-third.ensures.0
    c.wide-fourth.ensures.0
