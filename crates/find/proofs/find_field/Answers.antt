-- `find_field` answers and leaves both tables as `ask` says of the question: the reader's refusal, then 18, then what is found from the row.
-- Assumes nothing.
use lib.ListN.{length, replicate}
use mathlib.Core.Path.{◌∙◌, ap}
use Prim.Native.Nat.{ℕ}
use Rattle.metadata.specs.Tables.{limits}
use Rattle.file.specs.Reading.{read_file}
use Rattle.file.proofs.Rows.{standing}
use Rattle.file.proofs.Own.{tables}
use Rattle.find.specs.Told.{wanted_of}
use Rattle.find.proofs.Climbing.{says-refused, says-no_row, says-no_item, says-item}
use Rattle.refusals.proofs.Passing.{passed_on}
use Rattle.find.proofs.find_field.Goals as goal

pub returns-then-s-row : goal.returns-then-s-row
returns-then-s-row c = let w = says-no_row c.args.climbs c.args.file.now (wanted_of c.args.field c.args.name.now)
    c.args.row (length c.args.nodes.now) (length c.args.items.now)
    (standing c.args.file.now (limits (length c.args.nodes.now) (length c.args.items.now))
    (length c.args.nodes.now) (length c.args.items.now) c.read_file.ensures.answer
    c.read_file.ensures.nodes c.read_file.ensures.items c.in_ok-s.was) c.if-s-row.true
    (c.clear_all.ensures.nodes ∙ ap (λ (k : ℕ). replicate k 0) c.read_file.auto.nodes)
    (c.clear_all.ensures.items ∙ ap (λ (k : ℕ). replicate k 0) c.read_file.auto.items) in record {
      answer = w.0;
      nodes = w.1;
      items = w.2;
    }

pub found_by-requires : goal.found_by-requires
found_by-requires c = let d = (standing c.args.file.now (limits (length c.args.nodes.now) (length c.args.items.now))
    (length c.args.nodes.now) (length c.args.items.now) c.read_file.ensures.answer
    c.read_file.ensures.nodes c.read_file.ensures.items c.in_ok-s.was) in (tables _ _ d, c.if-s-row.false)

pub returns-in_err-s : goal.returns-in_err-s
returns-in_err-s c = let w = says-refused c.args.climbs c.args.file.now (wanted_of c.args.field c.args.name.now)
    c.args.row (length c.args.nodes.now) (length c.args.items.now)
    (read_file (limits (length c.args.nodes.now) (length c.args.items.now)) c.args.file.now)
    c.read_file.ensures.answer c.in_err-s.was c.read_file.ensures.nodes c.read_file.ensures.items in
    rw (passed_on c.from_residual.ensures.1) (record { answer = w.0; nodes = w.1; items = w.2 })

pub returns-in-Ok : goal.returns-in-Ok
returns-in-Ok c = let w = says-item c.args.climbs c.args.file.now (wanted_of c.args.field c.args.name.now) c.args.row
    (length c.args.nodes.now) (length c.args.items.now)
    (standing c.args.file.now (limits (length c.args.nodes.now) (length c.args.items.now))
    (length c.args.nodes.now) (length c.args.items.now) c.read_file.ensures.answer
    c.read_file.ensures.nodes c.read_file.ensures.items c.in_ok-s.was) c.if-s-row.false _
    c.found_by.ensures c.in-Ok.is c.read_file.ensures.nodes
    c.read_file.ensures.items in record {
      answer = w.0;
      nodes = w.1;
      items = w.2;
    }

pub returns-in-Err : goal.returns-in-Err
returns-in-Err c = let w = says-no_item c.args.climbs c.args.file.now (wanted_of c.args.field c.args.name.now)
    c.args.row (length c.args.nodes.now) (length c.args.items.now)
    (standing c.args.file.now (limits (length c.args.nodes.now) (length c.args.items.now))
    (length c.args.nodes.now) (length c.args.items.now) c.read_file.ensures.answer
    c.read_file.ensures.nodes c.read_file.ensures.items c.in_ok-s.was) c.if-s-row.false _
    c.found_by.ensures c.in-Err.is
    (c.clear_all-in-Err.ensures.nodes ∙ ap (λ (k : ℕ). replicate k 0) c.read_file.auto.nodes)
    (c.clear_all-in-Err.ensures.items ∙ ap (λ (k : ℕ). replicate k 0) c.read_file.auto.items) in record {
      answer = w.0;
      nodes = w.1;
      items = w.2;
    }
