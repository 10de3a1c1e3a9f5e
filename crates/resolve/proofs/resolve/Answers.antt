-- `resolve` answers what the question answers of the file's reading; the tables keep the rows, and are cleared on a refusal.
-- Assumes nothing.
use lib.ListN.{length, replicate}
use mathlib.Core.Path.{◌∙◌, ap}
use Rattle.resolve.proofs.Exits.{ends_unread, rows-linked, rows-room, tree-among, rows-rising, ends_refused, ends_at}
use Rattle.refusals.proofs.Passing.{passed_on}
use Rattle.resolve.proofs.resolve.Goals as goal

pub resolve_row-requires : goal.resolve_row-requires
resolve_row-requires c = (
  rows-room c.args.file.now (length c.args.nodes.now) (length c.args.items.now) c.args.row
      c.read_file.ensures.answer c.read_file.ensures.nodes c.read_file.ensures.items
      c.in_ok-s.was,
  rows-linked c.args.file.now (length c.args.nodes.now) (length c.args.items.now)
      c.args.row c.read_file.ensures.answer c.read_file.ensures.nodes
      c.read_file.ensures.items c.in_ok-s.was,
  tree-among c.args.file.now (length c.args.nodes.now)
      (length c.args.items.now) c.args.row c.read_file.ensures.answer c.read_file.ensures.nodes
      c.read_file.ensures.items c.in_ok-s.was,
  rows-rising c.args.file.now (length c.args.nodes.now)
      (length c.args.items.now) c.args.row c.read_file.ensures.answer c.read_file.ensures.nodes
      c.read_file.ensures.items c.in_ok-s.was,
)

pub returns-in_err-s : goal.returns-in_err-s
returns-in_err-s c = let w = ends_unread c.args.file.now (length c.args.nodes.now) (length c.args.items.now) c.args.row
    c.read_file.ensures.answer c.read_file.ensures.nodes c.read_file.ensures.items c.in_err-s.was in
    rw (passed_on c.from_residual.ensures.1) (record { answer = w.0; nodes = w.1; items = w.2 })

pub returns-in-Err : goal.returns-in-Err
returns-in-Err c = let w = ends_refused c.args.file.now (length c.args.nodes.now) (length c.args.items.now) c.args.row
    c.read_file.ensures.answer c.read_file.ensures.nodes c.read_file.ensures.items
    c.in_ok-s.was _ c.resolve_row.ensures c.in-Err.is
    (c.clear_all.ensures.nodes ∙ ap (λ n. replicate n 0) c.read_file.auto.nodes)
    (c.clear_all.ensures.items ∙ ap (λ n. replicate n 0) c.read_file.auto.items) in record {
      answer = w.0;
      nodes = w.1;
      items = w.2;
    }

pub returns-in-Ok : goal.returns-in-Ok
returns-in-Ok c = let w = ends_at c.args.file.now (length c.args.nodes.now) (length c.args.items.now) c.args.row
    c.read_file.ensures.answer c.read_file.ensures.nodes c.read_file.ensures.items
    c.in_ok-s.was _ c.resolve_row.ensures c.in-Ok.is in record {
      answer = w.0;
      nodes = w.1;
      items = w.2;
    }
