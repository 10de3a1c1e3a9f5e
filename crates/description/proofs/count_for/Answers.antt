-- `count_for` answers what the question answers of the file's reading; the tables keep the rows, and are cleared on a refusal.
-- Assumes nothing.
use lib.ListN.{length, replicate}
use mathlib.Core.Logic.{inl, inr}
use mathlib.Core.Path.{◌∙◌, ap, sym, refl}
use Rattle.refusals.proofs.Passing.{passed_on}
use Rattle.description.proofs.Exits.{ends_unread, rows_inside, ends_counted}
use Rattle.description.proofs.count_for.Goals as goal

pub count_row-counted-requires : goal.count_row-counted-requires
count_row-counted-requires c = rows_inside c.args.file.now (length c.args.nodes.now) (length c.args.items.now) c.args.item_row
    c.args.channel c.args.resource c.read_file.ensures.answer c.read_file.ensures.nodes
    c.read_file.ensures.items c.in_ok-s.was

pub returns-in_err-s : goal.returns-in_err-s
returns-in_err-s c = let w = ends_unread c.args.file.now (length c.args.nodes.now) (length c.args.items.now) c.args.item_row
    c.args.channel c.args.resource c.read_file.ensures.answer c.read_file.ensures.nodes
    c.read_file.ensures.items c.in_err-s.was in rw (passed_on c.from_residual.ensures.1) (record { answer = w.0; nodes = w.1; items = w.2 })

pub returns-then-is_err : goal.returns-then-is_err
returns-then-is_err c = let w = ends_counted c.args.file.now (length c.args.nodes.now) (length c.args.items.now) c.args.item_row
    c.args.channel c.args.resource c.read_file.ensures.answer c.read_file.ensures.nodes
    c.read_file.ensures.items c.in_ok-s.was c.count_row-counted.result c.count_row-counted.ensures
    (inl (
      sym c.is_err.ensures.value ∙ c.if-is_err.true,
      c.clear_all.ensures.nodes ∙ ap (λ k. replicate k 0) c.read_file.auto.nodes,
      c.clear_all.ensures.items ∙ ap (λ k. replicate k 0) c.read_file.auto.items,
    )) in
    record { answer = w.0; nodes = w.1; items = w.2 }

pub returns-else-is_err : goal.returns-else-is_err
returns-else-is_err c = let w = ends_counted c.args.file.now (length c.args.nodes.now) (length c.args.items.now) c.args.item_row
    c.args.channel c.args.resource c.read_file.ensures.answer c.read_file.ensures.nodes
    c.read_file.ensures.items c.in_ok-s.was c.count_row-counted.result c.count_row-counted.ensures
    (inr (sym c.is_err.ensures.value ∙ c.if-is_err.false, refl, refl)) in
    record { answer = w.0; nodes = w.1; items = w.2 }
