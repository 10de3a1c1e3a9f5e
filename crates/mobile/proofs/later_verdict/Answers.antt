-- `later_verdict` gives the number of the first of checks 5 to 8 that fails. Each exit goes back to what the code says of the children.
-- Assumes nothing.
use mathlib.Core.Bool.{not}
use mathlib.Core.Path.{refl, ap}
use Rattle.rows.specs.Rows.{nodes_in, items_in}
use Rattle.mobile.proofs.Checks.{stop, skip, later-by}
use Rattle.mobile.proofs.later_verdict.Goals as goal

pub returns-then-not-c : goal.returns-then-not-c
returns-then-not-c c = later-by c.args.file.now (nodes_in c.args.n c.args.nodes.now) (items_in c.args.m c.args.items.now) c.children_of-c.ensures
    (stop 5 _ refl c.if-not-c.true)

pub returns-then-not-one_tune : goal.returns-then-not-one_tune
returns-then-not-one_tune c = later-by c.args.file.now (nodes_in c.args.n c.args.nodes.now) (items_in c.args.m c.args.items.now) c.children_of-c.ensures
    (skip 5 refl c.if-not-c.false (stop 6 _ c.one_tune.ensures (ap not c.if-not-one_tune.true)))

pub tune_needs-requires : goal.tune_needs-requires
tune_needs-requires c = c.requires.item-rows

pub returns-then-not-tune_needs : goal.returns-then-not-tune_needs
returns-then-not-tune_needs c = later-by c.args.file.now (nodes_in c.args.n c.args.nodes.now) (items_in c.args.m c.args.items.now) c.children_of-c.ensures
    (skip 5 refl c.if-not-c.false (skip 6 c.one_tune.ensures (ap not c.if-not-one_tune.false) (stop 7 _ c.tune_needs.ensures (ap not c.if-not-tune_needs.true))))

pub small_fields-requires : goal.small_fields-requires
small_fields-requires c = (c.requires.node-room, c.requires.item-rows.0)

pub returns-then-not-small_fields : goal.returns-then-not-small_fields
returns-then-not-small_fields c = later-by c.args.file.now (nodes_in c.args.n c.args.nodes.now) (items_in c.args.m c.args.items.now) c.children_of-c.ensures
    (skip 5 refl c.if-not-c.false
    (skip 6 c.one_tune.ensures (ap not c.if-not-one_tune.false)
    (skip 7 c.tune_needs.ensures (ap not c.if-not-tune_needs.false) (stop 8 _ c.small_fields.ensures (ap not c.if-not-small_fields.true)))))

pub returns : goal.returns
returns c = later-by c.args.file.now (nodes_in c.args.n c.args.nodes.now) (items_in c.args.m c.args.items.now) c.children_of-c.ensures
    (skip 5 refl c.if-not-c.false
    (skip 6 c.one_tune.ensures (ap not c.if-not-one_tune.false)
    (skip 7 c.tune_needs.ensures (ap not c.if-not-tune_needs.false) (skip 8 c.small_fields.ensures (ap not c.if-not-small_fields.false) refl))))
