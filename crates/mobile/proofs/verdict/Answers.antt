-- `verdict` gives the number of the first check that fails.
-- Assumes nothing.
use mathlib.Core.Bool.{not}
use mathlib.Core.Path.{refl, ap}
use Rattle.rows.specs.Rows.{nodes_in, items_in}
use Rattle.mobile.proofs.Checks.{stop, skip, verdict-by}
use Rattle.mobile.proofs.verdict.Goals as goal

pub returns-then-not-right_edition : goal.returns-then-not-right_edition
returns-then-not-right_edition c = λ h e. verdict-by c.args.file.now h (nodes_in c.args.s.nodes c.args.nodes.now)
    (items_in c.args.s.items c.args.items.now) e c.right_edition.ensures (stop 1 _ (refl) (ap not c.if-not-right_edition.true))

pub files_only-requires : goal.files_only-requires
files_only-requires c = c.requires.node-room

pub returns-then-not-files_only : goal.returns-then-not-files_only
returns-then-not-files_only c = λ h e. verdict-by c.args.file.now h (nodes_in c.args.s.nodes c.args.nodes.now)
    (items_in c.args.s.items c.args.items.now) e c.right_edition.ensures
    (skip 1 (refl) (ap not c.if-not-right_edition.false) (stop 2 _ c.files_only.ensures (ap not c.if-not-files_only.true)))

pub plain_references-requires : goal.plain_references-requires
plain_references-requires c = c.requires.node-room

pub returns-then-not-plain_references : goal.returns-then-not-plain_references
returns-then-not-plain_references c = λ h e. verdict-by c.args.file.now h (nodes_in c.args.s.nodes c.args.nodes.now)
    (items_in c.args.s.items c.args.items.now) e c.right_edition.ensures
    (skip 1 (refl) (ap not c.if-not-right_edition.false)
    (skip 2 c.files_only.ensures (ap not c.if-not-files_only.false) (stop 3 _ c.plain_references.ensures (ap not c.if-not-plain_references.true))))

pub no_unpackers-requires : goal.no_unpackers-requires
no_unpackers-requires c = c.requires.node-room

pub returns-then-not-no_unpackers : goal.returns-then-not-no_unpackers
returns-then-not-no_unpackers c = λ h e. verdict-by c.args.file.now h (nodes_in c.args.s.nodes c.args.nodes.now)
    (items_in c.args.s.items c.args.items.now) e c.right_edition.ensures
    (skip 1 (refl) (ap not c.if-not-right_edition.false)
    (skip 2 c.files_only.ensures (ap not c.if-not-files_only.false)
    (skip 3 c.plain_references.ensures (ap not c.if-not-plain_references.false)
    (stop 4 _ c.no_unpackers.ensures (ap not c.if-not-no_unpackers.true)))))

pub later_verdict-requires : goal.later_verdict-requires
later_verdict-requires c = c.requires

pub returns : goal.returns
returns c = λ h e. verdict-by c.args.file.now h (nodes_in c.args.s.nodes c.args.nodes.now)
    (items_in c.args.s.items c.args.items.now) e c.right_edition.ensures
    (skip 1 (refl) (ap not c.if-not-right_edition.false)
    (skip 2 c.files_only.ensures (ap not c.if-not-files_only.false)
    (skip 3 c.plain_references.ensures (ap not c.if-not-plain_references.false)
    (skip 4 c.no_unpackers.ensures (ap not c.if-not-no_unpackers.false) c.later_verdict.ensures))))
