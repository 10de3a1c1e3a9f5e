-- `put_reference` puts the reference, and a URI with its length or inline data.
-- Assumes nothing.
use Rattle.title_nodes.proofs.Nodes.{reference-uri, reference-inline}
use Rattle.title_nodes.proofs.put_reference.Goals as goal

pub returns-then-reference-eq4 : goal.returns-then-reference-eq4
returns-then-reference-eq4 c = reference-uri c.args.file.now c.args.reference c.args.place.0 c.args.size
    c.put_number-a.ensures c.requires c.if-reference-eq4.true c.put_number-b.ensures
    c.put_part.ensures

pub returns : goal.returns
returns c = reference-inline c.args.file.now c.args.reference c.args.place.0 c.args.size
    c.put_number-a.ensures c.if-reference-eq4.false c.put_part-2.ensures
