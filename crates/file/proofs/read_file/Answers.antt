-- `read_file` leaves answer and tables as `read_file` says.
-- Assumes nothing.
use Rattle.file.proofs.Whole.{header_is, header-no, few, whole-header, whole-behind, whole-within}
use native.Mathlib.Omega.{arith}
use Rattle.file.proofs.read_file.Goals as goal

pub read_behind-requires : goal.read_behind-requires
read_behind-requires c = let w = whole-within c.args.file.now (header_is _ _ c.read_header.ensures.answer c.in-Ok.is) in
    let y = few c.read_header.ensures.listed c.in-Ok.is in (w.0, w.1, w.2, omega arith)

pub returns-in-Err : goal.returns-in-Err
returns-in-Err c = let w = whole-header c.args.file.now c.args.nodes.now c.args.items.now c.clear_all.ensures.nodes
    c.clear_all.ensures.items (header-no _ _ c.read_header.ensures.answer c.in-Err.is) in record {
      answer = w.0;
      nodes = w.1;
      items = w.2;
    }

pub returns-in-Ok : goal.returns-in-Ok
returns-in-Ok c = let w = whole-behind c.args.file.now c.args.nodes.now c.args.items.now
    (header_is _ _ c.read_header.ensures.answer c.in-Ok.is)
    (c.read_behind.ensures.answer, c.read_behind.ensures.nodes, c.read_behind.ensures.items) in record {
      answer = w.0;
      nodes = w.1;
      items = w.2;
    }
