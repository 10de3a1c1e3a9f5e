-- `read_behind` leaves answer and tables as `read_tree` says, under a header that was read: filled, and cleared behind the rows; on a refusal, cleared.
-- Assumes nothing.
use Rattle.header.specs.Told.{header_of}
use Rattle.file.proofs.Whole.{whole-stands, whole-fits, whole-good, whole-lost, whole-refused, whole_room}
use native.Mathlib.Omega.{arith}
use Rattle.file.proofs.read_behind.Goals as goal

pub read_root-requires : goal.read_root-requires
read_root-requires c = omega (arith, c.requires, whole_room c.room_of-lim.ensures)

pub follow_all-requires : goal.follow_all-requires
follow_all-requires c = let w = whole-stands c.args.file.now c.args.nodes.now c.args.items.now (header_of c.args.h c.args.types.now)
    c.args.h.extent.end.0 (c.requires.0, c.requires.1, c.requires.2) c.room_of-lim.ensures c.read_root.ensures c.read_root.auto.nodes
    c.read_root.auto.items c.in-Ok.is in
    let z = whole_room c.room_of-lim.ensures in (omega arith, w)

pub overflow_mul-m : goal.overflow_mul-m
overflow_mul-m c = let f = whole-fits c.args.file.now c.args.nodes.now c.args.items.now (header_of c.args.h c.args.types.now) c.args.h.extent.end.0
    (c.requires.0, c.requires.1, c.requires.2) c.room_of-lim.ensures
    c.read_root.ensures c.read_root.auto.nodes c.read_root.auto.items c.in-Ok.is c.follow_all.ensures c.follow_all.auto.nodes
    c.follow_all.auto.items c.in-Ok-follow_all.is in omega (arith, f, whole_room c.room_of-lim.ensures)

pub overflow_mul-m-in-Ok-follow_all : goal.overflow_mul-m-in-Ok-follow_all
overflow_mul-m-in-Ok-follow_all c = let f = whole-fits c.args.file.now c.args.nodes.now c.args.items.now (header_of c.args.h c.args.types.now) c.args.h.extent.end.0
    (c.requires.0, c.requires.1, c.requires.2) c.room_of-lim.ensures
    c.read_root.ensures c.read_root.auto.nodes c.read_root.auto.items c.in-Ok.is c.follow_all.ensures c.follow_all.auto.nodes
    c.follow_all.auto.items c.in-Ok-follow_all.is in omega (arith, f, whole_room c.room_of-lim.ensures)

pub returns-in-Err : goal.returns-in-Err
returns-in-Err c = let w = whole-refused c.args.file.now c.args.nodes.now c.args.items.now (header_of c.args.h c.args.types.now)
    c.args.h.extent.end.0 (c.requires.0, c.requires.1, c.requires.2) c.room_of-lim.ensures c.read_root.ensures c.read_root.auto.nodes
    c.read_root.auto.items c.in-Err.is c.clear_all.ensures.nodes c.clear_all.ensures.items in record {
      answer = w.0;
      nodes = w.1;
      items = w.2;
    }

pub returns-in-Err-follow_all : goal.returns-in-Err-follow_all
returns-in-Err-follow_all c = let w = whole-lost c.args.file.now c.args.nodes.now c.args.items.now (header_of c.args.h c.args.types.now) c.args.h.extent.end.0
    (c.requires.0, c.requires.1, c.requires.2) c.room_of-lim.ensures
    c.read_root.ensures c.read_root.auto.nodes c.read_root.auto.items c.in-Ok.is c.follow_all.ensures c.follow_all.auto.nodes
    c.follow_all.auto.items c.in-Err-follow_all.is c.clear_all-in-Err-follow_all.ensures.nodes c.clear_all-in-Err-follow_all.ensures.items in record {
      answer = w.0;
      nodes = w.1;
      items = w.2;
    }

pub returns-in-Ok-follow_all : goal.returns-in-Ok-follow_all
returns-in-Ok-follow_all c = let w = whole-good c.args.file.now c.args.nodes.now c.args.items.now (header_of c.args.h c.args.types.now) c.args.h.extent.end.0
    (c.requires.0, c.requires.1, c.requires.2) c.room_of-lim.ensures
    c.read_root.ensures c.read_root.auto.nodes c.read_root.auto.items c.in-Ok.is c.follow_all.ensures c.follow_all.auto.nodes
    c.follow_all.auto.items c.in-Ok-follow_all.is c.fill_from.ensures c.fill_from-in-Ok-follow_all.ensures
    in record {
      answer = w.0;
      nodes = w.1;
      items = w.2;
    }
