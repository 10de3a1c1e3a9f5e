-- `mend` leaves what the question says, whichever way it goes.
-- Assumes nothing.
use mathlib.Core.List.{[]}
use lib.ListN.{length}
use mathlib.Core.Path.{sym, ◌∙◌}
use native.Mathlib.Omega.{arith}
use Rattle.metadata.specs.Tables.{limits}
use Rattle.mend.proofs.Asked.{fields-are, fields-no, few, fields_in, any_types, last-is, sound_facts, refused-fields, lens, ends_lens, unsound, lost_behind, ends_set}
use Rattle.mend.proofs.mend.Goals as goal

pub refuse_unchanged-requires : goal.refuse_unchanged-requires
refuse_unchanged-requires c = refused-fields _ c.args.file.now (fields-no _ _ c.read_fields.ensures.answer c.in_default.is)

pub last_of-last-requires : goal.last_of-last-requires
last_of-last-requires c = (fields_in c.args.file.now (fields-are _ _ c.read_fields.ensures.answer c.in-Ok.is)).start_small

pub is_sound-requires : goal.is_sound-requires
is_sound-requires c = λ ws. any_types _ _ ws (fields_in c.args.file.now (fields-are _ _ c.read_fields.ensures.answer c.in-Ok.is))

pub refuse_unchanged-requires-then-not-is_sound : goal.refuse_unchanged-requires-then-not-is_sound
refuse_unchanged-requires-then-not-is_sound c = unsound _ c.args.file.now (fields-are _ _ c.read_fields.ensures.answer c.in-Ok.is) (last-is c.args.file.now _ c.last_of-last.ensures) (sym (c.is_sound.ensures _) ∙ c.if-not-is_sound.true)

pub returns-then-not-is_sound : goal.returns-then-not-is_sound
returns-then-not-is_sound c = record {
  answer = c.refuse_unchanged-then-not-is_sound.ensures.answer;
  nodes = c.refuse_unchanged-then-not-is_sound.ensures.nodes;
  items = c.refuse_unchanged-then-not-is_sound.ensures.items;
  copy = c.refuse_unchanged-then-not-is_sound.ensures.copy;
  lines = c.refuse_unchanged-then-not-is_sound.ensures.lines;
}

pub read_behind-requires : goal.read_behind-requires
read_behind-requires c = let x = sound_facts _ _ _ (sym (c.is_sound.ensures []) ∙ c.if-not-is_sound.false) in
    let y = few c.read_fields.ensures.listed c.in-Ok.is in
    (x.ordered, x.inside, (fields_in c.args.file.now (fields-are _ _ c.read_fields.ensures.answer c.in-Ok.is)).small, omega arith)

pub refuse_unchanged-requires-in-Err : goal.refuse_unchanged-requires-in-Err
refuse_unchanged-requires-in-Err c = lens c.args.file.now c.read_behind.auto.nodes c.read_behind.auto.items
    (lost_behind (limits (length c.args.nodes.now) (length c.args.items.now)) c.args.file.now (fields-are _ _ c.read_fields.ensures.answer c.in-Ok.is)
    (last-is c.args.file.now _ c.last_of-last.ensures) (sym (c.is_sound.ensures _) ∙ c.if-not-is_sound.false) c.read_behind.ensures.answer c.in-Err.is)

pub write_mended-requires : goal.write_mended-requires
write_mended-requires c = λ ws. any_types _ _ ws (fields_in c.args.file.now (fields-are _ _ c.read_fields.ensures.answer c.in-Ok.is))

pub returns-in_default : goal.returns-in_default
returns-in_default c = record {
  answer = c.refuse_unchanged.ensures.answer;
  nodes = c.refuse_unchanged.ensures.nodes;
  items = c.refuse_unchanged.ensures.items;
  copy = c.refuse_unchanged.ensures.copy;
  lines = c.refuse_unchanged.ensures.lines;
}

pub returns-in-Err : goal.returns-in-Err
returns-in-Err c = let e = ends_lens c.args.file.now c.read_behind.auto.nodes c.read_behind.auto.items c.refuse_unchanged-in-Err.ensures in
    record {
      answer = e.answer;
      nodes = e.nodes;
      items = e.items;
      copy = e.copy;
      lines = e.lines;
    }

pub returns-in-Ok-read_behind : goal.returns-in-Ok-read_behind
returns-in-Ok-read_behind c = let e = ends_set c.args.file.now (length c.args.nodes.now) (length c.args.items.now) (length c.args.copy.now)
    (length c.args.lines.now) (fields-are _ _ c.read_fields.ensures.answer c.in-Ok.is) (last-is c.args.file.now _ c.last_of-last.ensures)
    (sym (c.is_sound.ensures _) ∙ c.if-not-is_sound.false) c.read_behind.ensures.answer c.in-Ok-read_behind.is c.read_behind.ensures.nodes c.read_behind.ensures.items c.read_behind.auto.nodes
    c.read_behind.auto.items (c.write_mended.ensures _) in
    record {
      answer = e.answer;
      nodes = e.nodes;
      items = e.items;
      copy = e.copy;
      lines = e.lines;
    }
