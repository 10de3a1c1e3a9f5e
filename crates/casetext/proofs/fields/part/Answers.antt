-- `casetext::fields::part` meets its contract. Assumes nothing.
use Rattle.casetext.proofs.Laws.{part-within, part-unmarked}
use Rattle.casetext.proofs.fields.part.Goals as goal

pub returns : goal.returns
returns c = record {
  within = part-within _ _ _ _ c.part_start-start.ensures c.find_mark-end.ensures;
  unmarked = part-unmarked _ _ _ _ c.part_start-start.ensures c.find_mark-end.ensures;
}
