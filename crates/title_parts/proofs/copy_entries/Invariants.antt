-- `copy_entries` puts one after the other. The invariant: what is put and what follows it are the whole.
-- Assumes nothing.
use Rattle.title_parts.proofs.Copying.{Copying}
use Rattle.title_text.specs.Description.{entry_text}
use Rattle.title_parts.proofs.copy_entries.Given as goal

abbrev pub invariant-loop-i : goal.invariant-loop-i
invariant-loop-i l = Copying l.file (entry_text l.file) l.initial.out l.out l.to l.count l.initial.at.at.0 l.next l.at.at.0 l._i
