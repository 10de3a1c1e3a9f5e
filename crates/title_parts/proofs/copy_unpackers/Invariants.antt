-- `copy_unpackers` puts one after the other. The invariant: what is put and what follows it are the whole.
-- Assumes nothing.
use Rattle.title_parts.proofs.Copying.{Copying}
use Rattle.title_text.specs.Description.{unpacker_text}
use Rattle.title_parts.proofs.copy_unpackers.Given as goal

abbrev pub invariant-loop-i : goal.invariant-loop-i
invariant-loop-i l = Copying l.file (unpacker_text l.file) l.initial.out l.out l.to l.count l.initial.at.at.0 l.next l.at.at.0 l._i
