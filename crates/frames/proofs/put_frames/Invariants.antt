-- `put_frames` puts the lines of all frames. The invariant: those of the frames before frame i were put.
-- Assumes nothing.
use Rattle.frames.proofs.Tagging.{Framing}
use Rattle.frames.proofs.put_frames.Given as goal

abbrev pub invariant-loop-i : goal.invariant-loop-i
invariant-loop-i l = Framing l.tag l.count l.initial.out l.out l.next l.i
