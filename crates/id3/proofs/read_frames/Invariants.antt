-- `read_frames` counts the frames and keeps the one asked for. The invariant: what is left of them, behind those so far, is the whole; these are counted, and the one was kept
-- if it is among them; no frame is shorter than a byte. The measure is what is left of the tag.
-- Assumes nothing.
use Prim.Native.Nat.{◌-◌, ◌≤◌}
use Rattle.id3.proofs.Ways.{Walking}
use Rattle.id3.proofs.read_frames.Given as goal

abbrev pub invariant-loop-end : goal.invariant-loop-end
invariant-loop-end l = Walking l.tag l.end.0 l.initial.next.at.0 l.want l.count l.kept l.next.at.0 × (l.count ≤ l.next.at.0)

abbrev pub decreases-loop-end : goal.decreases-loop-end
decreases-loop-end l = l.end.0 - l.next.at.0
