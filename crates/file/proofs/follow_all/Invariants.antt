-- `follow_all` leaves what `follow` leaves. The invariant: what is left of the rows comes to what the whole comes to.
-- Assumes nothing.
use Prim.Native.Nat.{◌-◌}
use lib.ListN.{length}
use mathlib.Core.Path.{◌≡◌}
use Rattle.header.specs.Told.{header_of}
use Rattle.file.proofs.Growing.{Follows}
use Rattle.file.proofs.follow_all.Given as goal

abbrev pub invariant-loop-i : goal.invariant-loop-i
invariant-loop-i l = Follows l.lim l.file (header_of l.h l.types) l.made.nodes l.initial.nodes l.initial.items l.made l.i
    l.nodes l.items l.m l.span × (length l.nodes ≡ length l.initial.nodes) × (length l.items ≡ length l.initial.items)

abbrev pub decreases-loop-i : goal.decreases-loop-i
decreases-loop-i l = l.lim.nodes - l.i
