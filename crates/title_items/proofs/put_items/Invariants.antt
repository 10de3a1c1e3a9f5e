-- `put_items` puts rows. The invariant: of the whole, the rows from row k on are still to be put.
-- Assumes nothing.
use Rattle.room.proofs.Counting.{Going}
use Rattle.title_items.specs.Contents.{contents_from}
use Rattle.title_text.specs.Text.{items_text}
use Prim.Native.Nat.{◌-◌, ◌≤◌}
use Rattle.title_items.proofs.put_items.Given as goal

abbrev pub invariant-loop-k : goal.invariant-loop-k
invariant-loop-k l = (l.first ≤ l.k) × (l.k ≤ l.end) × Going l.initial.out l.out l.to l.next
    (items_text (contents_from l.file l.row l.title l.items l.first (l.end - l.first))) (items_text (contents_from l.file l.row l.title l.items l.k (l.end - l.k)))
