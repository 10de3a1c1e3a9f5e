-- Where a reference 3 leads: to a node that has a row, or to one outside header and tree.
-- Assumes nothing.
use Rattle.std.specs.Prelude.{List, [], ◌∷◌, Bool, false, cond, not, ◌&&◌, ◌||◌, ℕ, zero, suc, ◌+◌, ◌-◌, eqb, ltb, leb, length}
use Rattle.machine.specs.Machine.{Out, ok, refused, run}
use Rattle.cursor.specs.Rows.{reference_frame}
use Rattle.cursor.specs.Refusals.{cut_short}
use Rattle.cursor.specs.Leaves.{number}
use Rattle.cursor.specs.declared.Node.{Node}
use Rattle.header.specs.Header.{Header}

unfoldable pub starts_at : List Node → ℕ → Bool
starts_at [] p = false
starts_at (r ∷ rs) p = eqb r.start p || starts_at rs p

abbrev pub place_of : {A : Type 0} → Out A → ℕ
place_of (ok a p) = p
place_of (refused n p) = p

-- the place of a row's offset: after its reference, which stands after its header
unfoldable pub offset_at : List ℕ → Node → ℕ
offset_at f r = place_of (run (number reference_frame cut_short (length f)) f (r.start + r.header))

-- a row that refers to no node so far
unfoldable pub is_missing : List Node → Node → Bool
is_missing all r = eqb r.reference 3 && not (starts_at all r.target)

-- p lies in a file of `size` bytes, outside header and tree
unfoldable pub outside : Header → (size p : ℕ) → Bool
outside h size p = leb h.extent.end p && (ltb p size && (ltb p h.extent.start || ltb h.extent.last p))

-- the end of the part that p lies in: the tree's start, or the file's end
unfoldable pub part_end : Header → (size p : ℕ) → ℕ
part_end h size p = cond (ltb p h.extent.start) h.extent.start size

-- byte k is one of a detached node
unfoldable pub is_taken : List Node → (k : ℕ) → Bool
is_taken [] k = false
is_taken (r ∷ rs) k = (eqb r.detached 1 && (leb r.start k && ltb k (r.start + r.size))) || is_taken rs k

-- the first of n bytes from p on that a detached node has; the one behind them if none of them is
unfoldable pub first_of : List Node → (p n : ℕ) → ℕ
first_of rs p zero = p
first_of rs p (suc n) = cond (is_taken rs p) p (first_of rs (suc p) n)

-- the first byte from p on that a detached node has; `end` if none before that
unfoldable pub first_taken : List Node → (p end : ℕ) → ℕ
first_taken rs p end = first_of rs p (end - p)
