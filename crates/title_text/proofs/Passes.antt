-- What the two passes of the code come to: sizes from the last row to the first, and bytes from the first row to the last.
-- Assumes nothing.
use mathlib.Core.Path.{◌≡◌, refl, sym, ap, ◌∙◌}
use mathlib.Core.List.{List, [], ◌∷◌, ◌++◌, append_assoc, map}
use Prim.Native.Nat.{ℕ, zero, suc, ◌+◌}
use lib.ListN.{length, take, drop, length-append, take-append-drop}
use Rattle.room.specs.Parts.{joined}
use Rattle.title_text.specs.Description.{Content, Shape}
use Rattle.title_text.specs.Text.{node_text, whole_text, outer}

abbrev pub lengths : List (List ℕ) → List ℕ
lengths ss = map length ss

abbrev pub total : List ℕ → ℕ
total [] = 0
total (n ∷ ns) = n + total ns

-- the sizes of the nodes that no other of these holds: a stack, of which a node takes as many as it holds
unfoldable pub sizes_of : List Shape → List Content → List ℕ
sizes_of [] cs = []
sizes_of (r ∷ rs) cs =
    (length (node_text r (take r.rows cs) (total (take r.contained (sizes_of rs (drop r.rows cs))))) + total
    (take r.contained (sizes_of rs (drop r.rows cs)))) ∷ drop r.contained (sizes_of rs (drop r.rows cs))

take-lengths : (n : ℕ) (ss : List (List ℕ)) → take n (lengths ss) ≡ lengths (take n ss)
take-lengths zero ss = refl
take-lengths (suc n) [] = refl
take-lengths (suc n) (s ∷ ss) = ap (λ v. length s ∷ v) (take-lengths n ss)

drop-lengths : (n : ℕ) (ss : List (List ℕ)) → drop n (lengths ss) ≡ lengths (drop n ss)
drop-lengths zero ss = refl
drop-lengths (suc n) [] = refl
drop-lengths (suc n) (s ∷ ss) = drop-lengths n ss

total-lengths : (ss : List (List ℕ)) → total (lengths ss) ≡ length (joined ss)
total-lengths [] = refl
total-lengths (s ∷ ss) = ap (λ n. length s + n) (total-lengths ss) ∙ sym (length-append s (joined ss))

-- the first pass
pub sizes_are : (rs : List Shape) (cs : List Content) → sizes_of rs cs ≡ lengths (outer rs cs)
unfolding outer whole_text sizes_of
sizes_are [] cs = refl
sizes_are (r ∷ rs) cs =
    let inner : List (List ℕ) = take r.contained (outer rs (drop r.rows cs)) in
    rw (
      sizes_are rs (drop r.rows cs),
      take-lengths r.contained (outer rs (drop r.rows cs)),
      drop-lengths r.contained
          (outer rs (drop r.rows cs)),
      total-lengths inner,
      length-append (node_text r (take r.rows cs) (length (joined inner)))
          (joined inner),
    ) refl

-- ---- the second pass

pub joined-append : (a b : List (List ℕ)) → joined (a ++ b) ≡ joined a ++ joined b
joined-append [] b = refl
joined-append (s ∷ a) b = ap (λ v. s ++ v) (joined-append a b) ∙ sym (append_assoc s (joined a) (joined b))

-- a node's own bytes, and then those of the rows after it
pub in_row_order : (r : Shape) (rs : List Shape) (cs : List Content)
    → joined (outer (r ∷ rs) cs) ≡ node_text r (take r.rows cs) (length (joined (take r.contained (outer rs (drop r.rows cs))))) ++ joined (outer rs (drop r.rows cs))
unfolding outer whole_text sizes_of
in_row_order r rs cs =
    let os : List (List ℕ) = outer rs (drop r.rows cs) in
    let t : List ℕ = node_text r (take r.rows cs) (length (joined (take r.contained os))) in
    append_assoc t (joined (take r.contained os)) (joined (drop r.contained os)) ∙ ap (λ v. t ++ v)
    (sym (joined-append (take r.contained os) (drop r.contained os)) ∙ ap joined (take-append-drop r.contained os))
