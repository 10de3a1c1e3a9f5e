-- The look at a run of item rows, row by row.
-- Assumes nothing.
use mathlib.Core.Path.{◌≡◌, sym, ap, ◌∙◌}
use mathlib.Core.Bool.{Bool, true, false, cond}
use mathlib.Core.List.{List}
use Prim.Native.Nat.{ℕ, ◌+◌, ◌*◌, ◌≤◌, ◌<◌}
use native.Mathlib.Omega.{arith}
use Rattle.cursor.specs.declared.Item.{Item}
use Rattle.rows.specs.Rows.{item_width, items_in, item_from}
use Rattle.file.specs.Asking.{Result, good, bad}
use Rattle.file.specs.Own.{Numbered, numbered, part}
use Rattle.rows.proofs.Rows.{item-at, items-in_length}
use Rattle.file.proofs.Own.{part-next, part_none}
use Rattle.find.specs.Find.{Wanted, matches, among}

-- the look at the rows from i on and before `end`
abbrev pub looked : List ℕ → Wanted → List Item → (i end : ℕ) → Result Numbered
looked f w is i end = among f w (numbered i (part is i end))

module _ (f : List ℕ) (w : Wanted) (ws : List ℕ) (m first end i : ℕ) (h : looked f w (items_in m ws) first end ≡ looked f w (items_in m ws) i end) where
  module _ (l : i < end) (in_table : end ≤ m) {r : Item} (e : r ≡ item_from ws (i * item_width)) {b : Bool} (t : b ≡ matches f w r) where
    -- the row, if it is of that field, or else the others
    step : looked f w (items_in m ws) first end ≡ cond b (good (record { row = i; item = r })) (looked f w (items_in m ws) (i + 1) end)
    unfolding numbered among
    step = h
        ∙ ap (λ (v : List Item). among f w (numbered i v)) (part-next (items_in m ws) i end l (omega (arith, items-in_length ws m)))
        ∙ ap (λ (x : Item). cond (matches f w x) (good (record { row = i; item = x })) (looked f w (items_in m ws) (i + 1) end)) (item-at ws m i (omega arith) ∙ sym e)
        ∙ ap (λ (x : Bool). cond x (good (record { row = i; item = r })) (looked f w (items_in m ws) (i + 1) end)) (sym t)

    pub row_found : b ≡ true → good (record { row = i; item = r }) ≡ looked f w (items_in m ws) first end
    row_found k = sym (step ∙ simp k)

    pub row_other : b ≡ false → looked f w (items_in m ws) first end ≡ looked f w (items_in m ws) (i + 1) end
    row_other k = step ∙ simp k

  pub row_none : end ≤ i → bad 23 0 ≡ looked f w (items_in m ws) first end
  unfolding numbered among
  row_none l = sym (h ∙ ap (λ (v : List Item). among f w (numbered i v)) (part_none (items_in m ws) i end l))
