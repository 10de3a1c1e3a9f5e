-- An item row that was found stands in the item table; so its line can be put.
-- Assumes nothing.
use mathlib.Core.Path.{◌≡◌, refl, sym, ap, subst, ◌∙◌}
use mathlib.Core.Bool.{Bool, true, false, cond}
use mathlib.Core.List.{List, [], ◌∷◌, ◌++◌}
use Prim.Native.Nat.{ℕ, suc, ◌+◌, ◌*◌, ◌≤◌, ◌<◌}
use native.Mathlib.Omega.{arith}
use lib.Dec.{ltb}
use lib.ListN.{length}
use Rattle.cursor.specs.declared.Node.{Node}
use Rattle.cursor.specs.declared.Item.{Item}
use Rattle.header.specs.Header.{Header}
use Rattle.metadata.specs.Tables.{full_nodes, full_items, limits}
use Rattle.rows.specs.Rows.{item_width, item_from, item_at, ItemIn}
use Rattle.room.specs.Room.{Result, good, bad}
use Rattle.file.specs.Reading.{Reading, rows, read_of, read_file, summary, node_table, item_table}
use Rattle.file.specs.Asking.{ask, kept_items}
use Rattle.file.specs.Own.{Numbered, numbered, those, own}
use Rattle.file.proofs.Rows.{Standing, standing}
use Rattle.rows.proofs.Rows.{item-at, items-in_length}
use Rattle.file.proofs.Own.{item-rows}
use Rattle.sheet.specs.Sheet.{visible_line}
use Rattle.find.specs.Find.{Wanted, matches, among, look, or_else, first_answer, path, nearest, find, find_own}
use Rattle.find.specs.Told.{told, question}
use Rattle.std.proofs.Common as std
use Rattle.std.proofs.Common.{Ok, Err}
use Rattle.refusals.specs.declared.Refusal.{Refusal}
use Rattle.lines.specs.Answer.{plainly, fitted}
use Rattle.tables.specs.Rows.{item_row, found_lines, found_by, found_answer}
use Rattle.lines.proofs.Reading.{asked-good, asked-rows}

pub found-is : (f : List ℕ) (i : ℕ) (r : Item) {x : Item} → x ≡ r → item_row 0x49 i x ++ visible_line f r ≡ found_lines f (record { row = i; item = r })
unfolding found_lines
found-is f i r e = rw e

-- ---- rows with their numbers in the table

abbrev pub Stands : List Item → Numbered → Type 0
Stands is n = (n.row < length is) × (item_at is n.row ≡ n.item)

abbrev Each : (Numbered → Type 0) → List Numbered → Type 0
Each P [] = Unit {0}
Each P (x ∷ xs) = P x × Each P xs

module _ (P : Numbered → Type 0) where
  each-if : (b : Bool) (x : Numbered) (xs : List Numbered) → P x → Each P xs → Each P (cond b (x ∷ xs) xs)
  each-if true x xs p ps = (p, ps)
  each-if false x xs p ps = ps

  each-those : (p : Numbered → Bool) (xs : List Numbered) → Each P xs → Each P (those p xs)
  unfolding those
  each-those p [] ps = ps
  each-those p (x ∷ xs) ps = each-if (p x) x (those p xs) ps.0 (each-those p xs ps.1)

  of_two : (b : Bool) (x n : Numbered) (y : Result Numbered) → P x → (y ≡ good n → P n) → cond b (good x) y ≡ good n → P n
  of_two true x n y p q e = let z : x ≡ n = cc in subst P z p
  of_two false x n y p q e = q e

  each-among : (f : List ℕ) (w : Wanted) (xs : List Numbered) (n : Numbered) → Each P xs → among f w xs ≡ good n → P n
  unfolding among
  each-among f w [] n ps e = let z : ◌≡◌ {A = ℕ} 0 1 = cc in absurd (omega arith)
  each-among f w (x ∷ xs) n ps e = of_two (matches f w x.item) x n (among f w xs) ps.0 (each-among f w xs n ps.1) e

  of_else : (a b : Result Numbered) (n : Numbered) → (a ≡ good n → P n) → (b ≡ good n → P n) → or_else a b ≡ good n → P n
  unfolding or_else
  of_else (good x) b n p q e = p e
  of_else (bad m k) b n p q e = q e

  of_first : (looks : ℕ → Result Numbered) (ks : List ℕ) (n : Numbered) → ((k : ℕ) → looks k ≡ good n → P n) → first_answer looks ks ≡ good n → P n
  unfolding first_answer
  of_first looks [] n p e = let z : ◌≡◌ {A = ℕ} 0 1 = cc in absurd (omega arith)
  of_first looks (k ∷ ks) n p e = of_else (looks k) (first_answer looks ks) n (p k) (of_first looks ks n p) e

  of_cond : (b : Bool) (a : Result Numbered) (m q : ℕ) (n : Numbered) → (a ≡ good n → P n) → cond b a (bad m q) ≡ good n → P n
  of_cond true a m q n p e = p e
  of_cond false a m q n p e = let z : ◌≡◌ {A = ℕ} 0 1 = cc in absurd (omega arith)

each-numbered : (is : List Item) (i : ℕ) (rs : List Item) → ((j : ℕ) → j < length rs → (i + j < length is) × (item_at is (i + j) ≡ item_at rs j)) → Each (Stands is) (numbered i rs)
unfolding numbered
each-numbered is i [] h = tt
each-numbered is i (r ∷ rs) h =
    let z : i + 0 ≡ i = omega arith in
    let a = h 0 (omega arith) in (
      (rw z at a.0, rw z at a.1),
      each-numbered is (i + 1) rs
          (λ j l. let y : i + 1 + j ≡ i + suc j = omega arith in let b = h (suc j) (omega arith) in (rw y b.0, rw y b.1)),
    )

own-stand : (is : List Item) (k : ℕ) → Each (Stands is) (own is k)
unfolding own
own-stand is k = each-those (Stands is) _ (numbered 0 is) (each-numbered is 0 is (λ j l. let z : 0 + j ≡ j = omega arith in (rw z l, rw z refl)))

look-stands : (f : List ℕ) (w : Wanted) (is : List Item) (k : ℕ) (n : Numbered) → look f w is k ≡ good n → Stands is n
unfolding look
look-stands f w is k n e = each-among (Stands is) f w (own is k) n (own-stand is k) e

pub stands : (climbs : Bool) (w : Wanted) (row : ℕ) (f : List ℕ) (h : Header) (ns : List Node) (is : List Item) (n : Numbered) → question
    climbs w row f h ns is ≡ good n → Stands is n
unfolding find find_own nearest
stands true w row f h ns is n e = of_cond (Stands is) (ltb row (length ns)) _ _ _ n (of_first (Stands is) (look f w is) (path ns row) n (λ k. look-stands f w is k n)) e
stands false w row f h ns is n e = of_cond (Stands is) (ltb row (length ns)) _ _ _ n (look-stands f w is row n) e

-- ---- after a find

kept-good : {A : Type 0} (size : ℕ) (o : Reading) {x : Result A} {a : A} → x ≡ good a → kept_items size o x ≡ item_table size o
unfolding kept_items
kept-good size o e = rw e

module _ (f : List ℕ) {n i : ℕ} (en : full_nodes ≡ n) (ei : full_items ≡ i) (room : ℕ) (climbs : Bool) (w : Wanted) (row : ℕ) {r : std.Result (ℕ × Item) Refusal}
    (e : told r ≡ ask (read_file (limits n i) f) (question climbs w row f)) where
  module _ {k : ℕ} {item : Item} (g : r ≡ Ok (k, item)) {u : List ℕ}
      (t : u ≡ kept_items i (read_file (limits n i) f) (ask (read_file (limits n i) f) (question climbs w row f))) where
    outcome : ask (read_file (limits n i) f) (question climbs w row f) ≡ good (record { row = k; item = item })
    outcome = sym e ∙ ap told g

    -- the tables hold the file's rows, and the row that was found is one of them
    record There : Type 0 where
      inside : k * item_width + item_width ≤ length u
      good-row : ItemIn (length f) (item_from u (k * item_width))
      same : item_from u (k * item_width) ≡ item

    there : There
    unfolding read_of
    there =
        let a = asked-rows (read_file (limits n i) f) (question climbs w row f) outcome in
        let h = a.0 in let ns = a.1 in let is = a.2 in
        let z = stands climbs w row f h ns is (record { row = k; item = item }) a.4 in
        let st = standing f (limits n i) n i {s = summary h ns is} {r = Ok (summary h ns is)} (sym (ap read_of a.3))
        {t = node_table n (read_file (limits n i) f)} {u = u} refl (t ∙ kept-good i (read_file (limits n i) f) outcome) refl in
        let rs = item-rows st in
        let c : length is ≡ length st.is = sym (items-in_length u (length is)) ∙ ap length st.items-are in
        let l : k < length is = z.0 in let x = item-at u (length is) k l in
        record { inside = omega (arith, rs.0); good-row = rs.1 k l; same = sym x ∙ ap (λ v. item_at v k) st.items-are ∙ rest h ns is a.3 st ∙ z.1 }
      where
        rest : (h : Header) (ns : List Node) (is : List Item) → read_file (limits n i) f ≡ rows h ns is →
            (st : Standing f (read_file (limits n i) f) (summary h ns is) (node_table n (read_file (limits n i) f)) u) → item_at st.is k ≡ item_at is k
        rest h ns is e st = ap (λ v. item_at v k) (same-items (sym st.reads ∙ e))
          where
            same-items : {h h' : Header} {ns ns' : List Node} {is is' : List Item} → rows h ns is ≡ rows h' ns' is' → is ≡ is'
            same-items e = cc

    pub found-there : (k * item_width + item_width ≤ length u) × ItemIn (length f) (item_from u (k * item_width))
    found-there = let x = there in (x.inside, x.good-row)

    pub found-good : fitted room [] (plainly (found_lines f (record { row = k; item = item_from u (k * item_width) }))) ≡ found_answer room climbs w row f
    unfolding found_answer
    found-good = rw there.same (asked-good f en ei (question climbs w row f) (found_by f) room [] e (ap told g))
