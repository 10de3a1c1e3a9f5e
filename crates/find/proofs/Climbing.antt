-- The path and the climb, the way back over the node rows, and each exit of the question: answer and both tables.
-- Assumes nothing.
use mathlib.Core.Path.{◌≡◌, refl, sym, ap, ap₂, ◌∙◌}
use mathlib.Core.Bool.{Bool, true, false, cond}
use mathlib.Core.List.{List, [], ◌∷◌}
use Prim.Native.Nat.{ℕ, zero, suc, ◌+◌, ◌*◌, ◌-◌, ◌≤◌, ◌<◌}
use native.Mathlib.Omega.{arith}
use native.Mathlib.Decide.{dec_lt}
use lib.Dec.{ltb}
use lib.ListN.{length, replicate}
use borrow.Author.Tests.{lt-ltb, le-ltb}
use Rattle.cursor.specs.declared.Node.{Node}
use Rattle.cursor.specs.declared.Item.{Item}
use Rattle.std.proofs.Common.{Ok, Err}
use Rattle.std.proofs.Common as std
use Rattle.refusals.specs.Reasons.{number_of}
use Rattle.refusals.specs.declared.Refusal.{Refusal}
use Rattle.rows.specs.Rows.{node_width, node_from, nodes_in, items_in, node_at}
use Rattle.file.specs.Reading.{Reading, read_of, node_table, item_table}
use Rattle.refusals.specs.Told as refusals
use Rattle.file.specs.Asking.{Result, good, bad}
use Rattle.file.specs.Own.{Numbered, numbered, first_row, part, Tables}
use Rattle.file.specs.declared.Summary.{Summary}
use Rattle.rows.proofs.Rows.{node_at_lem, nodes-in_length}
use Rattle.file.proofs.Rows.{Standing}
use Rattle.file.proofs.Exits as exits
use Rattle.file.proofs.Own.{first_next, rows_in_lem, end-in, end-next, own-are}
use Rattle.find.specs.Find.{Wanted, among, look, rows_up, path, or_else, first_answer, nearest, find, find_own}
use Rattle.find.specs.Told.{told, found_by, question}

-- ---- the path

-- more rows than k + 1 change nothing
enough : (ns : List Node) (m n k : ℕ) → k < m → k < n → rows_up ns m k ≡ rows_up ns n k
unfolding rows_up
enough ns zero n k a b = absurd (omega arith)
enough ns (suc m) zero k a b = absurd (omega arith)
enough ns (suc m) (suc n) k a b = elim (dec_lt (node_at ns k).parent k) [
  | yes l ↦ ap (λ (v : List ℕ). k ∷ cond (ltb (node_at ns k).parent k) v []) (enough ns m n (node_at ns k).parent (omega arith) (omega arith))
  | no l ↦ (let e : ltb (node_at ns k).parent k ≡ false = le-ltb (node_at ns k).parent k (omega arith) in simp e)
]

module _ (ns : List Node) (k : ℕ) where
  -- the path of a row whose parent is itself
  pub path-top : k ≤ (node_at ns k).parent → path ns k ≡ k ∷ []
  unfolding path rows_up
  path-top h =
      let s : k + 1 ≡ suc k = omega arith in
      let e : ltb (node_at ns k).parent k ≡ false = le-ltb _ _ h in
      ap (λ (n : ℕ). rows_up ns n k) s ∙ simp e

  -- the path of any other: the row, and its parent's path
  pub path-up : (node_at ns k).parent < k → path ns k ≡ k ∷ path ns (node_at ns k).parent
  unfolding path rows_up
  path-up h =
      let q = (node_at ns k).parent in let s : k + 1 ≡ suc k = omega arith in
      let e : ltb (node_at ns k).parent k ≡ true = lt-ltb _ _ h in
      ap (λ (n : ℕ). rows_up ns n k) s ∙ simp e (ap (λ (v : List ℕ). k ∷ v) (enough ns k (q + 1) q h (omega arith)))

module _ (f : List ℕ) (w : Wanted) (ns : List Node) (is : List Item) (k : ℕ) where
  -- one look and the rest
  step : (ks : List ℕ) → path ns k ≡ k ∷ ks → nearest f w ns is k ≡ or_else (look f w is k) (first_answer (look f w is) ks)
  unfolding nearest first_answer
  step ks e = ap (first_answer (look f w is)) e

  nearest-here : {a : Numbered} → look f w is k ≡ good a → nearest f w ns is k ≡ good a
  unfolding or_else
  nearest-here g = elim (dec_lt (node_at ns k).parent k) [
    | yes h ↦ step _ (path-up ns k h) ∙ ap (λ (o : Result Numbered). or_else o (first_answer (look f w is) (path ns (node_at ns k).parent))) g
    | no h ↦ step _ (path-top ns k (omega arith)) ∙ ap (λ (o : Result Numbered). or_else o (first_answer (look f w is) [])) g
  ]

  module _ {n p : ℕ} (g : look f w is k ≡ bad n p) where
    nearest-top : k ≤ (node_at ns k).parent → nearest f w ns is k ≡ bad 23 0
    unfolding or_else first_answer
    nearest-top h = step [] (path-top ns k h) ∙ ap (λ (o : Result Numbered). or_else o (bad 23 0)) g

    nearest-up : (node_at ns k).parent < k → nearest f w ns is k ≡ nearest f w ns is (node_at ns k).parent
    unfolding or_else nearest
    nearest-up h = step _ (path-up ns k h) ∙ ap (λ (o : Result Numbered). or_else o (first_answer (look f w is) (path ns (node_at ns k).parent))) g

-- ---- back over the node rows

-- the node rows before row i have as many item rows as stand before row `end`
abbrev pub EndsAt : List ℕ → (n i end : ℕ) → Type 0
EndsAt ws n i end = end ≡ first_row (nodes_in n ws) i

module _ (ws : List ℕ) (n i : ℕ) (some : 0 < i) (l : i ≤ n) {r : Node} (e : r ≡ node_from ws ((i - 1) * node_width)) {end : ℕ} (a : EndsAt ws n i end) where
  rows_are : end ≡ first_row (nodes_in n ws) (i - 1) + r.rows
  rows_are =
      let q : i ≡ i - 1 + 1 = omega arith in let c = nodes-in_length ws n in
      a ∙ ap (first_row (nodes_in n ws)) q ∙ first_next (nodes_in n ws) (i - 1) (omega arith) ∙ ap
      (λ (x : Node). first_row (nodes_in n ws) (i - 1) + x.rows) (node_at_lem ws n (i - 1) (omega arith) ∙ sym e)

  pub back_rows : r.rows ≤ end
  back_rows = omega (arith, rows_are)

  pub back_one : EndsAt ws n (i - 1) (end - r.rows)
  back_one = omega (arith, rows_are)

-- ---- the look at node k, and the climb to its parent

module _ {f : List ℕ} {ws vs : List ℕ} {n m k end : ℕ} (t : Tables f ws vs n m) (l : k < n) (a : EndsAt ws n (k + 1) end) {r : Node} (e : r ≡ node_from ws (k * node_width)) where
  pub own_rows : r.rows ≤ end
  own_rows = rows_in_lem t (k + 1) k refl l e a

  pub own_end : end ≤ m
  own_end = end-in t (k + 1) k refl l e a

  pub own_first : EndsAt ws n k (end - r.rows)
  own_first = end-next t (k + 1) k refl l e a

  module _ (w : Wanted) (o : std.Result (ℕ × Item) Refusal) (g : told o ≡ among f w (numbered (end - r.rows) (part (items_in m vs) (end - r.rows) end))) where
    pub looks : told o ≡ look f w (items_in m vs) k
    unfolding look
    looks = g ∙ ap (among f w) (sym (own-are t (k + 1) k refl l e a))

    pub climb_here : {x : ℕ × Item} → o ≡ Ok x → told (Ok x) ≡ nearest f w (nodes_in n ws) (items_in m vs) k
    climb_here y = sym (nearest-here f w (nodes_in n ws) (items_in m vs) k (sym looks ∙ ap told y))

    module _ {x : Refusal} (y : o ≡ Err x) where
      parent_is : (node_at (nodes_in n ws) k).parent ≡ r.parent
      parent_is = ap (λ (v : Node). v.parent) (node_at_lem ws n k l ∙ sym e)

      pub climb_top : k ≤ r.parent → bad 23 0 ≡ nearest f w (nodes_in n ws) (items_in m vs) k
      climb_top h = sym (nearest-top f w (nodes_in n ws) (items_in m vs) k (sym looks ∙ ap told y) (omega (arith, parent_is)))

      pub climb_up : r.parent < k → {z : Result Numbered} → z ≡ nearest f w (nodes_in n ws) (items_in m vs) r.parent → z ≡ nearest f w (nodes_in n ws) (items_in m vs) k
      climb_up h z = z ∙ sym (nearest-up f w (nodes_in n ws) (items_in m vs) k (sym looks ∙ ap told y) (omega (arith, parent_is)) ∙ ap
          (nearest f w (nodes_in n ws) (items_in m vs)) parent_is)

-- ---- what is found from a row

module _ (f : List ℕ) (w : Wanted) (ns : List Node) (is : List Item) (k : ℕ) {climbs : Bool} {o : Result Numbered} where
  pub by_climb : climbs ≡ true → o ≡ nearest f w ns is k → o ≡ found_by climbs f w ns is k
  by_climb e h = h ∙ ap (λ (b : Bool). found_by b f w ns is k) (sym e)

  pub by_look : climbs ≡ false → o ≡ look f w is k → o ≡ found_by climbs f w ns is k
  by_look e h = h ∙ ap (λ (b : Bool). found_by b f w ns is k) (sym e)

-- ---- the question over a file that the reader refuses

pub says-refused : (climbs : Bool) (f : List ℕ) (w : Wanted) (row nsize isize : ℕ) (o : Reading) {r : std.Result Summary Refusal} → refusals.told r ≡ read_of o → {x : Refusal} → r ≡ Err x → {t u : List ℕ} → t ≡ node_table nsize o → u ≡ item_table isize o
    → exits.Says nsize isize o (question climbs w row f) (bad (number_of x.0) x.1) t u
says-refused climbs f w row nsize isize o e k a b = exits.says-unread nsize isize o (question climbs w row f) e k a b

-- ---- the question over an accepted file

module _ (climbs : Bool) (f : List ℕ) (w : Wanted) (row nsize isize : ℕ) {o : Reading} {s : Summary} {t u : List ℕ} (d : Standing f o s t u) where
  -- what the call says of its answer and of the tables that it leaves
  abbrev pub Says : Result Numbered → List ℕ → List ℕ → Type 0
  Says a t' u' = exits.Says nsize isize o (question climbs w row f) a t' u'

  count-is : length d.ns ≡ s.nodes
  count-is = ap length (sym d.nodes-are) ∙ nodes-in_length t s.nodes

  says-bad : {n p : ℕ} → question climbs w row f d.h d.ns d.is ≡ bad n p → {t' u' : List ℕ} → t' ≡ replicate nsize 0 → u' ≡ replicate isize 0 → Says (bad n p) t' u'
  says-bad e a b = exits.says-refused nsize isize o (question climbs w row f) d.reads e a b

  -- both kinds of question: what is found from the row, if there is such a row
  as_found : question climbs w row f d.h d.ns d.is ≡ cond (ltb row (length d.ns)) (found_by climbs f w d.ns d.is row) (bad 18 0)
  unfolding find find_own
  as_found = by climbs
    where
      by : (b : Bool) → question b w row f d.h d.ns d.is ≡ cond (ltb row (length d.ns)) (found_by b f w d.ns d.is row) (bad 18 0)
      by true = refl
      by false = refl

  pub says-no_row : s.nodes ≤ row → {t' u' : List ℕ} → t' ≡ replicate nsize 0 → u' ≡ replicate isize 0 → Says (bad 18 0) t' u'
  says-no_row l a b = let c = count-is in let e : ltb row (length d.ns) ≡ false = le-ltb row (length d.ns) (omega arith) in says-bad (as_found ∙ simp e) a b

  module _ (l : row < s.nodes) (r : std.Result (ℕ × Item) Refusal) (g : told r ≡ found_by climbs f w (nodes_in s.nodes t) (items_in s.items u) row) where
    found-is : question climbs w row f d.h d.ns d.is ≡ told r
    found-is =
        let c = count-is in
        let e : ltb row (length d.ns) ≡ true = lt-ltb row (length d.ns) (omega arith) in
        as_found ∙ (simp e) ∙ ap₂ (λ (x : List Node) (y : List Item). found_by climbs f w x y row) (sym d.nodes-are) (sym d.items-are) ∙ sym g

    pub says-no_item : {x : Refusal} → r ≡ Err x → {t' u' : List ℕ} → t' ≡ replicate nsize 0 → u' ≡ replicate isize 0 → Says (bad (number_of x.0) x.1) t' u'
    says-no_item e a b = says-bad (found-is ∙ ap told e) a b

    pub says-item : {x : ℕ × Item} → r ≡ Ok x → t ≡ node_table nsize o → u ≡ item_table isize o → Says (told (Ok x)) t u
    says-item e a b = exits.says-answer nsize isize o (question climbs w row f) d.reads (found-is ∙ ap told e) a b
