-- What lies outside header and tree; the place of a row's offset; the first byte that a detached node has.
-- Assumes nothing.
use mathlib.Core.Path.{◌≡◌, refl, sym, ap, ◌∙◌, subst}
use mathlib.Core.Bool.{Bool, true, false, cond, ◌&&◌, ◌||◌}
use mathlib.Core.Logic.{◌⊎◌, inl, inr}
use mathlib.Core.List.{List, [], ◌∷◌, ◌++◌}
use Prim.Native.Nat.{ℕ, zero, suc, ◌+◌, ◌*◌, ◌≤◌, ◌<◌, min, max}
use native.Mathlib.Omega.{arith}
use native.Mathlib.Decide.{dec_lt}
use lib.Dec.{T, eqb, ltb, leb}
use lib.ListN.{length, take, drop, drop_of_length-le}
use borrow.Author.Tests.{eq-eqb, ne_eqb, eqb-true, lt-ltb, le-ltb, ltb-true, ltb-false, le-leb, lt-leb}
use Rattle.machine.specs.Machine.{Out, run}
use Rattle.cursor.specs.Rows.{reference_frame}
use Rattle.cursor.specs.Leaves.{number}
use Rattle.cursor.specs.declared.Node.{Node}
use Rattle.header.specs.Header.{Header}
use Rattle.header.specs.Told.{extent_of}
use Rattle.header.specs.declared.Extent.{Extent}
use Rattle.rows.specs.Rows.{node_width, node_from, nodes_in, node_at, row_starting}
use Rattle.targets.specs.Targets.{place_of, offset_at, outside, part_end, first_taken}
use Rattle.targets.specs.Told.{taken_by_rows, Spanned}
use Rattle.targets.proofs.Taken.{by_rows}
use Rattle.targets.specs.declared.Span.{Span}
use Rattle.rows.proofs.Rows.{node_at_lem, nodes-in_length, in_front, row_is}

-- ---- outside header and tree

module _ (h : Header) (size p : ℕ) {x : Extent} (e : h.extent ≡ extent_of x) where
  pub out_header : p < x.end.0 → false ≡ outside h size p
  unfolding outside
  out_header l = rw e (simp (lt-leb _ _ l))

  pub out_file : x.end.0 ≤ p → size ≤ p → false ≡ outside h size p
  unfolding outside
  out_file a l = rw e (simp (le-leb _ _ a, le-ltb _ _ l))

  pub out_before : x.end.0 ≤ p → p < size → p < x.start.0 → true ≡ outside h size p
  unfolding outside
  out_before a b l = rw e (simp (le-leb _ _ a, lt-ltb _ _ b, lt-ltb _ _ l))

  pub out_after : x.end.0 ≤ p → p < size → x.start.0 ≤ p → ltb x.last.0 p ≡ outside h size p
  unfolding outside
  out_after a b l = rw e (simp (le-leb _ _ a, lt-ltb _ _ b, le-ltb _ _ l))

  pub part-before : p < x.start.0 → x.start.0 ≡ part_end h size p
  unfolding part_end
  part-before l = rw e (simp (lt-ltb _ _ l))

  pub part-after : x.start.0 ≤ p → size ≡ part_end h size p
  unfolding part_end
  part-after l = rw e (simp (le-ltb _ _ l))

-- a place outside lies before the end of its part
pub part-past : (h : Header) (size p : ℕ) → true ≡ outside h size p → p ≤ part_end h size p
unfolding outside part_end
part-past h size p o = by (leb h.extent.end p) (ltb p size) refl (ltb p h.extent.start) refl (ltb h.extent.last p) o
  where
    by : (a b : Bool) → ltb p size ≡ b → (c : Bool) → ltb p h.extent.start ≡ c → (d : Bool) → true ≡ (a && (b && (c || d))) → p ≤ (cond c h.extent.start size)
    by true true x true y d o = let z = ltb-true p h.extent.start y in omega arith
    by true true x false y d o = let z = ltb-true p size x in omega arith
    by true false x c y d o = absurd (subst T o tt)
    by false b x c y d o = absurd (subst T o tt)

-- ---- the place of a row's offset

module _ (ws : List ℕ) (count i : ℕ) (l : i < count) {r : Node} (is : r ≡ node_from ws (i * node_width)) where
  pub offset_is : (f : List ℕ) (o : Out ℕ) {at : ℕ} → at ≡ r.start + r.header → o ≡ run (number reference_frame 3 (length f)) f at → place_of
      o ≡ offset_at f (node_at (nodes_in count ws) i)
  unfolding offset_at
  offset_is f o h g = ap place_of (g ∙ ap (run (number reference_frame 3 (length f)) f) (h ∙ sym (ap (λ (r : Node). r.start + r.header) (row_is ws count i l is))))

-- ---- what is taken

row_of : (ns : List Node) (i : ℕ) → i < length ns → drop i ns ≡ node_at ns i ∷ drop (i + 1) ns
row_of [] i l = absurd (omega arith)
row_of (r ∷ ns) zero l = refl
row_of (r ∷ ns) (suc i) l = let e : suc (i + 1) ≡ suc i + 1 = omega arith in row_of ns i (omega arith) ∙ ap (λ k. node_at ns i ∷ drop k (r ∷ ns)) e

cond_no : (b : Bool) (x y : ℕ) → (cond (b && false) x y) ≡ y
cond_no true x y = refl
cond_no false x y = refl

module _ (ws : List ℕ) (count place end : ℕ) where
  abbrev pub TakenTo : ℕ → ℕ → Type 0
  TakenTo i taken = taken ≡ taken_by_rows (drop i (nodes_in count ws)) place end

  pub taken-begun : TakenTo count end
  unfolding taken_by_rows
  taken-begun = let c = nodes-in_length ws count in ap (λ v. taken_by_rows v place end) (sym (drop_of_length-le (nodes_in count ws) {i = count} (omega arith)))

  module _ {i j taken : ℕ} (w : TakenTo j taken) (next : j ≡ i + 1) (l : i < count) {r : Node} (is : r ≡ node_from ws (i * node_width)) where
    here-is : taken_by_rows (drop i (nodes_in count ws)) place end ≡ taken_by_rows (r ∷ drop (i + 1) (nodes_in count ws)) place end
    here-is = let c = nodes-in_length ws count in ap (λ v. taken_by_rows v place end)
        (row_of (nodes_in count ws) i (omega arith) ∙ ap (λ (x : Node). x ∷ drop (i + 1) (nodes_in count ws)) (row_is ws count i l is))

    rest-is : taken ≡ taken_by_rows (drop (i + 1) (nodes_in count ws)) place end
    rest-is = w ∙ ap (λ v. taken_by_rows (drop v (nodes_in count ws)) place end) next

    pub taken_here : r.detached ≡ 1 → place < r.start + r.size → {v : ℕ} → v ≡ min (max place r.start) taken → TakenTo i v
    unfolding taken_by_rows
    taken_here a b e = e ∙ ap (min (max place r.start)) rest-is ∙ sym (here-is ∙ rw (eq-eqb _ _ a, lt-ltb _ _ b) refl)

    pub taken-past : r.start + r.size ≤ place → TakenTo i taken
    unfolding taken_by_rows
    taken-past b = rest-is ∙ sym (here-is ∙ rw (le-ltb _ _ b) (cond_no (eqb r.detached 1) _ _))

    pub taken-other : ((r.detached ≡ 1) → ⊥) → TakenTo i taken
    unfolding taken_by_rows
    taken-other n = rest-is ∙ sym (here-is ∙ rw (ne_eqb _ _ n) refl)

-- rows that are not detached take nothing
pub taken-all : (ns : List Node) (tree place end : ℕ) → tree ≤ length ns → ((i : ℕ) → i < tree → (node_at ns i).detached ≡ 0) → taken_by_rows
    (drop tree ns) place end ≡ taken_by_rows ns place end
unfolding taken_by_rows
taken-all ns zero place end l a = refl
taken-all [] (suc tree) place end l a = absurd (omega arith)
taken-all (r ∷ ns) (suc tree) place end l a =
    let z : (r.detached ≡ 1) → ⊥ = λ q. let y = a 0 (omega arith) in omega arith in
    taken-all ns tree place end (omega arith) (λ i m. a (suc i) (omega arith)) ∙ sym (rw (ne_eqb _ _ z) refl)

pub taken-done : (ws : List ℕ) (count tree place end i : ℕ) → i ≡ tree → tree ≤ count → ((j : ℕ) → j < tree → (node_at (nodes_in count ws) j).detached ≡ 0)
    → taken_by_rows (drop i (nodes_in count ws)) place end ≡ taken_by_rows (nodes_in count ws) place end
taken-done ws count tree place end i e l a = let c = nodes-in_length ws count in ap (λ v. taken_by_rows (drop v (nodes_in count ws)) place end) e
    ∙ taken-all (nodes_in count ws) tree place end (omega arith) a

-- ---- a place before or behind all detached nodes: their rows need not be asked

-- a row that starts there is among the first k
start-front : (ns : List Node) (k p : ℕ) → row_starting (take k ns) p < k → k ≤ length ns → row_starting ns p < length ns
unfolding row_starting
start-front ns zero p l m = absurd (omega arith)
start-front [] (suc k) p l m = absurd (omega arith)
start-front (r ∷ ns) (suc k) p l m = by (eqb r.start p) l (λ z. start-front ns k p z (omega arith))
  where
    by : (b : Bool) → (cond b 0 (suc (row_starting (take k ns) p))) < suc k → (row_starting (take k ns) p < k → row_starting ns p < length ns)
        → (cond b 0 (suc (row_starting ns p))) < suc (length ns)
    by true z rest = omega arith
    by false z rest = let w = rest (omega arith) in omega arith

-- none does, where none of the first k does and none of the others
start_none : (ns : List Node) (k p : ℕ) → k ≤ row_starting (take k ns) p → ((i : ℕ) → k ≤ i → i < length ns → (node_at ns i).start ≡ p → ⊥) → length ns ≤ row_starting ns p
unfolding row_starting
start_none [] k p l h = omega arith
start_none (r ∷ ns) zero p l h =
    let n : (r.start ≡ p) → ⊥ = h 0 (omega arith) (omega arith) in
    let w = start_none ns 0 p (omega arith) (λ i a b. h (suc i) (omega arith) (omega arith)) in
    rw (ne_eqb _ _ n) (omega arith)
start_none (r ∷ ns) (suc k) p l h = by (eqb r.start p) l (λ z. start_none ns k p z (λ i a b. h (suc i) (omega arith) (omega arith)))
  where
    by : (b : Bool) → suc k ≤ (cond b 0 (suc (row_starting (take k ns) p))) → (k ≤ row_starting (take k ns) p → length ns ≤ row_starting ns p)
        → suc (length ns) ≤ (cond b 0 (suc (row_starting ns p)))
    by true z rest = absurd (omega arith)
    by false z rest = let w = rest (omega arith) in omega arith

-- rows that end at or before p take nothing from it on
taken-front : (ns : List Node) (k p end : ℕ) → ((i : ℕ) → k ≤ i → i < length ns → (node_at ns i).start + (node_at ns i).size ≤ p) → taken_by_rows (take k ns) p end ≡ taken_by_rows ns p end
unfolding taken_by_rows
taken-front [] zero p end h = refl
taken-front [] (suc k) p end h = refl
taken-front (r ∷ ns) zero p end h =
    let z : r.start + r.size ≤ p = h 0 (omega arith) (omega arith) in
    taken-front ns 0 p end (λ i a b. h (suc i) (omega arith) (omega arith)) ∙ sym (rw (le-ltb _ _ z) (cond_no (eqb r.detached 1) _ _))
taken-front (r ∷ ns) (suc k) p end h =
    ap (λ v. cond (eqb r.detached 1 && ltb p (r.start + r.size)) (min (max p r.start) v) v)
    (taken-front ns k p end (λ i a b. h (suc i) (omega arith) (omega arith)))

-- rows that start at e or later take nothing before it
pub taken-over : (ns : List Node) (p e : ℕ) → ((i : ℕ) → i < length ns → (node_at ns i).detached ≡ 1 → 0 < (node_at ns i).start + (node_at ns i).size → e ≤ (node_at ns i).start)
    → taken_by_rows ns p e ≡ e
unfolding taken_by_rows
taken-over [] p e h = refl
taken-over (r ∷ ns) p e h = by (eqb r.detached 1) refl (ltb p (r.start + r.size)) refl (taken-over ns p e (λ i l. h (suc i) (omega arith)))
  where
    by : (b : Bool) → eqb r.detached 1 ≡ b → (c : Bool) → ltb p (r.start + r.size) ≡ c → taken_by_rows ns p e ≡ e
        → (cond (b && c) (min (max p r.start) (taken_by_rows ns p e)) (taken_by_rows ns p e)) ≡ e
    by true x true y rest =
        let a = ltb-true p (r.start + r.size) y in
        let l : e ≤ r.start = h 0 (omega arith) (eqb-true r.detached 1 x) (omega arith) in
        omega arith
    by true x false y rest = rest
    by false x c y rest = rest

-- the first byte that any has is one that each has or comes before
pub taken-least : (ns : List Node) (size i : ℕ) → i < length ns → (node_at ns i).detached ≡ 1 → 0 < (node_at ns i).start + (node_at ns i).size → taken_by_rows ns 0 size ≤ (node_at ns i).start
unfolding taken_by_rows
taken-least [] size i l d z = absurd (omega arith)
taken-least (r ∷ ns) size zero l d z =
    let e₁ : eqb r.detached 1 ≡ true = eq-eqb _ _ d in
    let e₂ : ltb 0 (r.start + r.size) ≡ true = lt-ltb _ _ z in
    rw (e₁, e₂) (omega arith)
taken-least (r ∷ ns) size (suc i) l d z = by (eqb r.detached 1 && ltb 0 (r.start + r.size)) (taken-least ns size i (omega arith) d z)
  where
    by : (b : Bool) → taken_by_rows ns 0 size ≤ (node_at ns i).start → (cond b (min (max 0 r.start) (taken_by_rows ns 0 size)) (taken_by_rows ns 0 size)) ≤ (node_at ns i).start
    by true x = omega arith
    by false x = x

-- from a place before it on, it is the first
taken-low : (ns : List Node) (p end size : ℕ) → end ≤ size → p < taken_by_rows ns 0 size → taken_by_rows ns p end ≡ min (taken_by_rows ns 0 size) end
unfolding taken_by_rows
taken-low [] p end size l h = omega arith
taken-low (r ∷ ns) p end size l h = by (eqb r.detached 1) (ltb 0 (r.start + r.size)) refl (ltb p (r.start + r.size)) refl h (taken-low ns p end size l)
  where
    by : (b c : Bool) → ltb 0 (r.start + r.size) ≡ c → (d : Bool) → ltb p (r.start + r.size) ≡ d
        → p < (cond (b && c) (min (max 0 r.start) (taken_by_rows ns 0 size)) (taken_by_rows ns 0 size))
        → (p < taken_by_rows ns 0 size → taken_by_rows ns p end ≡ min (taken_by_rows ns 0 size) end)
        → (cond (b && d) (min (max p r.start) (taken_by_rows ns p end)) (taken_by_rows ns p end))
        ≡ min (cond (b && c) (min (max 0 r.start) (taken_by_rows ns 0 size)) (taken_by_rows ns 0 size)) end
    by false c x d y m rest = rest m
    by true true x true y m rest = let e = rest (omega arith) in omega arith
    by true true x false y m rest = let a = ltb-false p (r.start + r.size) y in absurd (omega arith)
    by true false x true y m rest = let a = ltb-false 0 (r.start + r.size) x in let a' = ltb-true p (r.start + r.size) y in absurd (omega arith)
    by true false x false y m rest = rest m

-- one more row
pub taken_more : (ns : List Node) (r : Node) (size : ℕ) → r.detached ≡ 1 → 0 < r.size → taken_by_rows (ns ++ (r ∷ [])) 0 size ≡ min r.start (taken_by_rows ns 0 size)
unfolding taken_by_rows
taken_more [] r size d z =
    let e₁ : eqb r.detached 1 ≡ true = eq-eqb _ _ d in
    let e₂ : ltb 0 (r.start + r.size) ≡ true = lt-ltb 0 (r.start + r.size) (omega arith) in
    rw (e₁, e₂) (omega arith)
taken_more (q ∷ ns) r size d z = by (eqb q.detached 1 && ltb 0 (q.start + q.size)) (taken_more ns r size d z)
  where
    by : (b : Bool) → taken_by_rows (ns ++ (r ∷ [])) 0 size ≡ min r.start (taken_by_rows ns 0 size)
        → (cond b (min (max 0 q.start) (taken_by_rows (ns ++ (r ∷ [])) 0 size)) (taken_by_rows (ns ++ (r ∷ [])) 0 size))
        ≡ min r.start (cond b (min (max 0 q.start) (taken_by_rows ns 0 size)) (taken_by_rows ns 0 size))
    by true x = omega arith
    by false x = x

module _ (ws : List ℕ) {tree k count : ℕ} (place : ℕ) (span : Span) (asked : (tree ≤ k) × (k ≤ count) × (k < count → (span.beyond.0 ≤ place) ⊎ (place < span.first.0))) where
  pub row-asked : (i : ℕ) → i < k → node_at (nodes_in k ws) i ≡ node_at (nodes_in count ws) i
  row-asked i l = node_at_lem ws k i l ∙ sym (node_at_lem ws count i (omega arith))

  pub asked-found : {q : ℕ} → q ≡ row_starting (nodes_in k ws) place → q < k → row_starting (nodes_in count ws) place < count
  asked-found {q} e l =
      let c = nodes-in_length ws count in
      let y : q ≡ row_starting (take k (nodes_in count ws)) place = e ∙ ap (λ v. row_starting v place) (in_front ws k count asked.1) in
      let w = start-front (nodes_in count ws) k place (omega arith) (omega arith) in
      omega arith

  module _ {size : ℕ} (s : Spanned tree size (nodes_in count ws) span) where
    other : (i : ℕ) → k ≤ i → i < length (nodes_in count ws) → (node_at (nodes_in count ws) i).start ≡ place → ⊥
    other i a z e =
        let c = nodes-in_length ws count in let y = s.rows i (omega arith) z in let f = s.first-is in
        elim (asked.2 (omega arith)) [
          | inl x ↦ omega arith
          | inr x ↦ omega (arith, taken-least (nodes_in count ws) size i z y.0 (omega arith))
        ]

    pub asked-none : {q : ℕ} → q ≡ row_starting (nodes_in k ws) place → k ≤ q → count ≤ row_starting (nodes_in count ws) place
    asked-none {q} e l =
        let c = nodes-in_length ws count in
        let y : q ≡ row_starting (take k (nodes_in count ws)) place = e ∙ ap (λ v. row_starting v place) (in_front ws k count asked.1) in
        let w = start_none (nodes_in count ws) k place (omega arith) other in
        omega arith

    -- each detached node has a byte
    some_byte : ((i : ℕ) → i < tree → (node_at (nodes_in count ws) i).detached ≡ 0) → (i : ℕ) → i < length (nodes_in count ws) → (node_at (nodes_in count ws) i).detached ≡ 1
        → 0 < (node_at (nodes_in count ws) i).size
    some_byte a i z d = elim (dec_lt i tree) [
      | yes l ↦ absurd (omega (arith, a i l))
      | no l ↦ (s.rows i (omega arith) z).1
    ]

    pub asked-taken : {end e taken : ℕ} → ((i : ℕ) → i < tree → (node_at (nodes_in count ws) i).detached ≡ 0) → place ≤ end → end ≤ size
        → (place < span.first.0 → e ≡ min span.first.0 end) × (span.first.0 ≤ place → e ≡ end)
        → taken ≡ taken_by_rows (nodes_in k ws) place e → taken ≡ first_taken (nodes_in count ws) place end
    asked-taken {end} {e} {taken} a u l h t =
        let c = nodes-in_length ws count in let f = s.first-is in
        t ∙ (elim (dec_lt place span.first.0) [
          | yes m ↦ (let e₁ = h.0 m in
              taken-over (nodes_in k ws) place e
              (λ i a d z.
              let b = nodes-in_length ws k in let r = row-asked i (omega arith) in
              omega (
                arith,
                ap (λ (x : Node). x.start) r,
                taken-least (nodes_in count ws) size i (omega arith) (sym (ap (λ (x : Node). x.detached) r) ∙ d) (subst (λ (x : Node). 0 < x.start + x.size) r z),
              ))
              ∙ (e₁ ∙ ap (λ v. min v end) f ∙ sym (taken-low (nodes_in count ws) place end size l (omega arith))))
          | no m ↦ (let e₁ : e ≡ end = h.1 (omega arith) in
              ap (taken_by_rows (nodes_in k ws) place) e₁ ∙ ap (λ v. taken_by_rows v place end) (in_front ws k count asked.1) ∙ taken-front (nodes_in count ws) k place end
              (λ i a z.
              let y = s.rows i (omega arith) z in
              elim (asked.2 (omega arith)) [ inl x ↦ omega arith | inr x ↦ absurd (omega arith) ]))
        ]) ∙ by_rows (nodes_in count ws) place end u (some_byte a)
