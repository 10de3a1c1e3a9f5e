-- The reading of a file depends on its frame bytes alone. Stated for any choice of what may differ among the bytes that are passed over: two files
-- that agree on every other byte of header, tree and detached nodes read alike. With everything free: the frame bytes alone decide. With hidden data
-- and inline data free: demand 3 for the first question. What the other questions use besides: custom names, and the data of rows that are not free, agree too.
-- Assumes nothing.
use mathlib.Core.Path.{◌≡◌, refl, sym, ap, ◌∙◌, subst}
use mathlib.Core.Bool.{Bool, true, false, cond, not, ◌&&◌}
use mathlib.Core.Logic.{◌⊎◌, inl, inr}
use mathlib.Core.List.{List, [], ◌∷◌, ◌++◌, append_assoc, append-nil}
use Prim.Native.Nat.{ℕ, zero, suc, ◌+◌, ◌-◌, ◌≤◌, ◌<◌}
use native.Mathlib.Nat.{lt_of_not-le}
use native.Mathlib.Decide.{dec_le}
use native.Mathlib.Omega.{arith}
use borrow.Author.Tests.{lt-ltb, le-leb, eq-eqb}
use lib.Dec.{T, eqb, ltb, leb}
use lib.ListN.{length, get_or, get_or-eq_default}
use Rattle.machine.specs.Machine.{ok, seen, passed, run, trace, rows_of, place}
use Rattle.cursor.specs.Rows.{Part, node_row, item_row, language, name, uri, plain, has_inline, Events}
use Rattle.cursor.specs.declared.Node.{Node}
use Rattle.cursor.specs.declared.Item.{Item}
use Rattle.machine.proofs.Laws.{rows_on}
use Rattle.machine.proofs.Wp.{All}
use Rattle.machine.proofs.Stable.{Free, Kept, chain, ends, stable}
use Rattle.machine.proofs.Agree.{Agree}
use Rattle.machine.proofs.Log.{held-parts, Sound, sound_run, sound_on, sound_in, sound_kept}
use Rattle.machine.proofs.Near.{Near, near_run, near_same, near_then, near_on, near_check}
use Rattle.header.specs.Header.{Header, header}
use Rattle.metadata.specs.Metadata.{Context}
use Rattle.metadata.specs.declared.Limits.{Limits}
use Rattle.metadata.specs.declared.Made.{Made}
use Rattle.metadata.proofs.Ends.{Nothing, Given, Inside}
use Rattle.node.specs.Node.{header_length, head, front, outside_tree}
use Rattle.tree.specs.Tree.{node, detached}
use Rattle.rows.specs.Rows.{node_of, nodes_of, items_of, node_at, item_at}
use Rattle.file.specs.Reading.{Result, good, bad, rows, made_by, logged, detached_at, follow_row, follow, log_from, reading, context, read_tree, read_file}
use Rattle.targets.specs.Targets.{offset_at, part_end, is_taken, first_taken}
use Rattle.targets.proofs.Taken.{or_yes, first-before}
use Rattle.file_laws.specs.Private.{may_differ, HiddenData, InlineData, InDetached, InParts, Private, DifferInPrivate}
use Rattle.tree.proofs.Ends.{tree-ends, detached-ends}
use Rattle.tree.proofs.Nodes.{inline_is}
use Rattle.tree.proofs.Starts.{detached-row, From, tree-from, detached-from}
use Rattle.file.proofs.Shown.{outside-is, part-is, header_of_lem, log-shows, log-inside}
use Rattle.file.proofs.Follow.{stops, tree_of, target, Reached, known, added, reached, followed, ReadAs, read_back}

-- ---- the place of the number that names a detached node matters to a refusal alone

outside-near : (end taken p q : ℕ) → Near (head (outside_tree end taken p)) (head (outside_tree end taken q))
unfolding head
outside-near end taken p q =
    near_then place λ at. near_then _ λ size. near_check _ _ _ _ _
    (near_check _ _ _ _ _ (near_check _ _ _ _ _ (near_then _ λ contained. near_check _ _ _ _ _ (near_same (header_length at size contained)))))

detached-near : (x : Context) (end taken p q : ℕ) (m : Made) → Near (detached x end taken p m) (detached x end taken q m)
unfolding detached node front
detached-near x end taken p q m = near_then place λ at. near_check _ _ _ _ _ (near_on _ (near_then place λ at. near_on _ (outside-near end taken p q)))

-- ---- files that agree on what the one's log does not leave free are read alike

module _ (free : Part → Bool) (lim : Limits) (f g : List ℕ) (l : length f ≡ length g) (h : Header) where
  begins : (log₁ : Events) (k i : ℕ) {log : Events} → follow k lim f h i (good log₁) ≡ good log → (rest : Events) × (log ≡ log₁ ++ rest)
  begins log₁ k i e = (followed lim f h (λ _ log. (rest : Events) × (log ≡ log₁ ++ rest)) further k i (good log₁) (λ log q. ([], same q ∙ sym (append-nil log₁))) e).1
    where
      same : {a b : Events} → good a ≡ good b → b ≡ a
      same x = cc

      further : (i : ℕ) (log log' : Events) → (rest : Events) × (log ≡ log₁ ++ rest) → i < length (nodes_of log) → Reached lim f h log
          (node_at (nodes_of log) i) log' → (rest : Events) × (log' ≡ log₁ ++ rest)
      further i log log' w m (known x y) = (w.0, y ∙ w.1)
      further i log log' w m (added s y) = (
        _,
        y ∙ ap (λ v. v ++ trace (target lim f h log (node_at (nodes_of log) i)) f (node_at (nodes_of log) i).target) w.1 ∙ append_assoc log₁
            w.0 _,
      )

  -- where row r leads in the one, it leads in the other
  reach_same : (log : Events) (r : Node) {log' : Events} → Kept free f g log' → Reached lim f h log r log' → follow_row lim g h log r ≡ good log'
  unfolding follow_row detached_at logged
  reach_same log r keep (known x y) = rw x (ap good (sym y))
  reach_same log r {log'} keep (added s y) =
      let m = target lim f h log r in let es = trace m f r.target in
      let keeps : Kept free f g es = (held-parts free _ log es (subst (Kept free f g) y keep)).1 in
      let (a, b) = stable free m f g r.target keeps in
      let n = detached-near (context lim h (length f)) (part_end h (length f) r.target)
      (first_taken (nodes_of log) r.target (part_end h (length f) r.target)) (offset_at f r) (offset_at g r) (made_by log) in
      let (c, d) = near_run n g r.target (sym a ∙ s.runs) in
      rw (s.is_lost, ← l, s.is-outside, c, d, ← b) (ap good (sym y))

  follow-same : (k i : ℕ) (o : Result Events) {log' : Events} → Kept free f g log' → follow k lim f h i o ≡ good log' → follow k lim g h i o ≡ good log'
  unfolding follow
  follow-same zero i o keep e = e
  follow-same (suc k) i (bad n p) keep e = e
  follow-same (suc k) i (good log) {log'} keep e = by (ltb i (length (nodes_of log))) (λ o. follow-same k (i + 1) o keep) e
    where
      r : Node
      r = node_at (nodes_of log) i

      on : (o : Result Events) → follow_row lim f h log r ≡ o → ((o : Result Events) → follow k lim f h (i + 1) o ≡ good log' → follow k lim g h (i + 1) o ≡ good log')
          → follow k lim f h (i + 1) o ≡ good log' → follow k lim g h (i + 1) (follow_row lim g h log r) ≡ good log'
      on (good log₁) q rest z =
          let (after, w) = begins log₁ k (i + 1) z in
          let keeps : Kept free f g log₁ = (held-parts free _ log₁ after (subst (Kept free f g) w keep)).0 in
          rw (reach_same log r keeps (reached lim f h log r q)) (rest (good log₁) z)
      on (bad n p) q rest z = absurd (stops lim f k (i + 1) h n p z)

      by : (b : Bool) → ((o : Result Events) → follow k lim f h (i + 1) o ≡ good log' → follow k lim g h (i + 1) o ≡ good log')
          → (cond b (follow k lim f h (i + 1) (follow_row lim f h log r)) (good log)) ≡ good log' → (cond b (follow k lim g h (i + 1) (follow_row lim g h log r)) (good log)) ≡ good log'
      by true rest z = on (follow_row lim f h log r) refl rest z
      by false rest z = z

-- ---- what two files have in common that agree on what was read but for what is free in the one

-- they agree on the header
abbrev pub HeaderKept : (Part → Bool) → List ℕ → List ℕ → Type 0
HeaderKept free f g = Kept free f g (trace (header (length f)) f 0)

module _ (free : Part → Bool) where
  pub record Alike (lim : Limits) (f g : List ℕ) (ns : List Node) (is : List Item) : Type 0 where
    pub header : Header
    pub read_as : ReadAs lim f header ns is
    pub same-reading : read_file lim g ≡ read_file lim f
    pub same_log : log_from lim g header ≡ log_from lim f header
    pub keeps_header : HeaderKept free f g
    pub keeps : Kept free f g read_as.log

  alike_kept : (lim : Limits) (f g : List ℕ) → length f ≡ length g → {h : Header} {ns : List Node} {is : List Item} → read_file lim f ≡ rows h ns is
      → (a : ReadAs lim f h ns is) → Kept free f g (trace (header (length f)) f 0 ++ a.log) → Alike lim f g ns is
  unfolding read_file read_tree reading logged
  alike_kept lim f g l {h} {ns} {is} r a keep =
      let (x, y) = held-parts free _ (trace (header (length f)) f 0) a.log keep in
      let m = tree_of lim (length f) h in
      let (rest, w) = begins free lim f g l h (trace m f h.extent.start) lim.nodes 0 a.follows in
      let (b, c) = stable free (header (length f)) f g 0 x in
      let (d, e) = stable free m f g h.extent.start (held-parts free _ (trace m f h.extent.start) rest (subst (Kept free f g) w y)).0 in
      let z = follow-same free lim f g l h lim.nodes 0 (good (trace m f h.extent.start)) y a.follows in
      record {
        header = h;
        read_as = a;
        same-reading = rw (r, ← l, ← b, a.header_is, ← l, ← d, ← e, a.tree_is, z, a.nodes-are, a.items-are) refl;
        same_log = rw (← l, ← d, ← e, a.tree_is, z, a.follows) refl;
        keeps_header = x;
        keeps = y;
      }

-- ---- names, and data that is not free, agree

module _ (free : Part → Bool) (f g : List ℕ) where
  names-agree : T (not (free (plain name))) → (es : Events) → Kept free f g es → All (Given (Agree f g)) es
  names-agree u [] h = tt
  names-agree u (seen κ p ∷ es) h = names-agree u es h.1
  names-agree u (passed (node_row r) p n ∷ es) h = (tt, names-agree u es h.1)
  names-agree u (passed (item_row r) p n ∷ es) h = (tt, names-agree u es h.1)
  names-agree u (passed (plain name) p n ∷ es) h = (h.0 u, names-agree u es h.1)
  names-agree u (passed (plain language) p n ∷ es) h = (tt, names-agree u es h.1)
  names-agree u (passed (plain uri) p n ∷ es) h = (tt, names-agree u es h.1)

  -- what is alike of a row
  abbrev pub RowAlike : Item → Type 0
  RowAlike r = ((r.kind ≡ 0) ⊎ Agree f g r.field r.name_length) × (T (not (free (item_row r))) → Agree f g r.place r.size)

  named-alike : {A B C : Type 0} → A ⊎ (B × C) → A ⊎ C
  named-alike (inl x) = inl x
  named-alike (inr x) = inr x.1

  row-alike : (es : Events) (end size : ℕ) → Kept free f g es → All (Inside (Agree f g) end size).asks es → (i : ℕ) → i < length (items_of es) → RowAlike (item_at (items_of es) i)
  unfolding rows_of
  row-alike [] end size h a i l = absurd (omega arith)
  row-alike (seen κ p ∷ es) end size h a i l = row-alike es end size h.1 a i l
  row-alike (passed (node_row r) p n ∷ es) end size h a i l = row-alike es end size h.1 a.1 i l
  row-alike (passed (item_row r) p n ∷ es) end size h a zero l =
      let x = a.0.0 in let y = a.0.1 in (named-alike a.0.3, λ u k lo hi. h.0 u k (omega arith) (omega arith))
  row-alike (passed (item_row r) p n ∷ es) end size h a (suc i) l = row-alike es end size h.1 a.1 i (omega arith)
  row-alike (passed (plain x) p n ∷ es) end size h a i l = row-alike es end size h.1 a.1 i l

  pub rows_alike : (lim : Limits) {ns : List Node} {is : List Item} → T (not (free (plain name))) → Alike free lim f g ns is → (i : ℕ) → i < length is → RowAlike (item_at is i)
  rows_alike lim {ns} {is} u a =
      let log = a.read_as.log in
      let y = row-alike log (length f) (length f) a.keeps (log-shows (Agree f g) a.read_as (names-agree u log a.keeps)) in
      subst (λ v. (i : ℕ) → i < length v → RowAlike (item_at v i)) a.read_as.items-are y

-- ---- the parts lie apart

-- k is a byte of a detached node
abbrev pub Taken : List Node → ℕ → Type 0
Taken [] k = ⊥
Taken (r ∷ ns) k = ((r.detached ≡ 1) × (r.start ≤ k) × (k < r.start + r.size)) ⊎ Taken ns k

taken-on : (ns ms : List Node) (k : ℕ) → Taken ns k → Taken (ns ++ ms) k
taken-on [] ms k x = elim x [ ]
taken-on (r ∷ ns) ms k (inl x) = inl x
taken-on (r ∷ ns) ms k (inr y) = inr (taken-on ns ms k y)

taken_own : (ns ms : List Node) (k : ℕ) → Taken ms k → Taken (ns ++ ms) k
taken_own [] ms k x = x
taken_own (r ∷ ns) ms k x = inr (taken_own ns ms k x)

taken-parts : (ns ms : List Node) (k : ℕ) → Taken (ns ++ ms) k → Taken ns k ⊎ Taken ms k
taken-parts [] ms k x = inr x
taken-parts (r ∷ ns) ms k (inl x) = inl (inl x)
taken-parts (r ∷ ns) ms k (inr y) = elim (taken-parts ns ms k y) [ inl z ↦ inl (inr z) | inr z ↦ inr z ]

taken-after : (ns : List Node) (at k : ℕ) → From at ns → Taken ns k → at ≤ k
taken-after [] at k h x = elim x [ ]
taken-after (r ∷ ns) at k h (inl x) = omega arith
taken-after (r ∷ ns) at k h (inr y) = taken-after ns at k h.1 y

taken_is : (ns : List Node) (k : ℕ) → Taken ns k → is_taken ns k ≡ true
unfolding is_taken
taken_is [] k x = elim x [ ]
taken_is (r ∷ ns) k (inl x) = rw (eq-eqb _ _ x.0, le-leb r.start k (omega arith), lt-ltb k (r.start + r.size) (omega arith)) refl
taken_is (r ∷ ns) k (inr y) = rw (taken_is ns k y) (or_yes (eqb r.detached 1 && (leb r.start k && ltb k (r.start + r.size))))

-- none before the first
from-taken : (ns : List Node) (p end k : ℕ) → p ≤ k → Taken ns k → first_taken ns p end ≤ k
unfolding first_taken
from-taken ns p end k l t = first-before ns (end - p) p k l (taken_is ns k t)

module _ (lim : Limits) (f : List ℕ) (h : Header) where
  -- k lies in the tree or in a detached node; and where these lie
  abbrev pub Within : List Node → ℕ → Type 0
  Within ns k = ((h.extent.start ≤ k) × (k < h.extent.last + 1)) ⊎ Taken ns k

  -- what was read lies there, behind the header
  record Lies (log : Events) : Type 0 where
    sound : Sound (Within (nodes_of log)) log
    behind : (k : ℕ) → Taken (nodes_of log) k → h.extent.end ≤ k

  tree-lies : {m : Made} {q : ℕ} → run (tree_of lim (length f) h) f h.extent.start ≡ ok m q → h.extent.last < length f → h.extent.end ≤ h.extent.start
      → Lies (trace (tree_of lim (length f) h) f h.extent.start)
  tree-lies e l z =
      let m = tree_of lim (length f) h in let x = context lim h (length f) in let v = ends m f h.extent.start e in
      let u = tree-ends x f h.extent.start (h.extent.last + 1) (omega arith) e in
      record {
        sound = sound_in (λ k a. inl (a.0, omega arith)) (sound_run (trace m f h.extent.start) h.extent.start (chain m f h.extent.start));
        behind = λ k a. let b = taken-after (nodes_of (trace m f h.extent.start)) h.extent.start k
            (tree-from f x (h.extent.last + 1) h.extent.start (omega arith) e) a in omega arith;
      }

  wider : (ns ms : List Node) (k : ℕ) → Within ns k → Within (ns ++ ms) k
  wider ns ms k (inl a) = inl a
  wider ns ms k (inr a) = inr (taken-on ns ms k a)

  -- a node at p in the part of p, which ends before what is taken, meets nothing
  pub meets_none : (ns : List Node) (p q k : ℕ) → (p < h.extent.start) ⊎ (h.extent.last < p) → (p < h.extent.start → part_end h (length f) p ≡ h.extent.start)
      → q ≤ part_end h (length f) p → q ≤ first_taken ns p (part_end h (length f) p) → Within ns k → p ≤ k → k < q → ⊥
  meets_none ns p q k (inl a) b c d (inl w) l m = let e = b a in omega arith
  meets_none ns p q k (inr a) b c d (inl w) l m = omega arith
  meets_none ns p q k o b c d (inr w) l m = let e = from-taken ns p (part_end h (length f) p) k l w in omega arith

  more-lies : (log log' : Events) (r : Node) → h.extent.start ≤ length f → Lies log → Reached lim f h log r log' → Lies log'
  unfolding detached_at
  more-lies log log' r z s (known x y) = rw y s
  more-lies log log' r z s (added t y) =
      let x = context lim h (length f) in let m = target lim f h log r in let es = trace m f r.target in
      let o = outside-is h (length f) r.target t.is-outside in
      let p = part-is h (length f) r.target z in
      let u = detached-ends x f r.target _ _ _ _ p.0 t.runs in
      let v = ends m f r.target t.runs in
      let w = detached-row f x _ _ _ _ r.target p.0 t.runs in
      let from = detached-from f x _ _ _ _ r.target p.0 t.runs in
      let n : nodes_of (log ++ es) ≡ nodes_of log ++ nodes_of es = rows_on node_of log es in
      rw y (record {
        sound = rw n (sound_in (λ k. elim [
          | inl a ↦ wider (nodes_of log) (nodes_of es) k a
          | inr a ↦ inr (taken_own (nodes_of log) (nodes_of es) k (rw w.rows_are (inl (w.detached-is, (let b = w.start in omega arith), (let b = w.stop in omega arith)))))
        ]) (sound_on s.sound (sound_run es r.target (chain m f r.target))
            (λ k a b. meets_none (nodes_of log) r.target t.after k o.2 p.1 u.1 u.2 a b.0 (let c = b.1 in omega arith))));
        behind = λ k a. elim (taken-parts (nodes_of log) (nodes_of es) k (rw n at a))
            [ inl b ↦ s.behind k b | inr b ↦ (let c = taken-after (nodes_of es) r.target k from b in omega arith) ];
      })

  log-lies : {ns : List Node} {is : List Item} (a : ReadAs lim f h ns is) → Lies a.log
  log-lies a =
      let w = header_of_lem a in let t = tree-lies a.tree_is w.3 (omega arith) in
      (followed lim f h (λ i. Lies) (λ i log log' s l. more-lies log log' _ (omega arith) s) lim.nodes 0 _ (λ log e. subst Lies (same e) t) a.follows).1
    where
      same : {x y : Events} → good x ≡ good y → x ≡ y
      same e = cc

  -- header, tree and detached nodes
  abbrev pub Parts : List Node → ℕ → Type 0
  Parts ns k = (k < h.extent.end) ⊎ Within ns k

  pub all_sound : {ns : List Node} {is : List Item} (a : ReadAs lim f h ns is) → Sound (Parts (nodes_of a.log)) (trace (header (length f)) f 0 ++ a.log)
  all_sound a =
      let w = header_of_lem a in let z = ends (header (length f)) f 0 a.header_is in let l = log-lies a in
      sound_on (sound_in (λ k b. let c = b.1 in omega arith) (sound_run (trace (header (length f)) f 0) 0 (chain (header (length f)) f 0))) l.sound
      (λ k b. elim [ inl c ↦ omega arith | inr c ↦ (let d = l.behind k c in omega arith) ])

-- ---- demand 3 for the first question

-- past the end all files agree
past_end : (f g : List ℕ) → length f ≡ length g → (k : ℕ) → (k < length f → get_or f k 0 ≡ get_or g k 0) → get_or f k 0 ≡ get_or g k 0
past_end f g e k h =
    elim (dec_le (length f) k) [
      | yes l ↦ get_or-eq_default f 0 l ∙ sym (get_or-eq_default g 0 (rw e at l))
      | no n ↦ h (lt_of_not-le n)
    ]

-- with any choice of what is free, files that agree on the other bytes of header, tree and detached nodes read alike; other bytes are no matter
parts_alike : (free : Part → Bool) (lim : Limits) (f g : List ℕ) {h : Header} {ns : List Node} {is : List Item} → read_file lim f ≡ rows h ns
    is → length f ≡ length g → (a : ReadAs lim f h ns is)
    → ((k : ℕ) → Parts lim f h (nodes_of a.log) k → (Free free (trace (header (length f)) f 0 ++ a.log) k → ⊥) → get_or f k 0 ≡ get_or g k 0) → Alike free lim f g ns is
parts_alike free lim f g {h} r l a agree = alike_kept free lim f g l r a (sound_kept free f g (trace (header (length f)) f 0 ++ a.log) (all_sound lim f h a) agree)

-- what may differ of what is passed over: inline data of a file node, and hidden data
abbrev pub private_data : Part → Bool
private_data (node_row r) = has_inline r
private_data (item_row r) = may_differ r
private_data (plain x) = false

-- a free byte of the log is one of all
free_behind : (free : Part → Bool) (es fs : Events) (k : ℕ) → Free free fs k → Free free (es ++ fs) k
free_behind free [] fs k x = x
free_behind free (seen κ p ∷ es) fs k x = free_behind free es fs k x
free_behind free (passed w p n ∷ es) fs k x = inr (free_behind free es fs k x)

-- hidden data is free in the log, and so is inline data
hidden_free : (es : Events) (end size k : ℕ) → All (Inside Nothing end size).asks es → HiddenData (items_of es) k → Free private_data es k
unfolding rows_of
hidden_free [] end size k a (i, l, t, lo, hi) = absurd (omega arith)
hidden_free (seen κ p ∷ es) end size k a h = hidden_free es end size k a h
hidden_free (passed (node_row r) p n ∷ es) end size k a h = inr (hidden_free es end size k a.1 h)
hidden_free (passed (item_row r) p n ∷ es) end size k a (zero, l, t, lo, hi) = let x = a.0.0 in let y = a.0.1 in inl (t, omega arith, omega arith)
hidden_free (passed (item_row r) p n ∷ es) end size k a (suc i, l, t, lo, hi) = inr (hidden_free es end size k a.1 (i, omega arith, t, lo, hi))
hidden_free (passed (plain x) p n ∷ es) end size k a h = inr (hidden_free es end size k a.1 h)

inline_free : (es : Events) (end size k : ℕ) → All (Inside Nothing end size).asks es → InlineData (nodes_of es) k → Free private_data es k
unfolding rows_of
inline_free [] end size k a (i, l, z, o, lo, hi) = absurd (omega arith)
inline_free (seen κ p ∷ es) end size k a h = inline_free es end size k a h
inline_free (passed (node_row r) p n ∷ es) end size k a (zero, l, z, o, lo, hi) =
    let t : T (has_inline r) = simp (eq-eqb _ _ z, eq-eqb _ _ o) tt in
    let e = a.0.4 t in let y : n ≡ r.extent = a.0.3 ∙ inline_is r z o in
    inl (t, omega arith, omega arith)
inline_free (passed (node_row r) p n ∷ es) end size k a (suc i, l, z, o, lo, hi) = inr (inline_free es end size k a.1 (i, omega arith, z, o, lo, hi))
inline_free (passed (item_row r) p n ∷ es) end size k a h = inr (inline_free es end size k a.1 h)
inline_free (passed (plain x) p n ∷ es) end size k a h = inr (inline_free es end size k a.1 h)

taken_at : (ns : List Node) (k : ℕ) → Taken ns k → InDetached ns k
taken_at [] k x = elim x [ ]
taken_at (r ∷ ns) k (inl x) = (0, omega arith, x.0, x.1, x.2)
taken_at (r ∷ ns) k (inr y) = let z = taken_at ns k y in (suc z.0, (let l = z.1 in omega arith), z.2, z.3, z.4)

in_parts : (lim : Limits) (f : List ℕ) (h : Header) (ns : List Node) (k : ℕ) → Parts lim f h ns k → InParts h ns k
in_parts lim f h ns k (inl x) = inl x
in_parts lim f h ns k (inr (inl x)) = inr (inl (x.0, (let l = x.1 in omega arith)))
in_parts lim f h ns k (inr (inr x)) = inr (inr (taken_at ns k x))

-- a private place of a part that is read is free
private_free : (lim : Limits) (f : List ℕ) {h : Header} {ns : List Node} {is : List Item} (a : ReadAs lim f h ns is) (k : ℕ)
    → InParts h ns k → Private h ns is k → Free private_data (trace (header (length f)) f 0 ++ a.log) k
private_free lim f a k i (inl o) = free_behind private_data (trace (header (length f)) f 0) a.log k
    (hidden_free a.log (length f) (length f) k (log-inside a) (subst (λ v. HiddenData v k) (sym a.items-are) o))
private_free lim f a k i (inr (inl o)) = free_behind private_data (trace (header (length f)) f 0) a.log k
    (inline_free a.log (length f) (length f) k (log-inside a) (subst (λ v. InlineData v k) (sym a.nodes-are) o))
private_free lim f a k i (inr (inr o)) = absurd (o i)

-- files that differ at private places alone
pub private_alike : (lim : Limits) (f g : List ℕ) {h : Header} {ns : List Node} {is : List Item} → read_file lim f ≡ rows h ns is →
    DifferInPrivate h ns is f g → Alike private_data lim f g ns is
private_alike lim f g {h} {ns} {is} r d =
    let a = read_back lim f r in
    parts_alike private_data lim f g r d.same_length a λ k i n.
    let j = in_parts lim f h ns k (subst (λ v. Parts lim f h v k) a.nodes-are i) in
    past_end f g d.same_length k λ l. d.elsewhere k l λ o. n (private_free lim f a k j o)

-- the second is accepted too, and reads the same
pub demand3 : (lim : Limits) (f g : List ℕ) {h : Header} {ns : List Node} {is : List Item} → read_file lim f ≡ rows h ns is → DifferInPrivate
    h ns is f g → read_file lim g ≡ read_file lim f
demand3 lim f g r d = (private_alike lim f g r d).same-reading

-- ---- the frame bytes alone

-- k is a byte that is read
abbrev pub Seen : Events → ℕ → Type 0
Seen [] k = ⊥
Seen (seen κ p ∷ es) k = (p ≡ k) ⊎ Seen es k
Seen (passed w p n ∷ es) k = Seen es k

seen-kept : (f g : List ℕ) (es : Events) → ((k : ℕ) → Seen es k → get_or f k 0 ≡ get_or g k 0) → Kept (λ _. true) f g es
seen-kept f g [] h = tt
seen-kept f g (seen κ p ∷ es) h = (h p (inl refl), seen-kept f g es (λ k s. h k (inr s)))
seen-kept f g (passed w p n ∷ es) h = (λ u. absurd u, seen-kept f g es h)

-- the reading of an accepted file depends on its frame bytes alone: those of header, tree and detached nodes
pub frames-decide : (lim : Limits) (f g : List ℕ) {h : Header} {ns : List Node} {is : List Item} (r : read_file lim f ≡ rows h ns is) → length f ≡ length g
    → ((k : ℕ) → Seen (trace (header (length f)) f 0 ++ (read_back lim f r).log) k → get_or f k 0 ≡ get_or g k 0) → read_file lim g ≡ read_file lim f
frames-decide lim f g r l agree = (alike_kept (λ _. true) lim f g l r (read_back lim f r)
    (seen-kept f g (trace (header (length f)) f 0 ++ (read_back lim f r).log) agree)).same-reading
