-- The kind of each place is what the rows say: what a node's row says has such an event, and each event lies where a row, or the header, says.
-- Assumes nothing.
use mathlib.Core.Path.{◌≡◌, refl, sym, ◌∙◌, subst}
use mathlib.Core.Bool.{Bool, true, false, cond, ◌&&◌, ◌||◌}
use mathlib.Core.Logic.{◌⊎◌, inl, inr}
use mathlib.Core.List.{List, [], ◌∷◌, ◌++◌}
use Prim.Native.Nat.{ℕ, ◌+◌, ◌≤◌, ◌<◌}
use native.Mathlib.Decide.{dec_lt}
use native.Mathlib.Omega.{arith}
use borrow.Author.Tests.{eqb-true, leb-true, ltb-true, leb-false, ltb-false, le-leb, lt-ltb}
use lib.Dec.{T, eqb, leb, ltb}
use lib.ListN.{length}
use Rattle.machine.specs.Machine.{ok, seen, passed, run, trace, rows_of}
use Rattle.cursor.specs.Rows.{Frame, file_frame, node_frame, meta_frame, unpack_frame, reference_frame, Plain, language, name, uri, node_row, item_row, plain, inline_size, P, Events}
use Rattle.cursor.specs.declared.Node.{Node}
use Rattle.cursor.specs.declared.Item.{Item}
use Rattle.machine.proofs.Laws.{rows_on}
use Rattle.machine.proofs.Stable.{Chain, end_of, chain, ends, covered}
use Rattle.cursor.proofs.Uses.{Uses, Only, used}
use Rattle.machine.proofs.Wp.{All}
use Rattle.header.specs.Header.{Header, header}
use Rattle.header.proofs.Uses.{header-uses}
use Rattle.metadata.specs.Metadata.{Context, metadata}
use Rattle.metadata.specs.declared.Limits.{Limits}
use Rattle.metadata.specs.declared.Made.{Made}
use Rattle.metadata.proofs.Ends.{Nothing, Inside}
use Rattle.metadata.proofs.Uses.{metadata-uses}
use Rattle.node.specs.Node.{head, unpackers, reference, front}
use Rattle.node.specs.declared.Bounds.{Bounds}
use Rattle.node.specs.declared.Front.{Front}
use Rattle.node.proofs.Uses.{head-uses, unpackers-use, reference-uses}
use Rattle.rows.specs.Rows.{node_of, nodes_of, items_of}
use Rattle.file.specs.Reading.{rows, read_file}
use Rattle.file_laws.proofs.EachNode.{own_events, OfRow, own_row, by_nodes}
use Rattle.file.proofs.Follow.{ReadAs, read_back}
use Rattle.file.proofs.Shown.{header_of_lem, log-inside}
use Rattle.account.specs.Account.{kind_of_frame, kind_of_plain, kind_of, kind_at, Had, IsOf, events_of}
use Rattle.account.specs.ByRows.{contents_at, folded}
use Rattle.account.specs.ByPlace.{Span, over, header_span, node_spans, item_span, over_node, over_item, kind_by_rows}
use Rattle.account.proofs.Places.{in_event, had_covers, kind-only}
use Rattle.account.proofs.Spent.{only}
use Rattle.account.proofs.Front.{of_meta, item-kind, Ordered, front_ordered}
use Rattle.account.proofs.ByRows.{contents-at}
use Rattle.account.proofs.File.{events-are, file-separate}

-- ---- which places events have

has_byte_lem : (a s k : ℕ) → a ≤ k → k < a + s → T (leb a k && ltb k (a + s))
has_byte_lem a s k l m = simp (le-leb _ _ l, lt-ltb _ _ m) tt

module _ (t : ℕ → Bool) where
  chain-had : (es : Events) (at k : ℕ) → Only (only t) es → Chain at es → at ≤ k → k < end_of at es → (κ : ℕ) × T (t κ) × Had es k κ
  chain-had [] at k o c l m = absurd (omega arith)
  chain-had (seen κ p ∷ es) at k o c l m = elim (dec_lt k (at + 1)) [
    | yes y ↦ (kind_of_frame κ, o.0, inl (has_byte_lem p 1 k (omega arith) (omega arith), refl))
    | no n ↦ (let (κ', a, b) = chain-had es (at + 1) k o.1 c.1 (omega arith) m in (κ', a, inr b))
  ]
  chain-had (passed w p n ∷ es) at k o c l m = elim (dec_lt k (at + n)) [
    | yes y ↦ (kind_of w, o.0, inl (has_byte_lem p n k (omega arith) (omega arith), refl))
    | no y ↦ (let (κ', a, b) = chain-had es (at + n) k o.1 c.1 (omega arith) m in (κ', a, inr b))
  ]

  -- a program of such kinds has one at each place that it moves over, and no other
  run-had : {A : Type 0} {m : P A} → Uses (only t) m → (f : List ℕ) (at : ℕ) {a : A} {q : ℕ} → run m f at ≡ ok a q → (k : ℕ) → at ≤ k → k <
      q → (κ : ℕ) × T (t κ) × Had (trace m f at) k κ
  run-had {m = m} u f at e k l h = chain-had (trace m f at) at k (used f at u) (chain m f at) l (rw (ends m f at e) h)

  only-had : (es : Events) (k κ : ℕ) → Only (only t) es → Had es k κ → T (t κ)
  only-had [] k κ o h = absurd h
  only-had (seen x p ∷ es) k κ o (inl h) = subst (λ i. T (t i)) h.1 o.0
  only-had (seen x p ∷ es) k κ o (inr h) = only-had es k κ o.1 h
  only-had (passed w p n ∷ es) k κ o (inl h) = subst (λ i. T (t i)) h.1 o.0
  only-had (passed w p n ∷ es) k κ o (inr h) = only-had es k κ o.1 h

is_one : (n κ : ℕ) → T (eqb n κ) → κ ≡ n
is_one n κ t = by (eqb n κ) refl t
  where
    by : (b : Bool) → eqb n κ ≡ b → T b → κ ≡ n
    by true e t = sym (eqb-true n κ e)
    by false e t = absurd t

of_meta_lem : (κ : ℕ) → T (of_meta κ) → (κ ≡ 2) ⊎ ((κ ≡ 3) ⊎ (κ ≡ 4))
of_meta_lem κ t = by (eqb 2 κ) (eqb 3 κ) (eqb 4 κ) refl refl refl t
  where
    by : (a b c : Bool) → eqb 2 κ ≡ a → eqb 3 κ ≡ b → eqb 4 κ ≡ c → T (a || (b || c)) → (κ ≡ 2) ⊎ ((κ ≡ 3) ⊎ (κ ≡ 4))
    by true b c x y z t = inl (sym (eqb-true 2 κ x))
    by false true c x y z t = inr (inl (sym (eqb-true 3 κ y)))
    by false false true x y z t = inr (inr (sym (eqb-true 4 κ z)))
    by false false false x y z t = absurd t

module _ (k κ : ℕ) where
  had_left : (es fs : Events) → Had es k κ → Had (es ++ fs) k κ
  had_left [] fs h = absurd h
  had_left (e ∷ es) fs (inl x) = inl x
  had_left (e ∷ es) fs (inr y) = inr (had_left es fs y)

  had_right : (es fs : Events) → Had fs k κ → Had (es ++ fs) k κ
  had_right [] fs h = h
  had_right (e ∷ es) fs h = inr (had_right es fs h)

had_either : (es fs : Events) (k κ : ℕ) → Had (es ++ fs) k κ → Had es k κ ⊎ Had fs k κ
had_either [] fs k κ h = inr h
had_either (e ∷ es) fs k κ (inl x) = inl (inl x)
had_either (e ∷ es) fs k κ (inr y) = elim (had_either es fs k κ y) [ inl z ↦ inl (inr z) | inr z ↦ inr z ]

-- ---- what spans say of a place

abbrev InSpan : Span → (k κ : ℕ) → Type 0
InSpan s k κ = (s.from ≤ k) × (k < s.to) × (s.kind ≡ κ)

-- one of several says so
abbrev Some : {A : Type 0} → (A → (k κ : ℕ) → Type 0) → List A → (k κ : ℕ) → Type 0
Some says [] k κ = ⊥
Some says (r ∷ rs) k κ = says r k κ ⊎ Some says rs k κ

module _ {A : Type 0} (says : A → (k κ : ℕ) → Type 0) (k κ : ℕ) where
  some_left : (rs ss : List A) → Some says rs k κ → Some says (rs ++ ss) k κ
  some_left [] ss h = absurd h
  some_left (r ∷ rs) ss (inl x) = inl x
  some_left (r ∷ rs) ss (inr y) = inr (some_left rs ss y)

  some_right : (rs ss : List A) → Some says ss k κ → Some says (rs ++ ss) k κ
  some_right [] ss h = h
  some_right (r ∷ rs) ss h = inr (some_right rs ss h)

  some-either : (rs ss : List A) → Some says (rs ++ ss) k κ → Some says rs k κ ⊎ Some says ss k κ
  some-either [] ss h = inr h
  some-either (r ∷ rs) ss (inl x) = inl (inl x)
  some-either (r ∷ rs) ss (inr y) = elim (some-either rs ss y) [ inl z ↦ inl (inr z) | inr z ↦ inr z ]

-- what is put over something: what is said, or what was there, where nothing is said
abbrev Put : ((κ : ℕ) → Type 0) → (now before : ℕ) → Type 0
Put says now before = ((κ : ℕ) × says κ × (now ≡ κ)) ⊎ ((now ≡ before) × ((κ : ℕ) → says κ → ⊥))

span_put : (m : ℕ → ℕ) (s : Span) (k : ℕ) → Put (InSpan s k) (over m s k) (m k)
span_put m s k = by (leb s.from k) (ltb k s.to) refl refl
  where
    by : (c d : Bool) → leb s.from k ≡ c → ltb k s.to ≡ d → Put (InSpan s k) (cond (c && d) s.kind (m k)) (m k)
    by true true x y = inl (s.kind, (leb-true s.from k x, ltb-true k s.to y, refl), refl)
    by true false x y = inr (refl, λ κ o. let z = ltb-false k s.to y in let w = o.1 in omega arith)
    by false d x y = inr (refl, λ κ o. let z = leb-false s.from k x in let w = o.0 in omega arith)

module _ {A : Type 0} (says : A → (k κ : ℕ) → Type 0) (add : (ℕ → ℕ) → A → ℕ → ℕ) (each : (m : ℕ → ℕ) (r : A) (k : ℕ) → Put (says r k) (add m r k) (m k)) where
  folded-put : (rs : List A) (m : ℕ → ℕ) (k : ℕ) → Put (Some says rs k) (folded add m rs k) (m k)
  unfolding folded
  folded-put [] m k = inr (refl, λ κ h. h)
  folded-put (r ∷ rs) m k = by (folded-put rs (add m r) k) (each m r k)
    where
      by : Put (Some says rs k) (folded add (add m r) rs k) (add m r k) → Put (says r k) (add m r k) (m k) → Put (Some says (r ∷ rs) k) (folded add (add m r) rs k) (m k)
      by (inl (κ, s, e)) o = inl (κ, inr s, e)
      by (inr (e, n)) (inl (κ, s, e')) = inl (κ, inl s, e ∙ e')
      by (inr (e, n)) (inr (e', n')) = inr (e ∙ e', λ κ h. elim h [ inl x ↦ n' κ x | inr y ↦ n κ y ])

abbrev OfNode : List ℕ → Node → (k κ : ℕ) → Type 0
OfNode f r = Some InSpan (node_spans f r)

abbrev OfItem : Item → (k κ : ℕ) → Type 0
OfItem r = InSpan (item_span r)

-- ---- nodes: what their rows say has such an event, but that the metadata may be data; and each event lies where a row says something

abbrev Meant : Events → (k κ : ℕ) → Type 0
Meant es k κ = Had es k κ ⊎ ((κ ≡ 2) × (Had es k 3 ⊎ Had es k 4))

meant-by : (es fs : Events) (k : ℕ) → ((κ : ℕ) → Had es k κ → Had fs k κ) → (κ : ℕ) → Meant es k κ → Meant fs k κ
meant-by es fs k up κ (inl h) = inl (up κ h)
meant-by es fs k up κ (inr (e, inl h)) = inr (e, inl (up 3 h))
meant-by es fs k up κ (inr (e, inr h)) = inr (e, inr (up 4 h))

module _ (f : List ℕ) where
  record Match (es : Events) : Type 0 where
    sound : (k κ : ℕ) → Some (OfNode f) (nodes_of es) k κ → Meant es k κ
    complete : (k κ : ℕ) → Had es k κ → (κ' : ℕ) × Some (OfNode f) (nodes_of es) k κ'

  match_nil : Match []
  unfolding rows_of
  match_nil = record { sound = λ k κ h. absurd h; complete = λ k κ h. absurd h }

  match_on : (es fs : Events) → Match es → Match fs → Match (es ++ fs)
  match_on es fs a b = let n = rows_on node_of es fs in record {
    sound = λ k κ h. elim (some-either (OfNode f) k κ (nodes_of es) (nodes_of fs) (subst (λ ns. Some (OfNode f) ns k κ) n h)) [
      | inl x ↦ meant-by es (es ++ fs) k (λ κ. had_left k κ es fs) κ (a.sound k κ x)
      | inr y ↦ meant-by fs (es ++ fs) k (λ κ. had_right k κ es fs) κ (b.sound k κ y)
    ];
    complete = λ k κ h. elim (had_either es fs k κ h) [
      | inl x ↦ (let (κ', s) = a.complete k κ x in (κ', subst (λ ns. Some (OfNode f) ns k κ') (sym n) (some_left (OfNode f) k κ' (nodes_of es) (nodes_of fs) s)))
      | inr y ↦ (let (κ', s) = b.complete k κ y in (κ', subst (λ ns. Some (OfNode f) ns k κ') (sym n) (some_right (OfNode f) k κ' (nodes_of es) (nodes_of fs) s)))
    ];
  }

  module _ (x : Context) (parent depth : ℕ) (s : Bounds) (m : Made) (at : ℕ) (w : Front) (q : ℕ) (e : run (front x parent depth s m) f at ≡ ok w q)
      (z : Ordered x parent depth s m f at w q) (c : contents_at w.row ≡ q) where
    -- its parts, one after the other
    abbrev H : Events
    H = trace (head s) f at

    abbrev M : Events
    M = trace (metadata x m.nodes (at + z.is.h.header.0) m) f z.is.p

    abbrev U : Events
    U = trace (unpackers z.is.h.contained (at + z.is.h.header.0)) f z.is.p'

    abbrev R : Events
    R = trace (reference x.header_end x.size z.is.h.contained (at + z.is.h.size.0)) f z.is.left.p

    abbrev own : Events
    own = own_events x parent depth s m f at w.row q

    in_front : (k κ : ℕ) → Had (H ++ (M ++ (U ++ R))) k κ → Had own k κ
    in_front k κ h = had_left k κ (trace (front x parent depth s m) f at) _ (rw (z.is.joined, z.is.left.joined) h)

    in_meta : (k κ : ℕ) → Had M k κ → Had own k κ
    in_meta k κ h = in_front k κ (had_right k κ H (M ++ (U ++ R)) (had_left k κ M (U ++ R) h))

    own-sound : (k κ : ℕ) → OfNode f w.row k κ → Meant own k κ
    own-sound k κ (inl (l, h, t)) =
        let i = z.begins in let a = z.meta_at in
        let (κ', u, v) = run-had (eqb 1) (head-uses tt s) f at z.is.headed k (omega arith) (omega arith) in
        inl (in_front k κ (had_left k κ H (M ++ (U ++ R)) (subst (Had H k) (is_one 1 κ' u ∙ t) v)))
    own-sound k κ (inr (inl (l, h, t))) =
        let a = z.meta_at in let b = z.meta_end in
        let (κ', u, v) = run-had of_meta (metadata-uses tt tt (item-kind of_meta tt tt) x m.nodes (at + z.is.h.header.0) m) f z.is.p
        z.is.told k (omega arith) (omega arith) in
        elim (of_meta_lem κ' u) [
          | inl y ↦ inl (in_meta k κ (subst (Had M k) (y ∙ t) v))
          | inr (inl y) ↦ inr (sym t, inl (in_meta k 3 (subst (Had M k) y v)))
          | inr (inr y) ↦ inr (sym t, inr (in_meta k 4 (subst (Had M k) y v)))
        ]
    own-sound k κ (inr (inr (inl (l, h, t)))) =
        let b = z.meta_end in let d = z.header-end in
        let (κ', u, v) = run-had (eqb 5) (unpackers-use tt z.is.h.contained (at + z.is.h.header.0)) f z.is.p' z.is.left.unpacked k (omega arith) (omega arith) in
        inl (in_front k κ (had_right k κ H (M ++ (U ++ R)) (had_right k κ M (U ++ R) (had_left k κ U R (subst (Had U k) (is_one 5 κ' u ∙ t) v)))))
    own-sound k κ (inr (inr (inr (inl (l, h, t))))) =
        let d = z.header-end in
        let (κ', u, v) = run-had (eqb 6) (reference-uses tt tt x.header_end x.size z.is.h.contained (at + z.is.h.size.0)) f
        z.is.left.p z.is.left.referred k (omega arith) (omega arith) in
        inl (in_front k κ (had_right k κ H (M ++ (U ++ R)) (had_right k κ M (U ++ R) (had_right k κ U R (subst (Had R k) (is_one 6 κ' u ∙ t) v)))))
    own-sound k κ (inr (inr (inr (inr (inl (l, h, t)))))) =
        inl (had_right k κ (trace (front x parent depth s m) f at) (passed (node_row w.row) q (inline_size w.row) ∷ [])
        (inl (has_byte_lem q (inline_size w.row) k (omega arith) (omega arith), t)))
    own-sound k κ (inr (inr (inr (inr (inr o))))) = absurd o

    own-complete : (k κ : ℕ) → Had own k κ → (κ' : ℕ) × OfNode f w.row k κ'
    own-complete k κ h = by (had_either (trace (front x parent depth s m) f at) (passed (node_row w.row) q (inline_size w.row) ∷ []) k κ h)
      where
        by : Had (trace (front x parent depth s m) f at) k κ ⊎ Had (passed (node_row w.row) q (inline_size w.row) ∷ []) k κ → (κ' : ℕ) × OfNode f w.row k κ'
        by (inl y) =
            let es = trace (front x parent depth s m) f at in
            let (l, u) = covered es at k (chain (front x parent depth s m) f at) (had_covers es k κ y) in
            let v = ends (front x parent depth s m) f at e in
            let i = z.begins in let a = z.meta_at in let b = z.meta_end in let d = z.header-end in
            elim (dec_lt k z.is.p) [
              | yes n ↦ (1, inl (omega arith, omega arith, refl))
              | no n ↦ elim (dec_lt k z.is.p') [
                | yes o ↦ (2, inr (inl (omega arith, omega arith, refl)))
                | no o ↦ elim (dec_lt k z.is.left.p) [
                  | yes r ↦ (5, inr (inr (inl (omega arith, omega arith, refl))))
                  | no r ↦ (6, inr (inr (inr (inl (omega arith, omega arith, refl)))))
                ]
              ]
            ]
        by (inr (inl (t, y))) = let o = in_event (passed (node_row w.row) q (inline_size w.row)) k t in (7, inr (inr (inr (inr (inl (omega arith, omega arith, refl))))))
        by (inr (inr y)) = absurd y

  own-match : OfRow Match match_nil match_on f
  own-match x parent depth s m at w q e body b v r =
      let z = front_ordered x parent depth s m f at e in let c = contents-at x parent depth s m f at e body r in
      let n = own_row x parent depth s m f at e in record {
        sound = λ k κ h. elim (subst (λ ns. Some (OfNode f) ns k κ) n h) [ inl o ↦ own-sound x parent depth s m at w q e z c k κ o | inr o ↦ absurd o ];
        complete = λ k κ h. let (κ', o) = own-complete x parent depth s m at w q e z c k κ h in (κ', subst (λ ns. Some (OfNode f) ns k κ') (sym n) (inl o));
      }

-- ---- items: their data is what they say, and nothing else is data

data_had : (es : Events) (top : ℕ) → All (Inside Nothing top top).asks es → (k κ : ℕ) → Some OfItem (items_of es) k κ → Had es k κ
unfolding rows_of
data_had [] top a k κ o = absurd o
data_had (seen x p ∷ es) top a k κ o = inr (data_had es top a k κ o)
data_had (passed (node_row r) p n ∷ es) top a k κ o = inr (data_had es top a.1 k κ o)
data_had (passed (item_row r) p n ∷ es) top a k κ (inl (l, h, t)) = let i = a.0.0 in let j = a.0.1 in inl (has_byte_lem p n k (omega arith) (omega arith), t)
data_had (passed (item_row r) p n ∷ es) top a k κ (inr o) = inr (data_had es top a.1 k κ o)
data_had (passed (plain x) p n ∷ es) top a k κ o = inr (data_had es top a.1 k κ o)

frame-no_data : (x : Frame) (κ : ℕ) → 3 ≤ κ → κ ≤ 4 → kind_of_frame x ≡ κ → ⊥
frame-no_data file_frame κ l h e = omega arith
frame-no_data node_frame κ l h e = omega arith
frame-no_data meta_frame κ l h e = omega arith
frame-no_data unpack_frame κ l h e = omega arith
frame-no_data reference_frame κ l h e = omega arith

plain-no_data : (x : Plain) (κ : ℕ) → 3 ≤ κ → κ ≤ 4 → kind_of_plain x ≡ κ → ⊥
plain-no_data language κ l h e = omega arith
plain-no_data name κ l h e = omega arith
plain-no_data uri κ l h e = omega arith

had_data : (es : Events) (top : ℕ) → All (Inside Nothing top top).asks es → (k κ : ℕ) → 3 ≤ κ → κ ≤ 4 → Had es k κ → Some OfItem (items_of es) k κ
unfolding rows_of
had_data [] top a k κ l h o = absurd o
had_data (seen x p ∷ es) top a k κ l h (inl o) = absurd (frame-no_data x κ l h o.1)
had_data (seen x p ∷ es) top a k κ l h (inr o) = had_data es top a k κ l h o
had_data (passed (node_row r) p n ∷ es) top a k κ l h (inl o) = let e = o.1 in absurd (omega arith)
had_data (passed (node_row r) p n ∷ es) top a k κ l h (inr o) = had_data es top a.1 k κ l h o
had_data (passed (item_row r) p n ∷ es) top a k κ l h (inl o) =
    let i = a.0.0 in let j = a.0.1 in let y = in_event (passed (item_row r) p n) k o.0 in inl (omega arith, omega arith, o.1)
had_data (passed (item_row r) p n ∷ es) top a k κ l h (inr o) = inr (had_data es top a.1 k κ l h o)
had_data (passed (plain x) p n ∷ es) top a k κ l h (inl o) = absurd (plain-no_data x κ l h o.1)
had_data (passed (plain x) p n ∷ es) top a k κ l h (inr o) = had_data es top a.1 k κ l h o

-- ---- the whole

module _ (lim : Limits) (f : List ℕ) {h : Header} {ns : List Node} {is : List Item} (r : read_file lim f ≡ rows h ns is) (k : ℕ) where
  abbrev read : ReadAs lim f h ns is
  read = read_back lim f r

  abbrev top : Events
  top = trace (header (length f)) f 0

  is-kind : (κ : ℕ) → IsOf (top ++ read.log) k κ → kind_at (events_of lim f h) k ≡ κ
  is-kind κ i = sym (kind-only (events_of lim f h) (file-separate lim f r) k κ (rw (events-are lim f r) i))

  in_header : k < h.extent.end → Had top k 0
  in_header l =
      let w = (header_of_lem read).0 in
      let (κ, u, v) = run-had (eqb 0) (header-uses tt tt (length f)) f 0 read.header_is k (omega arith) (omega arith) in
      subst (Had top k) (is_one 0 κ u) v

  matching : Match f read.log
  matching = by_nodes (Match f) (match_nil f) (match_on f) f (own-match f) lim h read

  -- under the items
  abbrev nodes_put : ℕ → ℕ
  nodes_put = folded (over_node f) (over (λ k. 8) (header_span h.extent.end)) ns

  no-event : ((κ : ℕ) → InSpan (header_span h.extent.end) k κ → ⊥) → ((κ : ℕ) → Some (OfNode f) ns k κ → ⊥) → (κ : ℕ) → Had (top ++ read.log) k κ → ⊥
  no-event m n κ o = elim (had_either top read.log k κ o) [
    | inl y ↦ (
        let (l, u) = covered top 0 k (chain (header (length f)) f 0) (had_covers top k κ y) in
        let v = ends (header (length f)) f 0 read.header_is in
        let w = (header_of_lem read).0 in
        m 0 (omega arith, omega arith, refl))
    | inr y ↦ (let (κ', s) = matching.complete k κ y in n κ' (subst (λ v. Some (OfNode f) v k κ') read.nodes-are s))
  ]

  by_header : ((κ : ℕ) → Some (OfNode f) ns k κ → ⊥) → Put (InSpan (header_span h.extent.end) k) (over (λ k. 8) (header_span h.extent.end) k) 8
      → kind_at (events_of lim f h) k ≡ over (λ k. 8) (header_span h.extent.end) k
  by_header n (inl (κ, (l, u, t), e)) = is-kind κ (inl (had_left k κ top read.log (subst (Had top k) t (in_header u)))) ∙ sym e
  by_header n (inr (e, m)) = is-kind 8 (inr (refl, no-event m n)) ∙ sym e

  no-data : ((κ : ℕ) → Some OfItem is k κ → ⊥) → (κ : ℕ) → 3 ≤ κ → κ ≤ 4 → Had read.log k κ → ⊥
  no-data n κ l u o = n κ (subst (λ v. Some OfItem v k κ) read.items-are (had_data read.log (length f) (log-inside read) k κ l u o))

  by_parts : ((κ : ℕ) → Some OfItem is k κ → ⊥) → Put (Some (OfNode f) ns k) (nodes_put k) (over (λ k. 8) (header_span h.extent.end) k) → kind_at (events_of lim f h) k ≡ nodes_put k
  by_parts n (inl (κ, s, e)) = by (matching.sound k κ (subst (λ v. Some (OfNode f) v k κ) (sym read.nodes-are) s)) ∙ sym e
    where
      by : Meant read.log k κ → kind_at (events_of lim f h) k ≡ κ
      by (inl o) = is-kind κ (inl (had_right k κ top read.log o))
      by (inr (t, inl o)) = absurd (no-data n 3 (omega arith) (omega arith) o)
      by (inr (t, inr o)) = absurd (no-data n 4 (omega arith) (omega arith) o)
  by_parts n (inr (e, m)) = by_header m (span_put (λ k. 8) (header_span h.extent.end) k) ∙ sym e

  by_all : Put (Some OfItem is k) (kind_by_rows f h.extent.end ns is k) (nodes_put k) → kind_at (events_of lim f h) k ≡ kind_by_rows f h.extent.end ns is k
  by_all (inl (κ, s, e)) = is-kind κ
      (inl (had_right k κ top read.log
      (data_had read.log (length f) (log-inside read) k κ (subst (λ v. Some OfItem v k κ) (sym read.items-are) s)))) ∙ sym e
  by_all (inr (e, n)) = by_parts n (folded-put (OfNode f) (over_node f) (λ m r. folded-put InSpan over span_put (node_spans f r) m) ns _ k) ∙ sym e

  pub by_place : kind_at (events_of lim f h) k ≡ kind_by_rows f h.extent.end ns is k
  by_place = by_all (folded-put OfItem over_item (λ m r. span_put m (item_span r)) is _ k)
