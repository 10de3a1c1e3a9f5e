-- Where a resource comes from: the row that it was found at is one of the file's.
-- Assumes nothing.
use mathlib.Core.Path.{◌≡◌, refl, sym, ap, ◌∙◌}
use mathlib.Core.Bool.{Bool, true, false, cond, not}
use mathlib.Core.List.{List, [], ◌∷◌, ◌++◌}
use Prim.Native.Nat.{ℕ, zero, suc, ◌+◌, ◌*◌, ◌≤◌, ◌<◌}
use native.Mathlib.Omega.{arith}
use lib.Dec.{eqb, ltb}
use lib.ListN.{length}
use borrow.Author.Tests.{eq-eqb, ne_eqb, eqb-true, ltb-true}
use Rattle.std.proofs.Common as std
use Rattle.std.proofs.Common.{Ok, Err}
use Rattle.refusals.specs.Reasons.{number_of}
use Rattle.refusals.specs.declared.Refusal.{Refusal}
use Rattle.cursor.specs.declared.Node.{Node}
use Rattle.cursor.specs.declared.Item.{Item}
use Rattle.header.specs.Header.{Header}
use Rattle.metadata.specs.Tables.{full_nodes, full_items, limits}
use Rattle.rows.specs.Rows.{node_width, node_from, node_at}
use Rattle.room.specs.Room.{Result, good, bad}
use Rattle.room.specs.Decimal.{decimal}
use Rattle.file.specs.Reading.{Reading, rows, refusal, read_of, read_file, summary, node_table, item_table}
use Rattle.file.specs.Asking.{ask, kept_nodes}
use Rattle.file.proofs.Rows.{standing, ask-is}
use Rattle.rows.proofs.Rows.{node_at_lem}
use Rattle.resolve.specs.Resolve.{Resource, row_starting, resource_of, reached, chain, resolve_row, resolve}
use Rattle.resolve.specs.Told as resolution
use Rattle.resolve.specs.declared.Resolved.{Resolved}
use Rattle.resolve.proofs.Accepted.{linked}
use Rattle.lines.specs.Answer.{plainly, refused_by, fitted}
use Rattle.places.specs.Places.{origin_line, origin_of, origin, origin_answer}
use Rattle.lines.proofs.Ending.{printed-good, printed-bad}
use Rattle.lines.proofs.Reading.{full, asked-rows}

-- ---- the row of a resource

module _ (P : Resource → Type 0) (r : Resource) where
  of_two : (b : Bool) (x y : Result Resource) → (b ≡ true → x ≡ good r → P r) → (b ≡ false → y ≡ good r → P r) → cond b x y ≡ good r → P r
  of_two true x y p q e = p refl e
  of_two false x y p q e = q refl e

  none : (m p : ℕ) → bad m p ≡ good r → P r
  none m p e = let z : ◌≡◌ {A = ℕ} 0 1 = cc in absurd (omega arith)

  of_reached : (x : Node) (k hops : ℕ) (two three : Result Resource) → (resource_of x k hops ≡ good r → P r) → (two ≡ good r → P r) →
      (eqb x.reference 3 ≡ true → three ≡ good r → P r) → reached x k hops two three ≡ good r → P r
  unfolding reached
  of_reached x k hops two three p q s e =
      of_two (not (eqb x.contained 0)) _ _ (λ b. none _ _)
      (λ b. of_two (eqb x.reference 1) _ _ (λ b. p) (λ b. of_two (eqb x.reference 2) _ _ (λ b. q) (λ b. of_two (eqb x.reference 3) _ _ s (λ b. none _ _)))) e

here : (x : Node) (k hops : ℕ) (r : Resource) → resource_of x k hops ≡ good r → r.row ≡ k
unfolding resource_of
here x k hops r e = let z : record { place = x.target; size = x.extent; row = k; hops = hops } ≡ r = cc in sym (ap (λ (v : Resource). v.row) z)

module _ (ns : List Node) (to : (i : ℕ) → i < length ns → (node_at ns i).reference ≡ 3 → row_starting ns (node_at ns i).target < length ns) (r : Resource) where
  abbrev In : Resource → Type 0
  In r = r.row < length ns

  at : (k hops : ℕ) → k < length ns → resource_of (node_at ns k) k hops ≡ good r → In r
  at k hops l e = let z = here (node_at ns k) k hops r e in omega arith

  chain-row : (left k hops : ℕ) → k < length ns → chain left ns k hops ≡ good r → In r
  unfolding chain
  chain-row zero k hops l e = of_reached In r (node_at ns k) k hops _ _ (at k hops l) (none In r _ _) (λ b. none In r _ _) e
  chain-row (suc left) k hops l e =
      of_reached In r (node_at ns k) k hops _ _ (at k hops l) (at k (hops + 1) l)
      (λ b. chain-row left (row_starting ns (node_at ns k).target) (hops + 1) (to k l (eqb-true (node_at ns k).reference 3 b))) e

  resource-row : (row : ℕ) → resolve_row row ns ≡ good r → In r
  unfolding resolve_row
  resource-row row e = of_two In r (ltb row (length ns)) _ _ (λ b. chain-row 4 row 0 (ltb-true row (length ns) b)) (λ b. none In r _ _) e

-- ---- the answer

pub origin-hidden : (reference : ℕ) (r : Resource) → reference ≡ 2
    → decimal r.size
    ++ (0x20 ∷ 0x62 ∷ 0x79 ∷ 0x74 ∷ 0x65 ∷ 0x73 ∷ 0x20 ∷ 0x66 ∷ 0x72 ∷ 0x6F ∷ 0x6D ∷ 0x20 ∷ 0x62 ∷ 0x79 ∷ 0x74 ∷ 0x65 ∷ 0x20 ∷ [])
    ++ decimal r.place
    ++ (0x2C ∷ 0x20 ∷ 0x77 ∷ 0x68 ∷ 0x69 ∷ 0x63 ∷ 0x68 ∷ 0x20 ∷ 0x6D ∷ 0x61 ∷ 0x79 ∷ 0x20 ∷ 0x68 ∷ 0x6F ∷ 0x6C ∷ 0x64 ∷ 0x20 ∷ 0x68 ∷ 0x69 ∷
    0x64 ∷ 0x64 ∷ 0x65 ∷ 0x6E ∷ 0x20 ∷ 0x64 ∷ 0x61 ∷ 0x74 ∷ 0x61 ∷ 0x0A ∷ [])
    ≡ origin_line reference r
unfolding origin_line
origin-hidden reference r e = rw (eq-eqb reference 2 e)

pub origin-plain : (reference : ℕ) (r : Resource) → (reference ≡ 2 → ⊥)
    → decimal r.size
    ++ (0x20 ∷ 0x62 ∷ 0x79 ∷ 0x74 ∷ 0x65 ∷ 0x73 ∷ 0x20 ∷ 0x66 ∷ 0x72 ∷ 0x6F ∷ 0x6D ∷ 0x20 ∷ 0x62 ∷ 0x79 ∷ 0x74 ∷ 0x65 ∷ 0x20 ∷ [])
    ++ decimal r.place
    ++ (0x0A ∷ [])
    ≡ origin_line reference r
unfolding origin_line
origin-plain reference r n = rw (ne_eqb reference 2 n)

kept-good : {A : Type 0} (size : ℕ) (o : Reading) {x : Result A} {a : A} → x ≡ good a → kept_nodes size o x ≡ node_table size o
unfolding kept_nodes
kept-good size o e = rw e

unmade : (row : ℕ) (f : List ℕ) (h : Header) (ns : List Node) (is : List Item) {m p : ℕ} → resolve_row row ns ≡ bad m p → origin row f h ns is ≡ bad m p
unfolding origin origin_of
unmade row f h ns is k = rw k

refused : (row : ℕ) (f : List ℕ) (o : Reading) {m p : ℕ} → ask o (resolve row f) ≡ bad m p → ask o (origin row f) ≡ bad m p
unfolding ask resolve
refused row f (rows h ns is) k = unmade row f h ns is k
refused row f (refusal a b) {m} {p} k = let x : a ≡ m = cc in let y : b ≡ p = cc in rw (x, y)

module _ (f : List ℕ) {n i : ℕ} (en : full_nodes ≡ n) (ei : full_items ≡ i) (room row : ℕ) {r : std.Result Resolved Refusal}
    (e : resolution.told r ≡ ask (read_file (limits n i) f) (resolve row f)) where
  pub origin-bad : {k : Refusal} → r ≡ Err k → refused_by room [] (number_of k.0) k.1 ≡ origin_answer room row f
  unfolding origin_answer
  origin-bad k = printed-bad plainly _ _ (sym (full f en ei (origin row f)) ∙ refused row f (read_file (limits n i) f) (sym e ∙ ap resolution.told k))

  module _ {x : Resolved} (k : r ≡ Ok x) {t : List ℕ}
      (tab : t ≡ kept_nodes n (read_file (limits n i) f) (ask (read_file (limits n i) f) (resolve row f))) where
    abbrev it : Resource
    it = record { place = x.place.0; size = x.size; row = x.last; hops = x.hops }

    outcome : ask (read_file (limits n i) f) (resolve row f) ≡ good it
    outcome = sym e ∙ ap resolution.told k

    record There : Type 0 where
      h : Header
      ns : List Node
      is : List Item
      reads : read_file (limits n i) f ≡ rows h ns is
      found : resolve_row row ns ≡ good it
      inside : x.last * node_width + node_width ≤ length t
      same : node_from t (x.last * node_width) ≡ node_at ns x.last

    there : There
    unfolding read_of resolve
    there =
        let a = asked-rows (read_file (limits n i) f) (resolve row f) outcome in
        let ns = a.1 in
        let l : x.last < length ns = resource-row ns (linked (limits n i) f a.3) it row a.4 in
        let st = standing f (limits n i) n i {s = summary a.0 ns a.2} {r = Ok (summary a.0 ns a.2)} (sym (ap read_of a.3)) {t = t}
        {u = item_table i (read_file (limits n i) f)} (tab ∙ kept-good n (read_file (limits n i) f) outcome) refl refl in
        let y : rows st.h st.ns st.is ≡ rows a.0 ns a.2 = sym st.reads ∙ a.3 in
        let same_nodes : st.ns ≡ ns = cc in
        record {
          h = a.0;
          ns = ns;
          is = a.2;
          reads = a.3;
          found = a.4;
          inside = omega (arith, st.node-room);
          same = sym
              (node_at_lem t (length ns) x.last l) ∙ ap (λ v. node_at v x.last) (st.nodes-are ∙ same_nodes);
        }

    pub origin-room : x.last * node_width + node_width ≤ length t
    origin-room = there.inside

    made : (w : There) → origin row f w.h w.ns w.is ≡ good (origin_line (node_at w.ns x.last).reference it)
    unfolding origin origin_of
    made w = rw w.found

    pub origin-good : {v : Node} → v ≡ node_from t (x.last * node_width) → fitted room [] (plainly (origin_line v.reference it)) ≡ origin_answer room row f
    unfolding origin_answer
    origin-good z =
        let w = there in
        ap (λ (v : Node). fitted room [] (plainly (origin_line v.reference it))) (z ∙ w.same) ∙ printed-good plainly _ _
        (sym (full f en ei (origin row f)) ∙ ask-is w.reads (origin row f) ∙ made w)
