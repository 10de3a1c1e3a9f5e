-- The ways through the question: what each exit of the code comes to, answer, tables and buffer.
-- Assumes nothing.
use mathlib.Core.Path.{◌≡◌, refl, sym, ap, ap₂, ◌∙◌, subst}
use Rattle.std.proofs.Common.{Ok, Err}
use Rattle.std.proofs.Common as std
use Rattle.refusals.specs.Reasons.{number_of}
use Rattle.refusals.specs.declared.Refusal.{Refusal}
use mathlib.Core.Bool.{Bool, true, false, cond}
use mathlib.Core.List.{List, ◌++◌}
use Prim.Native.Nat.{ℕ, ◌+◌, ◌-◌, ◌^◌, ◌≤◌, ◌<◌}
use native.Mathlib.Decide.{dec_lt}
use native.Mathlib.Omega.{arith}
use lib.Dec.{leb}
use lib.ListN.{length, take, drop, replicate}
use lib.Seq.{sets, sets-eq, take_at}
use borrow.Author.Tests.{le-leb, lt-leb, lt-ltb, le-ltb}
use Rattle.cursor.specs.declared.Node.{Node}
use Rattle.cursor.specs.declared.Item.{Item}
use Rattle.header.specs.Header.{Header}
use Rattle.metadata.specs.Tables.{limits}
use Rattle.metadata.specs.declared.Limits.{Limits}
use Rattle.room.specs.Room.{Result, good, bad, padded, counted, kept}
use Rattle.rows.specs.Rows.{item_at, nodes_in, items_in}
use Rattle.file.specs.Reading.{rows, read_file, read_of, node_table, item_table}
use Rattle.file.specs.Asking.{ask, kept_nodes, kept_items, written_nodes, written_items}
use Rattle.file.specs.declared.Summary.{Summary}
use Rattle.file.proofs.Rows.{Standing, ask-refused, refused-nodes, refused-items, ask-is}
use Rattle.title_text.specs.Title.{elsewhere, is_no_title, titled_file, fitting, correct_title}
use Rattle.room.specs.Counts.{Counts}
use Rattle.room.proofs.Counting.{counts-exact}
use Rattle.title_nodes.specs.Passes.{size_stop}
use Rattle.title_file.specs.Stands.{Stands}
use Rattle.title_file.specs.Told.{Fills}
use Rattle.title.specs.Refusals.{allowed}
use Rattle.refusals.specs.Told.{told}
use Rattle.title.specs.Told.{Wrote}

-- ---- the rows' refusals

-- a question that is asked where another refuses nothing
abbrev then : {A : Type 0} → Result (Unit {0}) → Result A → Result A
then (good u) o = o
then (bad n p) o = bad n p

asked-after : (a b c : Bool) (o : Result (List ℕ)) →
    cond a (bad 18 0) (cond b (bad 36 0) (cond c (bad 37 0) o)) ≡ then (cond a (bad 18 0) (cond b (bad 36 0) (cond c (bad 37 0) (good tt)))) o
asked-after true b c o = refl
asked-after false true c o = refl
asked-after false false true o = refl
asked-after false false false o = refl

not-elsewhere : (a b c : Bool) → ◌≡◌ {A = Result (Unit {0})} (cond a (bad 18 0) (cond b (bad 36 0) (cond c (bad 37 0) (good tt)))) (good tt) → b ≡ false
not-elsewhere true b c e = cc
not-elsewhere false true c e = cc
not-elsewhere false false c e = refl

pub rows_stay : (row : ℕ) (ns : List Node) (is : List Item) {r : std.Result (Unit {0}) Refusal} → told r ≡ allowed row ns is → r ≡ Ok tt → elsewhere ns ≡ false
unfolding allowed
rows_stay row ns is e k = not-elsewhere (leb (length is) row) (elsewhere ns) (is_no_title (item_at is row)) (sym e ∙ ap told k)

module _ (row : ℕ) (title : List ℕ) (room : ℕ) (f : List ℕ) (h : Header) (ns : List Node) (is : List Item) where
  abbrev g : List ℕ
  g = titled_file row title f h ns is

  rows-first : (a : std.Result (Unit {0}) Refusal) → told a ≡ allowed row ns is → correct_title row title room f h ns is ≡ then (told a) (fitting room g)
  unfolding allowed correct_title
  rows-first a e = asked-after (leb (length is) row) (elsewhere ns) (is_no_title (item_at is row)) (fitting room g) ∙ ap (λ v. then v (fitting room g)) (sym e)

  pub rows-refuse : {a : std.Result (Unit {0}) Refusal} → told a ≡ allowed row ns is → {x : Refusal} → a ≡ Err x → correct_title row title room f h ns is ≡ bad (number_of x.0) x.1
  rows-refuse {a} e k = rows-first a e ∙ ap (λ v. then (told v) (fitting room g)) k

  module _ {a : std.Result (Unit {0}) Refusal} (e : told a ≡ allowed row ns is) (z : a ≡ Ok tt) where
    rows-allow : correct_title row title room f h ns is ≡ fitting room g
    rows-allow = rows-first a e ∙ ap (λ v. then (told v) (fitting room g)) z

    -- ---- the file's

    module _ {lent out : List ℕ} {r : ℕ} (same : length lent ≡ room) (p : Fills lent out (titled_file row title f h ns is) r) where
      large : size_stop ≤ r → size_stop ≤ length g
      large l = elim (dec_lt (length g) size_stop) [
        | yes m ↦ omega (arith, (p.small m).after)
        | no m ↦ omega arith
      ]

      pub too_large_lem : size_stop ≤ r → correct_title row title room f h ns is ≡ bad 38 0
      unfolding fitting
      too_large_lem l = rows-allow ∙ rw (le-leb (2 ^ 28) (length g) (large l)) refl

      module _ (l : r < size_stop) where
        small : length g < size_stop
        small = elim (dec_lt (length g) size_stop) [
          | yes m ↦ m
          | no m ↦ omega (arith, p.large (omega arith))
        ]

        puts : Counts lent out 0 g r
        puts = p.small small

        size_is : r ≡ length g
        size_is = omega (arith, counts-exact puts (omega arith))

        pub no_room_lem : room < r → correct_title row title room f h ns is ≡ bad 22 0
        unfolding fitting
        no_room_lem m = rows-allow ∙ rw (lt-leb (2 ^ 28) (length g) small, lt-ltb room (length g) (omega (arith, size_is))) refl

        pub wrote : r ≤ room → Wrote out (Ok r) (correct_title row title room f h ns is)
        unfolding fitting
        wrote m =
            let a : correct_title row title room f h ns is ≡ good g = rows-allow ∙ rw (lt-leb (2 ^ 28) (length g) small, le-ltb room (length g) (omega (arith, size_is))) refl in
            let b : out ≡ sets lent 0 g = puts.fits (omega arith) (omega arith) in
            let c : 0 + length g ≡ length g = omega arith in
            let d : sets lent 0 g ≡ g ++ drop (0 + length g) lent = sets-eq g lent 0 (omega (arith, size_is)) in
            record { is = (g, a, size_is, omega (arith, puts.long), ap (take r) (b ∙ d) ∙ take_at g (drop (0 + length g) lent) r (sym size_is)) }

-- ---- the call

wrote-was : {out : List ℕ} {r r' : std.Result ℕ Refusal} {o : Result (List ℕ)} → Wrote out r o → r ≡ r' → Wrote out r' o
wrote-was {out} {o = o} w e = subst (λ v. Wrote out v o) e w

-- zeros of a length that was kept
pub zeros : {n m : ℕ} {t : List ℕ} → t ≡ replicate m 0 → m ≡ n → t ≡ replicate n 0
zeros e l = e ∙ ap (λ n. replicate n 0) l

module _ (f : List ℕ) (nsize isize : ℕ) {s : Summary} {t u : List ℕ} (st : Standing f (read_file (limits nsize isize) f) s t u) where
  pub reads_as : read_file (limits nsize isize) f ≡ rows st.h (nodes_in s.nodes t) (items_in s.items u)
  reads_as = st.reads ∙ sym (ap₂ (rows st.h) st.nodes-are st.items-are)

  pub stands : Stands f t u s.nodes s.items
  stands = record { limits = limits nsize isize; header = st.h; reads = reads_as; few = omega arith; node-room = st.node-room; item_room = st.item_room }

module _ (f : List ℕ) (nsize isize row : ℕ) (title : List ℕ) (room : ℕ) where
  abbrev lim : Limits
  lim = limits nsize isize

  abbrev result : Result (List ℕ)
  result = ask (read_file lim f) (correct_title row title room f)

  -- what the call says of its answer, and of the tables and the buffer that it leaves
  abbrev pub Says : std.Result ℕ Refusal → List ℕ → List ℕ → List ℕ → Type 0
  Says a t u out = (told a ≡ counted result) × ((t ≡ written_nodes nsize lim result) × ((u ≡ written_items isize lim result) × (out ≡ kept room result)))

  says-bad : (e : Refusal) → result ≡ bad (number_of e.0) e.1 → {t u out : List ℕ} → t ≡ replicate nsize 0 → u ≡ replicate isize 0 → out ≡ replicate room 0 → Says (Err e) t u out
  unfolding counted written_nodes written_items kept
  says-bad e q a b c = rw q (refl, (a, (b, c)))

  pub asked-refused : {r : std.Result Summary Refusal} → told r ≡ read_of (read_file lim f) → {x : Refusal} → r ≡ Err x → {t u : List ℕ} → t ≡
      node_table nsize (read_file lim f) → u ≡ item_table isize (read_file lim f) → {out : List ℕ} → out ≡ replicate room 0 → Says
      (Err x) t u out
  unfolding kept_nodes kept_items
  asked-refused e k a b c =
      let q = ask-refused (read_file lim f) e k (correct_title row title room f) in
      let a' = refused-nodes (read_file lim f) (correct_title row title room f) e k nsize a in
      let b' = refused-items (read_file lim f) (correct_title row title room f) e k isize b in
      says-bad _ q (rw q at a') (rw q at b') c

  module _ {s : Summary} {t u : List ℕ} (st : Standing f (read_file lim f) s t u) where
    result-is : result ≡ correct_title row title room f st.h (nodes_in s.nodes t) (items_in s.items u)
    result-is = ask-is (reads_as f nsize isize st) (correct_title row title room f)

    module _ {out : List ℕ} {r : std.Result ℕ Refusal} (w : Wrote out r (correct_title row title room f st.h (nodes_in s.nodes t) (items_in s.items u))) where
      pub asked-bad : {x : Refusal} → r ≡ Err x → {t' u' out' : List ℕ} → t' ≡ replicate nsize 0 → u' ≡ replicate isize 0 → out' ≡
          replicate room 0 → Says (Err x) t' u' out'
      asked-bad k a b c = says-bad _ (result-is ∙ (wrote-was w k).is) a b c

      module _ {n : ℕ} (k : r ≡ Ok n) where
        pub file-inside : n ≤ length out
        file-inside = (wrote-was w k).is.3

        -- what is written is read again
        pub asked-good : length out ≡ room → {out' : List ℕ} → out' ≡ take n out ++ replicate (length out - n) 0 → length t ≡ nsize → length u ≡ isize → {t' u' : List ℕ}
            → t' ≡ node_table (length t) (read_file (limits (length t) (length u)) (take n out')) → u' ≡ item_table (length u)
            (read_file (limits (length t) (length u)) (take n out')) → Says (Ok n) t' u' out'
        unfolding counted written_nodes written_items kept padded
        asked-good lo {out'} c lt lu a b =
            let (g, e, size, inside, front) = (wrote-was w k).is in let q : result ≡ good g = result-is ∙ e in
            let j : length out - n ≡ room - length g = omega arith in
            let d : out' ≡ g ++ replicate (room - length g) 0 = c ∙ ap₂ (λ (v : List ℕ) (m : ℕ). v ++ replicate m 0) front j in
            let i : take n out' ≡ g = ap (take n) d ∙ take_at g (replicate (room - length g) 0) n (sym size) in
            rw q (ap good size, (a ∙ rw (lt, lu, i) refl, (b ∙ rw (lt, lu, i) refl, d)))
