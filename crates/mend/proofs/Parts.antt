-- The header's fields taken apart and put together: read and not judged, read by `header`, read in a file where only the two values differ.
-- Assumes nothing.
use mathlib.Core.Path.{◌≡◌, refl, subst}
use mathlib.Core.Bool.{Bool, true, false}
use mathlib.Core.Logic.{inl, inr}
use mathlib.Core.List.{List}
use Prim.Native.Nat.{ℕ, ◌+◌, ◌≤◌, ◌<◌, ◌^◌}
use native.Mathlib.Omega.{arith}
use lib.ListN.{get_or}
use borrow.Author.Tests.{eqb-true, leb-true, ltb-true, eq-eqb, le-leb, lt-ltb}
use Rattle.machine.specs.Machine.{ok, run, exec, check, ◌>>◌}
use Rattle.cursor.specs.Rows.{file_frame}
use Rattle.cursor.specs.Leaves.{number}
use Rattle.machine.proofs.Laws.{running}
use Rattle.machine.proofs.Wp.{at_end}
use Rattle.machine.proofs.Stable.{depends}
use Rattle.cursor.proofs.Leaves.{any_free, number-inside}
use Rattle.cursor.proofs.Post.{Post, post_step, post_place, post_check, post_ret}
use Rattle.cursor.proofs.Runs.{nothing, nothing-quiet, post_ran}
use Rattle.header.specs.Header.{opening, edition, file_length, types_table, Extent, extent, Header, header}
use Rattle.header.proofs.Ends.{opening_on, edition-on, types-on}
use Rattle.mend.specs.Fields.{Field, number_field, Fields, fields, Elsewhere}

-- the header of f, whose fields are w, read part by part
pub record Parts (n : ℕ) (f : List ℕ) (w : Fields) : Type 0 where
  pub opened : ℕ
  pub opening-is : run (opening n) f 0 ≡ ok w.version opened
  pub edition-is : run (edition n w.version) f opened ≡ ok w.edition w.length.place
  pub length-is : run (number file_frame 3 n) f w.length.place ≡ ok w.length.value w.length.end
  pub typed : ℕ
  pub types_are : run (types_table n) f w.length.end ≡ ok w.types typed
  pub start_is : run (number file_frame 3 n) f typed ≡ ok w.start w.last.place
  pub last-is : run (number file_frame 3 n) f w.last.place ≡ ok w.last.value w.last.end

-- where the parts lie
pub record Places (n : ℕ) (w : Fields) (opened typed : ℕ) : Type 0 where
  pub after-opening : opened ≤ w.length.place
  pub length_some : w.length.place < w.length.end
  pub length-few : w.length.end ≤ w.length.place + 4
  pub types-some : w.length.end < typed
  pub start-some : typed < w.last.place
  pub last_some : w.last.place < w.last.end
  pub last-few : w.last.end ≤ w.last.place + 4
  pub inside : w.last.end ≤ n
  pub start_small : w.start < 2 ^ 28
  pub small : n < 2 ^ 28

-- the header that says the same, with TreeEnd set to b
abbrev pub header_for : Fields → (b : ℕ) → Header
header_for w b = record { version = w.version; edition = w.edition; types = w.types; extent = record { start = w.start; last = b; end = w.last.end } }

-- what `header` asks besides
pub record Judged (n : ℕ) (w : Fields) : Type 0 where
  pub long : w.length.value ≡ n
  pub after : w.last.end ≤ w.start
  pub ordered : w.start ≤ w.last.value
  pub inside : w.last.value < n

-- a check at the end of a program
checked : {f : List ℕ} {b : Bool} (n p : ℕ) {R : Unit {0} → ℕ → Unit {0} → Type 0} {at : ℕ} → (b ≡ true → R tt at tt) → Post nothing f (check b n p) R at tt
unfolding exec check
checked {b = true} n p h = record { post = h refl }
checked {b = false} n p h = record { post = tt }

module _ (n : ℕ) (f : List ℕ) where
  pub places : {w : Fields} (x : Parts n f w) → Places n w x.opened x.typed
  places {w} x =
      let o = at_end any_free f (opening_on n) x.opening-is in
      let e = at_end any_free f (edition-on n w.version x.opened (omega arith)) x.edition-is in
      let a = number-inside file_frame 3 n f w.length.place x.length-is in
      let t = at_end any_free f (types-on n w.length.end) x.types_are in
      let s = number-inside file_frame 3 n f x.typed x.start_is in
      let b = number-inside file_frame 3 n f w.last.place x.last-is in
      record {
        after-opening = omega arith;
        length_some = omega arith;
        length-few = omega arith;
        types-some = omega arith;
        start-some = omega arith;
        last_some = omega arith;
        last-few = omega arith;
        inside = omega arith;
        start_small = omega arith;
        small = omega arith;
      }

  -- ---- not judged

  field-was : (at : ℕ) {x : Field} {q : ℕ} → run (number_field n) f at ≡ ok x q → (run (number file_frame 3 n) f at ≡ ok x.value x.end) × (x.place ≡ at) × (x.end ≡ q)
  unfolding number_field
  field-was at e =
      post_ran {Q = λ x q. (run (number file_frame 3 n) f at ≡ ok x.value x.end) × (x.place ≡ at) × (x.end ≡ q)}
      (post_place _ at (post_step nothing-quiet λ v p h. post_place _ p (post_ret (h, refl, refl)))) e

  pub fields-parts : {w : Fields} {q : ℕ} → run (fields n) f 0 ≡ ok w q → Parts n f w × (w.last.end ≡ q)
  unfolding fields
  fields-parts e =
      post_ran {Q = λ w q. Parts n f w × (w.last.end ≡ q)}
      (post_step nothing-quiet λ v p o. post_step nothing-quiet λ d a₀ ed. post_step nothing-quiet λ a a₁ le. post_step nothing-quiet λ ds r ty.
      post_step nothing-quiet λ s b₀ st. post_step nothing-quiet λ b b₁ la.
      let (le', a_at, a-end) = field-was a₀ le in let (st', s-at, s-end) = field-was r st in
      let (la', b_at, b_end) = field-was b₀ la in
      post_ret (
        record {
          opened = p;
          opening-is = o;
          edition-is = rw a_at ed;
          length-is = rw a_at le';
          typed = r;
          types_are = rw a-end ty;
          start_is = rw b_at (rw s-end at st');
          last-is = rw b_at la';
        },
        b_end,
      )) e

  pub parts_fields : {w : Fields} → Parts n f w → run (fields n) f 0 ≡ ok w w.last.end
  unfolding fields number_field
  parts_fields x = simp (running, x.opening-is, x.edition-is, x.length-is, x.types_are, x.start_is, x.last-is)

  -- ---- judged

  length-was : (at : ℕ) {u : Unit {0}} {q : ℕ} → run (file_length n) f at ≡ ok u q → run (number file_frame 3 n) f at ≡ ok n q
  unfolding file_length
  length-was at e =
      post_ran {f = f} {Q = λ u q. run (number file_frame 3 n) f at ≡ ok n q}
      (post_place _ at (post_step {m = number file_frame 3 n} nothing-quiet λ v p h. checked _ _ λ t. subst (λ u. run (number file_frame 3 n) f at ≡ ok u p) (eqb-true v n t) h)) e

  -- TreeStart, then TreeEnd from `middle` on
  record Bounds (at : ℕ) (x : Extent) : Type 0 where
    middle : ℕ
    start_is : run (number file_frame 3 n) f at ≡ ok x.start middle
    last-is : run (number file_frame 3 n) f middle ≡ ok x.last x.end
    after : x.end ≤ x.start
    ordered : x.start ≤ x.last
    inside : x.last < n

  extent-was : (at : ℕ) {x : Extent} {q : ℕ} → run (extent n) f at ≡ ok x q → Bounds at x
  unfolding extent
  extent-was at e =
      post_ran {Q = λ x q. Bounds at x}
      (post_place _ at (post_step nothing-quiet λ s m st. post_place _ m
      (post_step nothing-quiet λ l r la. post_place _ r (post_check _ _ λ t. post_check _ _ λ u. post_check _ _ λ v.
      post_ret (record { middle = m; start_is = st; last-is = la; after = leb-true r s t; ordered = leb-true s l u; inside = ltb-true l n v }))))) e

  -- a header that was read, with its fields
  abbrev pub Headed : Header → Type 0
  Headed h = (w : Fields) × Parts n f w × Judged n w × (h ≡ header_for w w.last.value)

  pub header-parts : {h : Header} {q : ℕ} → run (header n) f 0 ≡ ok h q → Headed h
  unfolding header ◌>>◌
  header-parts e =
      post_ran {Q = λ h q. Headed h}
      (post_step nothing-quiet λ v p o. post_step nothing-quiet λ d a₀ ed. post_step nothing-quiet λ u a₁ le. post_step nothing-quiet λ ds r ty. post_step nothing-quiet λ x q ex.
      let b = extent-was r ex in
      post_ret (
        record {
          version = v;
          edition = d;
          length = record { place = a₀; value = n; end = a₁ };
          types = ds;
          start = x.start;
          last = record
              { place = b.middle; value = x.last; end = x.end };
        },
        record { opened = p; opening-is = o; edition-is = ed; length-is = length-was a₀ le; typed = r; types_are = ty; start_is = b.start_is; last-is = b.last-is },
        record { long = refl; after = b.after; ordered = b.ordered; inside = b.inside },
        refl,
      )) e

  pub parts_header : {w : Fields} → Parts n f w → Judged n w → run (header n) f 0 ≡ ok (header_for w w.last.value) w.last.end
  unfolding header file_length extent
  parts_header x j =
      simp (
        running,
        x.opening-is,
        x.edition-is,
        x.length-is,
        eq-eqb _ _ j.long,
        x.types_are,
        x.start_is,
        x.last-is,
        le-leb _ _
            j.after,
        le-leb _ _ j.ordered,
        lt-ltb _ _ j.inside,
      )

-- ---- other values

-- the fields w with the values a and b
abbrev pub valued : Fields → (a b : ℕ) → Fields
valued w a b = record {
  version = w.version;
  edition = w.edition;
  length = record { place = w.length.place; value = a; end = w.length.end };
  types = w.types;
  start = w.start;
  last = record { place = w.last.place; value = b; end = w.last.end };
}

-- g is f but for the two fields, which have the values a and b in the same bytes
pub record Valued (n : ℕ) (f g : List ℕ) (w : Fields) (a b : ℕ) : Type 0 where
  pub same : (k : ℕ) → Elsewhere w k → get_or f k 0 ≡ get_or g k 0
  pub length-is : run (number file_frame 3 n) g w.length.place ≡ ok a w.length.end
  pub last-is : run (number file_frame 3 n) g w.last.place ≡ ok b w.last.end

pub valued-parts : (n : ℕ) (f g : List ℕ) {w : Fields} {a b : ℕ} → Parts n f w → Valued n f g w a b → Parts n g (valued w a b)
valued-parts n f g {w} x v =
    let z = places n f x in
    let l = z.after-opening in let s = z.start-some in let t = z.types-some in
    record {
      opened = x.opened;
      opening-is = depends (opening n) f g 0 x.opening-is (λ k lo hi. v.same k (inl (omega arith)));
      edition-is = depends (edition n w.version) f g x.opened x.edition-is (λ k lo hi. v.same k (inl hi));
      length-is = v.length-is;
      typed = x.typed;
      types_are = depends (types_table n) f g w.length.end x.types_are (λ k lo hi. v.same k (inr (inl (lo, omega arith))));
      start_is = depends (number file_frame 3 n) f g x.typed x.start_is (λ k lo hi. v.same k (inr (inl (omega arith, hi))));
      last-is = v.last-is;
    }
