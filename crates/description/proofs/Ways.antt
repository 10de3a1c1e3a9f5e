-- The ways through a content description: what each exit of the code comes to.
-- Assumes nothing.
use mathlib.Core.Path.{◌≡◌, refl, sym, ap, ◌∙◌}
use mathlib.Core.Bool.{Bool, true, false, cond, ◌&&◌, ◌||◌}
use mathlib.Core.Logic.{◌⊎◌, inl, inr}
use mathlib.Core.List.{List, [], ◌∷◌}
use Prim.Native.Nat.{ℕ, zero, suc, ◌+◌, ◌*◌, ◌-◌, ◌^◌, ◌≤◌, ◌<◌}
use native.Mathlib.Omega.{arith}
use native.Mathlib.Decide.{dec_lt}
use native.Mathlib.Nat.{mul-le-mul}
use lib.Dec.{ltb, eqb}
use lib.ListN.{get_or}
use borrow.Author.Tests.{lt-ltb, le-ltb, le-leb, lt-leb, eq-eqb, ne_eqb}
use Rattle.std.proofs.Common.{Option, Some, None, Ok, Err}
use Rattle.std.proofs.Common as std
use Rattle.std.specs.Result.{is_ok}
use Rattle.refusals.specs.declared.Refusal.{Refusal}
use Rattle.machine.specs.Machine.{Out, ok, refused, run, times}
use Rattle.cursor.specs.Rows.{P, meta_frame}
use Rattle.cursor.specs.Leaves.{next, number, manufacturer}
use Rattle.cursor.specs.declared.Item.{Item}
use Rattle.machine.proofs.Laws.{running, and_then, run-times, run-timed}
use Rattle.machine.proofs.Wp.{Wp, at_end, wp_after, wp_weaken, wp_ret, wp_check, wp_place, wp_times}
use Rattle.cursor.proofs.Leaves.{Any, any_free, next-on, number-on, manufacturer-on}
use Rattle.file.specs.Asking.{Result, good, bad}
use Rattle.description.specs.Description.{value, a_byte, guid, identifier, resource, numbers, Description, lists, table, description}
use Rattle.description.specs.Count.{data_read, is_read, is_readable, count_at, count_of}
use Rattle.description.specs.Told.{told, picked, found}

-- ---- a resource

module _ (end : ℕ) (f : List ℕ) (at : ℕ) where
  pub value-cut : {n p : ℕ} → run (number meta_frame 3 end) f at ≡ refused n p → refused n p ≡ run (value end) f at
  unfolding value
  value-cut e = simp (running, e)

  pub value-all : {v q : ℕ} → run (number meta_frame 3 end) f at ≡ ok v q → ok tt q ≡ run (value end) f at
  unfolding value
  value-all e = simp (running, e)

-- n bytes of a field that began at p
module _ (end p : ℕ) (f : List ℕ) where
  bytes-all : (n at : ℕ) → at + n ≤ end → ok tt (at + n) ≡ run (times n (λ _. a_byte end p) tt) f at
  unfolding times a_byte next
  bytes-all zero at l = let e : at + 0 ≡ at = omega arith in simp (running, e)
  bytes-all (suc n) at l =
      let h : at < end = omega arith in let e : at + suc n ≡ at + 1 + n = omega arith in
      simp (running, lt-ltb _ _ h) (ap (ok tt) e ∙ bytes-all n (at + 1) (omega arith))

  bytes_cut : (n at : ℕ) → 0 < n → end < at + n → refused 3 p ≡ run (times n (λ _. a_byte end p) tt) f at
  unfolding times a_byte next
  bytes_cut zero at some l = absurd (omega arith)
  bytes_cut (suc n) at some l = elim (dec_lt at end) [
    | yes h ↦ simp (running, lt-ltb _ _ h) (bytes_cut n (at + 1) (omega arith) (omega arith))
    | no h ↦ (let k : end ≤ at = omega arith in simp (running, le-ltb _ _ k))
  ]

module _ (end : ℕ) (f : List ℕ) (at : ℕ) where
  pub guid-cut : end < at + 16 → refused 3 at ≡ run (guid end) f at
  unfolding guid
  guid-cut l = simp running (bytes_cut end at f 16 at (omega arith) l)

  pub guid-all : at + 16 ≤ end → ok tt (at + 16) ≡ run (guid end) f at
  unfolding guid
  guid-all l = simp running (bytes-all end at f 16 at l)

module _ (kind end : ℕ) (f : List ℕ) (at : ℕ) where
  pub identifier-three : kind ≡ 3 → {o : Out (Unit {0})} → o ≡ run (guid end) f at → o ≡ run (identifier kind end) f at
  unfolding identifier
  identifier-three k h = h ∙ simp (eq-eqb _ _ k)

  module _ (n₃ : (kind ≡ 3) → ⊥) where
    pub identifier-five : kind ≡ 5 → {o : Out (Unit {0})} → o ≡ run (guid end) f at → o ≡ run (identifier kind end) f at
    unfolding identifier
    identifier-five k h = h ∙ simp (ne_eqb _ _ n₃, eq-eqb _ _ k)

    module _ (n₅ : (kind ≡ 5) → ⊥) where
      pub identifier-cut : kind ≡ 1 → {n p : ℕ} → run (manufacturer meta_frame end) f at ≡ refused n p → refused n p ≡ run (identifier kind end) f at
      unfolding identifier
      identifier-cut k e = simp (running, ne_eqb _ _ n₃, ne_eqb _ _ n₅, eq-eqb _ _ k, e)

      pub identifier-two : kind ≡ 1 → {q : ℕ} → run (manufacturer meta_frame end) f at ≡ ok tt q → {o : Out (Unit {0})} → o ≡ run (value end) f q →
          o ≡ run (identifier kind end) f at
      unfolding identifier
      identifier-two k e h = h ∙ simp (running, ne_eqb _ _ n₃, ne_eqb _ _ n₅, eq-eqb _ _ k, e)

      pub identifier-one : ((kind ≡ 1) → ⊥) → {o : Out (Unit {0})} → o ≡ run (value end) f at → o ≡ run (identifier kind end) f at
      unfolding identifier
      identifier-one n₁ h = h ∙ simp (ne_eqb _ _ n₃, ne_eqb _ _ n₅, ne_eqb _ _ n₁)

module _ (end : ℕ) (f : List ℕ) (at : ℕ) where
  pub resource-cut : {n p : ℕ} → run (number meta_frame 3 end) f at ≡ refused n p → refused n p ≡ run (resource end) f at
  unfolding resource
  resource-cut e = simp (running, e)

  module _ {kind q : ℕ} (e₁ : run (number meta_frame 3 end) f at ≡ ok kind q) where
    pub resource-bad : 5 < kind → refused 25 at ≡ run (resource end) f at
    unfolding resource
    resource-bad l = simp (running, e₁, lt-leb _ _ l)

    pub resource-all : kind ≤ 5 → {o : Out (Unit {0})} → o ≡ run (identifier kind end) f q → o ≡ run (resource end) f at
    unfolding resource
    resource-all l h = h ∙ simp (running, e₁, le-leb _ _ l)

-- it moves on, and stays in the part
value_on : (end at : ℕ) → Wp Any (value end) (λ _ q. (at ≤ q) × (q ≤ end)) at
unfolding value
value_on end at = wp_after (number-on _ _ end at) λ v q x. wp_ret (omega arith)

guid-on : (end at : ℕ) → at ≤ end → Wp Any (guid end) (λ _ q. (at ≤ q) × (q ≤ end)) at
unfolding guid a_byte
guid-on end at l =
    wp_place _ at
    (wp_weaken (wp_times (λ _. Unit {0}) 16 tt (λ t p h i. wp_after (next-on _ _ end at p) λ b q x. wp_ret (tt, omega arith, omega arith)) tt l) (λ _ q x. (x.1, x.2)))

by_test : (b : Bool) {m n : P (Unit {0})} {R : Unit {0} → ℕ → Type 0} {at : ℕ} → Wp Any m R at → Wp Any n R at → Wp Any (cond b m n) R at
by_test true h k = h
by_test false h k = k

identifier-on : (kind end at : ℕ) → at ≤ end → Wp Any (identifier kind end) (λ _ q. (at ≤ q) × (q ≤ end)) at
unfolding identifier
identifier-on kind end at l =
    by_test (eqb kind 3 || eqb kind 5) (guid-on end at l)
    (by_test (eqb kind 1) (wp_after (manufacturer-on _ end at) λ m q x. wp_weaken (value_on end q) (λ _ r y. omega arith)) (value_on end at))

resource-on : (end at : ℕ) → Wp Any (resource end) (λ _ q. (at < q) × (q ≤ end)) at
unfolding resource
resource-on end at =
    wp_place _ at
    (wp_after (number-on _ _ end at) λ kind q x. wp_check _ _ λ t.
    wp_weaken (identifier-on kind end q (omega arith)) (λ _ r y. omega arith))

pub resource-further : (f : List ℕ) (end at : ℕ) {q : ℕ} → run (resource end) f at ≡ ok tt q → (at < q) × (q ≤ end)
resource-further f end at e = at_end any_free f (resource-on end at) e

-- ---- entries one after the other, each of a byte of the part or more

-- i turns, begun at `start`, came to `at`: each moved on, and where one was taken, `at` is in the part
pub record Further (end start i at : ℕ) : Type 0 where
  pub onward : start + i ≤ at
  pub within : 0 < i → at ≤ end

pub further-none : (end start : ℕ) → Further end start 0 start
further-none end start = record { onward = omega arith; within = λ h. absurd (omega arith) }

module _ {end start i at : ℕ} (g : Further end start i at) where
  pub further-on : {q : ℕ} → at < q → q ≤ end → Further end start (i + 1) q
  further-on l m = record { onward = omega (arith, g.onward); within = λ h. m }

  -- there are no more turns than bytes, whatever the count
  pub further-few : i ≤ end - start
  further-few = elim (dec_lt 0 i) [ yes h ↦ omega (arith, g.onward, g.within h) | no h ↦ omega arith ]

-- ---- resources one after the other: what is left of them is the whole

pub record Going (f : List ℕ) (end count from left at : ℕ) : Type 0 where
  pub same : run (times count (λ _. resource end) tt) f from ≡ run (times left (λ _. resource end) tt) f at

module _ {f : List ℕ} {end count from left at : ℕ} (g : Going f end count from left at) where
  pub resources-done : left ≡ 0 → ok tt at ≡ run (times count (λ _. resource end) tt) f from
  resources-done z = sym (g.same ∙ run-timed f left at (λ _. resource end) tt z)

  module _ (some : (left ≡ 0) → ⊥) where
    turn : run (times count (λ _. resource end) tt) f from ≡ and_then (run (resource end) f at) (λ t p. run (times (left - 1) (λ _. resource end) t) f p)
    turn = g.same ∙ run-times f left at (λ _. resource end) tt some

    pub resources-no : {n p : ℕ} → run (resource end) f at ≡ refused n p → refused n p ≡ run (times count (λ _. resource end) tt) f from
    resources-no e = sym (turn ∙ rw e refl)

    pub resources-on : {q : ℕ} → run (resource end) f at ≡ ok tt q → Going f end count from (left - 1) q
    resources-on e = record { same = turn ∙ rw e refl }

-- ---- numbers one after the other, of which one is kept

-- i of them came already, and of these, if it was there, the one at `index` was kept
abbrev pub picked_from : (i kept index : ℕ) → Out (List ℕ) → Out ℕ
picked_from i kept index (ok vs q) = ok (cond (ltb index i) kept (get_or vs (index - i) kept)) q
picked_from i kept index (refused n p) = refused n p

pub record Picking (f : List ℕ) (end count index from i kept at : ℕ) : Type 0 where
  pub same : picked index (run (numbers count end) f from) ≡ picked_from i kept index (run (numbers (count - i) end) f at)

pub numbers-begun : (f : List ℕ) (end count index from : ℕ) → Picking f end count index from 0 0 from
numbers-begun f end count index from = let e : count - 0 ≡ count = omega arith in record { same = rw e (all (run (numbers count end) f from)) }
  where
    all : (o : Out (List ℕ)) → picked index o ≡ picked_from 0 0 index o
    all (ok vs q) = let e : index - 0 ≡ index = omega arith in rw (le-ltb index 0 (omega arith), e) refl
    all (refused n p) = refl

-- the numbers after the first
abbrev before : ℕ → Out (List ℕ) → Out (List ℕ)
before v (ok vs q) = ok (v ∷ vs) q
before v (refused n p) = refused n p

run-numbers : (f : List ℕ) (end n at : ℕ) → run (numbers (suc n) end) f at ≡ and_then (run (number meta_frame 3 end) f at) (λ v q. before v (run (numbers n end) f q))
unfolding numbers
run-numbers f end n at = simp running (by (run (number meta_frame 3 end) f at))
  where
    rest : (v : ℕ) (o : Out (List ℕ)) → and_then o (λ vs p. ok (v ∷ vs) p) ≡ before v o
    rest v (ok vs q) = refl
    rest v (refused m p) = refl

    by : (o : Out ℕ) → and_then o (λ v q. and_then (run (numbers n end) f q) (λ vs p. ok (v ∷ vs) p)) ≡ and_then o (λ v q. before v (run (numbers n end) f q))
    by (ok v q) = rest v (run (numbers n end) f q)
    by (refused m p) = refl

-- one more of them came: it is kept if it is the one, and otherwise what was kept stays
module _ (i index kept v : ℕ) where
  later : (vs : List ℕ) {kept' : ℕ} → ((i ≡ index) × (kept' ≡ v)) ⊎ (((i ≡ index) → ⊥) × (kept' ≡ kept))
      → cond (ltb index i) kept (get_or (v ∷ vs) (index - i) kept) ≡ cond (ltb index (i + 1)) kept' (get_or vs (index - (i + 1)) kept')
  later vs {kept'} (inl x) =
      let z : index - i ≡ 0 = omega arith in
      let h : ltb index i ≡ false = le-ltb index i (omega arith) in
      let k : ltb index (i + 1) ≡ true = lt-ltb index (i + 1) (omega arith) in
      rw (h, k, z) (sym x.1)
  later vs {kept'} (inr x) = elim (dec_lt index i) [
    | yes l ↦ (let k : ltb index (i + 1) ≡ true = lt-ltb index (i + 1) (omega arith) in rw (lt-ltb index i l, k) (sym x.1))
    | no n ↦ (
        let o = x.0 in
        let d : i < index = elim (dec_lt i index) [ yes l ↦ l | no m ↦ absurd (o (omega arith)) ] in
        let z : index - i ≡ suc (index - (i + 1)) = omega arith in
        let h : ltb index i ≡ false = le-ltb index i (omega arith) in
        let k : ltb index (i + 1) ≡ false = le-ltb index (i + 1) (omega arith) in
        rw (h, k, z, x.1) refl
        )
  ]

  picked_more : (o : Out (List ℕ)) {kept' : ℕ} → ((i ≡ index) × (kept' ≡ v)) ⊎ (((i ≡ index) → ⊥) × (kept' ≡ kept)) → picked_from i kept index
      (before v o) ≡ picked_from (i + 1) kept' index o
  picked_more (ok vs q) x = ap (λ w. ok w q) (later vs x)
  picked_more (refused n p) x = refl

module _ {f : List ℕ} {end count index from i kept at : ℕ} (g : Picking f end count index from i kept at) where
  pub numbers-done : count ≤ i → ok kept at ≡ picked index (run (numbers count end) f from)
  unfolding numbers
  numbers-done l =
      let e : count - i ≡ 0 = omega arith in
      let w : run (numbers (count - i) end) f at ≡ ok [] at = rw e (simp running) in
      sym (g.same ∙ ap (picked_from i kept index) w ∙ ap (λ v. ok v at) (either (ltb index i)))
    where
      either : (b : Bool) → cond b kept kept ≡ kept
      either true = refl
      either false = refl

  module _ (l : i < count) where
    first : run (numbers (count - i) end) f at ≡ and_then (run (number meta_frame 3 end) f at) (λ v q. before v (run (numbers (count - (i + 1)) end) f q))
    first = let e : count - i ≡ suc (count - (i + 1)) = omega arith in rw e (run-numbers f end (count - (i + 1)) at)

    pub numbers-no : {n p : ℕ} → run (number meta_frame 3 end) f at ≡ refused n p → refused n p ≡ picked index (run (numbers count end) f from)
    numbers-no {n} {p} e = let w : run (numbers (count - i) end) f at ≡ refused n p = first ∙ rw e refl in sym (g.same ∙ rw w refl)

    pub numbers_on : {v q kept' : ℕ} → run (number meta_frame 3 end) f at ≡ ok v q → ((i ≡ index) × (kept' ≡ v)) ⊎ (((i ≡ index) → ⊥) × (kept' ≡ kept))
        → Picking f end count index from (i + 1) kept' q
    numbers_on {v} {q} e x =
        let w : run (numbers (count - i) end) f at ≡ before v (run (numbers (count - (i + 1)) end) f q) = first ∙ rw e refl in
        record { same = g.same ∙ rw w (picked_more i index kept v (run (numbers (count - (i + 1)) end) f q) x) }

-- what was picked was read
pub picked-no : (index : ℕ) (o : Out (List ℕ)) {n p : ℕ} → picked index o ≡ refused n p → o ≡ refused n p
picked-no index (ok vs q) e = let z : ◌≡◌ {A = ℕ} 0 1 = cc in absurd (omega arith)
picked-no index (refused m r) {n} {p} e = let x : m ≡ n = cc in let y : r ≡ p = cc in rw (x, y) refl

pub picked-ok : (index : ℕ) (o : Out (List ℕ)) {v q : ℕ} → picked index o ≡ ok v q → (vs : List ℕ) × (o ≡ ok vs q) × (get_or vs index 0 ≡ v)
picked-ok index (ok vs r) {v} {q} e = let x : r ≡ q = cc in let y : get_or vs index 0 ≡ v = cc in (vs, ap (ok vs) x, y)
picked-ok index (refused m r) e = let z : ◌≡◌ {A = ℕ} 0 1 = cc in absurd (omega arith)

-- ---- the lists

module _ (resources end : ℕ) (f : List ℕ) (at : ℕ) where
  pub lists-resource : {n p : ℕ} → run (times resources (λ _. resource end) tt) f at ≡ refused n p → refused n p ≡ run (lists resources end) f at
  unfolding lists
  lists-resource e = simp (running, e)

  module _ {q : ℕ} (e₁ : run (times resources (λ _. resource end) tt) f at ≡ ok tt q) (index : ℕ) where
    pub lists-group : {n p : ℕ} → picked index (run (numbers resources end) f q) ≡ refused n p → refused n p ≡ run (lists resources end) f at
    unfolding lists
    lists-group {n} {p} e = let e₂ : run (numbers resources end) f q ≡ refused n p = picked-no index _ e in simp (running, e₁, e₂)

    pub lists-all : {v r : ℕ} → picked index (run (numbers resources end) f q) ≡ ok v r → ok tt r ≡ run (lists resources end) f at
    unfolding lists
    lists-all {v} {r} e = let w = picked-ok index _ e in let e₂ : run (numbers resources end) f q ≡ ok w.0 r = w.1 in simp (running, e₁, e₂)

-- ---- the table

-- counts of channels and resources multiply to what a word holds
pub product : (a b : ℕ) → a < 2 ^ 28 → b < 2 ^ 28 → a * b < 2 ^ 56
product a b h k = let w : a * b ≤ 268435455 * 268435455 = mul-le-mul {n₁ = a} {m₁ = b} {n₂ = 268435455} {m₂ = 268435455} (omega arith) (omega arith) in omega arith

module _ (channels resources end : ℕ) (f : List ℕ) (at channel resource index : ℕ) where
  abbrev Given : Result (Option ℕ) → Type 0
  Given a = a ≡ found channel resource (run (table channels resources end) f at)

  pub table-cut : {n p : ℕ} → picked index (run (numbers (channels * resources) end) f at) ≡ refused n p → Given (bad n p)
  unfolding table
  table-cut {n} {p} e = let e₁ : run (numbers (channels * resources) end) f at ≡ refused n p = picked-no index _ e in simp (running, e₁)

  module _ {v q : ℕ} (e : picked index (run (numbers (channels * resources) end) f at) ≡ ok v q) where
    all_read : (vs : List ℕ) × (run (numbers (channels * resources) end) f at ≡ ok vs q) × (get_or vs index 0 ≡ v)
    all_read = picked-ok index (run (numbers (channels * resources) end) f at) e

    counts-are : run (numbers (channels * resources) end) f at ≡ ok all_read.0 q
    counts-are = all_read.1

    pub table-left : q < end → Given (bad 25 q)
    unfolding table
    table-left l = simp (running, counts-are, lt-leb _ _ l)

    module _ (l : end ≤ q) where
      pub table-channel : channels ≤ channel → Given (good None)
      unfolding table
      table-channel h = simp (running, counts-are, le-leb _ _ l, le-ltb _ _ h)

      module _ (c : channel < channels) where
        pub table-resource : resources ≤ resource → Given (good None)
        unfolding table
        table-resource h = simp (running, counts-are, le-leb _ _ l, lt-ltb _ _ c, le-ltb _ _ h)

        pub table-count : resource < resources → (channel < channels → resource < resources → index ≡ channel * resources + resource) → Given (good (Some v))
        unfolding table
        table-count h is = let i = is c h in simp (running, counts-are, le-leb _ _ l, lt-ltb _ _ c, lt-ltb _ _ h) (rw (← i, all_read.2) refl)

-- ---- the whole item

module _ (end : ℕ) (f : List ℕ) (at channel resource : ℕ) where
  abbrev Whole : Result (Option ℕ) → Type 0
  Whole a = a ≡ found channel resource (run (description end) f at)

  pub whole-message : {n p : ℕ} → run (number meta_frame 3 end) f at ≡ refused n p → Whole (bad n p)
  unfolding description
  whole-message e = simp (running, e)

  module _ {message q : ℕ} (e₁ : run (number meta_frame 3 end) f at ≡ ok message q) where
    pub whole-channels : {n p : ℕ} → run (number meta_frame 3 end) f q ≡ refused n p → Whole (bad n p)
    unfolding description
    whole-channels e = simp (running, e₁, e)

    module _ {channels r : ℕ} (e₂ : run (number meta_frame 3 end) f q ≡ ok channels r) where
      pub whole-resources : {n p : ℕ} → run (number meta_frame 3 end) f r ≡ refused n p → Whole (bad n p)
      unfolding description
      whole-resources e = simp (running, e₁, e₂, e)

      module _ {resources s : ℕ} (e₃ : run (number meta_frame 3 end) f r ≡ ok resources s) where
        pub whole-lists : {n p : ℕ} → run (lists resources end) f s ≡ refused n p → Whole (bad n p)
        unfolding description
        whole-lists e = simp (running, e₁, e₂, e₃, e)

        pub whole-table : {t : ℕ} → run (lists resources end) f s ≡ ok tt t → {a : Result (Option ℕ)} → a ≡ found channel resource (run (table channels resources end) f t) → Whole a
        unfolding description
        whole-table e h = h ∙ simp (running, e₁, e₂, e₃, e)

-- ---- what is said of it

module _ (channel resource : ℕ) where
  pub count-refused : (o : Out Description) {n p : ℕ} → bad n p ≡ found channel resource o → bad 25 p ≡ count_of channel resource o
  unfolding count_of
  count-refused (ok d q) e = cc
  count-refused (refused m x) {n} {p} e = let z : p ≡ x = cc in ap (bad 25) z

  pub count-none : (o : Out Description) → good None ≡ found channel resource o → bad 23 0 ≡ count_of channel resource o
  unfolding count_of count_at
  count-none (ok d q) e = by (ltb channel d.channels && ltb resource d.resources) _ e
    where
      by : (b : Bool) (v : ℕ) → good None ≡ good (cond b (Some v) None) → bad 23 0 ≡ cond b (good v) (bad 23 0)
      by true v e = cc
      by false v e = refl
  count-none (refused m x) e = cc

  pub count-some : (o : Out Description) {n : ℕ} → good (Some n) ≡ found channel resource o → good n ≡ count_of channel resource o
  unfolding count_of count_at
  count-some (ok d q) {n} e = by (ltb channel d.channels && ltb resource d.resources) _ e
    where
      by : (b : Bool) (v : ℕ) → good (Some n) ≡ good (cond b (Some v) None) → good n ≡ cond b (good v) (bad 23 0)
      by true v e = cc
      by false v e = cc
  count-some (refused m x) e = cc

  -- whether it is readable
  pub read_is : (f : List ℕ) (x : Item) (r : std.Result (Option ℕ) Refusal) → told r ≡ found channel resource (run (description (x.place + x.size)) f x.place) → is_ok r ≡ is_readable f x
  unfolding is_readable data_read is_read
  read_is f x r e = by (run (description (x.place + x.size)) f x.place) r e
    where
      by : (o : Out Description) (r : std.Result (Option ℕ) Refusal) → told r ≡ found channel resource o → is_ok r ≡ is_read o
      by (ok d q) (Ok a) e = refl
      by (ok d q) (Err z) e = cc
      by (refused n p) (Ok a) e = cc
      by (refused n p) (Err z) e = refl
