-- Bytes that are read again and put: one program after the other, one behind the other, and a block of them.
-- Assumes nothing.
use mathlib.Core.Path.{◌≡◌, refl, sym, ap, ◌∙◌, subst}
use mathlib.Core.List.{List, [], ◌∷◌, ◌++◌, append_assoc, append-nil}
use Prim.Native.Nat.{ℕ, zero, suc, ◌+◌, ◌-◌, ◌≤◌, ◌<◌}
use native.Mathlib.Omega.{arith}
use lib.ListN.{length}
use borrow.Author.Tests.{ne_eqb}
use Rattle.machine.specs.Machine.{Out, ok, refused, run, times}
use Rattle.cursor.specs.Rows.{Frame, P, unpack_frame, file_frame}
use Rattle.cursor.specs.Leaves.{number, block, manufacturer, guid}
use Rattle.room.specs.Parts.{part, joined}
use Rattle.vlq.specs.Vlq.{vlq, sized}
use Rattle.cursor.specs.declared.Cursor.{Cursor}
use Rattle.machine.proofs.Laws.{running, and_then, run-times, run-timed}
use Rattle.machine.proofs.Wp.{at_end}
use Rattle.cursor.proofs.Leaves.{Any, any_free, guid-on, manufacturer-on}
use Rattle.title_text.specs.Description.{answer, copied, identifier_text, unpacker_text, entry_text, table_text}
use Rattle.room.specs.Counts.{Counts, too_many}
use Rattle.room.proofs.Counting.{counts-none, counts-then, counts-as}
use Rattle.vlq.proofs.Sized.{put-sized}
use Rattle.title_parts.specs.Told.{number_text, Copies}
use Rattle.std.proofs.Common.{Result, Ok, Err}
use Rattle.refusals.specs.Reasons.{number_of}
use Rattle.refusals.specs.declared.Refusal.{Refusal}

-- ---- bytes before those that a program answers

abbrev pub before : List ℕ → Out (List ℕ) → Out (List ℕ)
before s (ok t q) = ok (s ++ t) q
before s (refused n p) = refused n p

before-none : (x : Out (List ℕ)) → before [] x ≡ x
before-none (ok t q) = refl
before-none (refused n p) = refl

before-both : (a b : List ℕ) (x : Out (List ℕ)) → before a (before b x) ≡ before (a ++ b) x
before-both a b (ok t q) = rw (append_assoc a b t) refl
before-both a b (refused n p) = refl

-- ---- what was copied

pub copies_as : {o o' : List ℕ} {s : ℕ} {r : Result (ℕ × Cursor) Refusal} {x y : Out (List ℕ)} → x ≡ y → Copies o o' s r x → Copies o o' s r y
copies_as {o} {o'} {s} {r} e p = subst (λ v. Copies o o' s r v) e p

pub copies_after : {o o₁ o₂ : List ℕ} {s s₁ : ℕ} (a : List ℕ) (r : Result (ℕ × Cursor) Refusal) {x : Out (List ℕ)} → Counts o o₁ s a s₁ → Copies o₁ o₂ s₁ r x → Copies o o₂ s r (before a x)
copies_after a (Ok (n, c)) p k = let (t, e, q) = k.is in record { is = (a ++ t, ap (before a) e, counts-then p q) }
copies_after a (Err e) p k = record { is = ap (before a) k.is }

-- a call's contract, where its answer is known
pub copied-was : {o o' : List ℕ} {s : ℕ} {r r' : Result (ℕ × Cursor) Refusal} {x : Out (List ℕ)} → Copies o o' s r x → r ≡ r' → Copies o o' s r' x
copied-was {o} {o'} {s} {x = x} p e = subst (λ v. Copies o o' s v x) e p

-- the bytes that were put
module _ {o o' : List ℕ} {s n : ℕ} {c : Cursor} {x : Out (List ℕ)} (p : Copies o o' s (Ok (n, c)) x) where
  abbrev pub copied-bytes : List ℕ
  copied-bytes = p.is.0

  pub copied-answer : x ≡ ok copied-bytes c.at.0
  copied-answer = p.is.1

  pub copied-puts : Counts o o' s copied-bytes n
  copied-puts = p.is.2

-- what is put into no buffer is measured
no_bytes : (s : List ℕ) → length s ≡ 0 → s ≡ []
no_bytes [] e = refl
no_bytes (b ∷ s) e = absurd (omega arith)

pub copied-nowhere : {o : List ℕ} {s : ℕ} {r : Result (ℕ × Cursor) Refusal} {n : ℕ} {c : Cursor} {x : Out (List ℕ)} → Copies [] o s r x → r ≡ Ok (n, c)
    → Copies [] [] s (Ok (n, c)) x
copied-nowhere {o} p k = let q = copied-was p k in rw (no_bytes o (copied-puts q).long) at q

pub copied-no : {o o' : List ℕ} {s : ℕ} {r : Result (ℕ × Cursor) Refusal} {e : Refusal} {x : Out (List ℕ)} → Copies o o' s r x → r ≡ Err e
    → x ≡ refused (number_of e.0) e.1
copied-no p k = (copied-was p k).is

-- a refusal that is passed on
pub copies-no : {o o' : List ℕ} {s : ℕ} {q : Result (ℕ × Cursor) Refusal} {e : Refusal} {x : Out (List ℕ)} → q ≡ Err e
    → x ≡ refused (number_of e.0) e.1 → Copies o o' s q x
copies-no k h = rw k (record { is = h })

-- ---- a number

module _ (κ : Frame) (f : List ℕ) (at : ℕ) where
  pub number-no : {n p : ℕ} → run (number κ 3 (length f)) f at ≡ refused n p → run (number_text κ f) f at ≡ refused n p
  unfolding number_text
  number-no e = simp (running, e)

  pub number_is : {v q : ℕ} → run (number κ 3 (length f)) f at ≡ ok v q → run (number_text κ f) f at ≡ ok (vlq v) q
  unfolding number_text
  number_is e = simp (running, e)

pub record NumberWas (κ : Frame) (f : List ℕ) (at : ℕ) (s : List ℕ) (q : ℕ) : Type 0 where
  pub value : ℕ
  pub read : run (number κ 3 (length f)) f at ≡ ok value q
  pub text : s ≡ vlq value

ok-left : {A : Type 0} {a b : A} {p q : ℕ} → ok a p ≡ ok b q → a ≡ b
ok-left e = cc

ok-right : {A : Type 0} {a b : A} {p q : ℕ} → ok a p ≡ ok b q → p ≡ q
ok-right e = cc

never : {A : Type 0} {B : Type 0} {a : A} {n p q : ℕ} → refused n p ≡ ok a q → B
never e = let z : ◌≡◌ {A = ℕ} 0 1 = cc in absurd (omega arith)

module _ (κ : Frame) (f : List ℕ) (at : ℕ) {s : List ℕ} {q : ℕ} (e : run (number_text κ f) f at ≡ ok s q) where
  number_by_lem : (x : Out ℕ) → run (number κ 3 (length f)) f at ≡ x → NumberWas κ f at s q
  number_by_lem (ok v p) h =
      let k = sym (number_is κ f at h) ∙ e in
      record { value = v; read = h ∙ ap (ok v) (ok-right k); text = sym (ok-left k) }
  number_by_lem (refused n p) h = never (sym (number-no κ f at h) ∙ e)

  pub number-was : NumberWas κ f at s q
  number-was = number_by_lem (run (number κ 3 (length f)) f at) refl

-- ---- what names an unpacker

pub guid-inside : (f : List ℕ) (at : ℕ) {q : ℕ} → run (guid unpack_frame (length f)) f at ≡ ok tt q → (at < q) × (q ≤ at + 19) × (q ≤ length f)
guid-inside f at e = at_end any_free f (guid-on {U = Any} unpack_frame (length f) at) e

pub maker_inside : (f : List ℕ) (at : ℕ) {q : ℕ} → run (manufacturer unpack_frame (length f)) f at ≡ ok tt q → (at < q) × (q ≤ at + 3) × (q ≤ length f)
maker_inside f at e = at_end any_free f (manufacturer-on {U = Any} unpack_frame (length f) at) e

module _ (f : List ℕ) (kind at : ℕ) where
  pub guid-no : kind ≡ 3 → {n p : ℕ} → run (guid unpack_frame (length f)) f at ≡ refused n p → run (identifier_text f kind) f at ≡ refused n p
  unfolding identifier_text copied
  guid-no k e = rw k (simp (running, e))

  pub guid-is : kind ≡ 3 → {q : ℕ} → run (guid unpack_frame (length f)) f at ≡ ok tt q → run (identifier_text f kind) f at ≡ ok (part f at (q - at)) q
  unfolding identifier_text copied
  guid-is k e = rw k (simp (running, e))

  pub maker_no : kind ≡ 1 → {n p : ℕ} → run (manufacturer unpack_frame (length f)) f at ≡ refused n p → run (identifier_text f kind) f at ≡ refused n p
  unfolding identifier_text copied
  maker_no k e = rw k (simp (running, e))

  maker_by : kind ≡ 1 → {q : ℕ} → run (manufacturer unpack_frame (length f)) f at ≡ ok tt q → (x : Out ℕ) → run (number unpack_frame 3 (length f)) f q ≡ x
      → run (identifier_text f kind) f at ≡ before (part f at (q - at)) (run (number_text unpack_frame f) f q)
  unfolding identifier_text copied number_text
  maker_by k e (ok v p) h = rw k (simp (running, e, h, append-nil))
  maker_by k e (refused n p) h = rw k (simp (running, e, h))

  pub maker_is : kind ≡ 1 → {q : ℕ} → run (manufacturer unpack_frame (length f)) f at ≡ ok tt q
      → run (identifier_text f kind) f at ≡ before (part f at (q - at)) (run (number_text unpack_frame f) f q)
  maker_is k {q} e = maker_by k e (run (number unpack_frame 3 (length f)) f q) refl

  pub other-is : ((kind ≡ 3) → ⊥) → ((kind ≡ 1) → ⊥) → run (identifier_text f kind) f at ≡ run (number_text unpack_frame f) f at
  unfolding identifier_text number_text
  other-is a b = simp (running, ne_eqb _ _ a, ne_eqb _ _ b)

-- ---- an unpacker

module _ (f : List ℕ) (at : ℕ) where
  pub kind-no : {n p : ℕ} → run (number unpack_frame 3 (length f)) f at ≡ refused n p → run (unpacker_text f []) f at ≡ refused n p
  unfolding unpacker_text
  kind-no e = simp (running, e)

  module _ {kind p : ℕ} (e₁ : run (number unpack_frame 3 (length f)) f at ≡ ok kind p) where
    pub name-no : {n q : ℕ} → run (identifier_text f kind) f p ≡ refused n q → run (unpacker_text f []) f at ≡ refused n q
    unfolding unpacker_text
    name-no e = simp (running, e₁, e)

    module _ {i : List ℕ} {q : ℕ} (e₂ : run (identifier_text f kind) f p ≡ ok i q) where
      unpacker-by : (x : Out ℕ) → run (number unpack_frame 3 (length f)) f q ≡ x → run (unpacker_text f []) f at ≡ before (vlq kind) (before i (run (number_text unpack_frame f) f q))
      unfolding unpacker_text number_text
      unpacker-by (ok v r) h = simp (running, e₁, e₂, h, append-nil)
      unpacker-by (refused n r) h = simp (running, e₁, e₂, h)

      pub unpacker-is : run (unpacker_text f []) f at ≡ before (vlq kind) (before i (run (number_text unpack_frame f) f q))
      unpacker-is = unpacker-by (run (number unpack_frame 3 (length f)) f q) refl

-- ---- one behind others

-- what a program answers behind b is b and what it answers behind nothing
abbrev pub Behind : List ℕ → (List ℕ → P (List ℕ)) → Type 0
Behind f body = (b : List ℕ) (at : ℕ) → run (body b) f at ≡ before b (run (body []) f at)

module _ (f : List ℕ) (b : List ℕ) (at : ℕ) where
  behind-size : {kind p q : ℕ} {i : List ℕ} → run (number unpack_frame 3 (length f)) f at ≡ ok kind p → run (identifier_text f kind) f p ≡ ok i
      q → (x : Out ℕ) → run (number unpack_frame 3 (length f)) f q ≡ x
      → run (unpacker_text f b) f at ≡ before b (run (unpacker_text f []) f at)
  unfolding unpacker_text
  behind-size e₁ e₂ (ok v r) e₃ = simp (running, e₁, e₂, e₃)
  behind-size e₁ e₂ (refused n r) e₃ = simp (running, e₁, e₂, e₃)

  behind-name : {kind p : ℕ} → run (number unpack_frame 3 (length f)) f at ≡ ok kind p → (x : Out (List ℕ)) → run (identifier_text f kind) f p ≡
      x → run (unpacker_text f b) f at ≡ before b (run (unpacker_text f []) f at)
  unfolding unpacker_text
  behind-name e₁ (ok i q) e₂ = behind-size e₁ e₂ (run (number unpack_frame 3 (length f)) f q) refl
  behind-name e₁ (refused n q) e₂ = simp (running, e₁, e₂)

  behind-kind : (x : Out ℕ) → run (number unpack_frame 3 (length f)) f at ≡ x → run (unpacker_text f b) f at ≡ before b (run (unpacker_text f []) f at)
  unfolding unpacker_text
  behind-kind (ok kind p) e₁ = behind-name e₁ (run (identifier_text f kind) f p) refl
  behind-kind (refused n p) e₁ = simp (running, e₁)

pub unpacker-behind : (f : List ℕ) → Behind f (unpacker_text f)
unpacker-behind f b at = behind-kind f b at (run (number unpack_frame 3 (length f)) f at) refl

module _ (f : List ℕ) (b : List ℕ) (at : ℕ) where
  behind-language : {t format p q : ℕ} → run (number file_frame 3 (length f)) f at ≡ ok t p → run (number file_frame 3 (length f)) f p ≡ ok
      format q → (x : Out ℕ) → run (block file_frame 3 (length f)) f q ≡ x
      → run (entry_text f b) f at ≡ before b (run (entry_text f []) f at)
  unfolding entry_text
  behind-language e₁ e₂ (ok n r) e₃ = simp (running, e₁, e₂, e₃)
  behind-language e₁ e₂ (refused n r) e₃ = simp (running, e₁, e₂, e₃)

  behind-format : {t p : ℕ} → run (number file_frame 3 (length f)) f at ≡ ok t p → (x : Out ℕ) → run (number file_frame 3 (length f)) f p ≡ x →
      run (entry_text f b) f at ≡ before b (run (entry_text f []) f at)
  unfolding entry_text
  behind-format e₁ (ok format q) e₂ = behind-language e₁ e₂ (run (block file_frame 3 (length f)) f q) refl
  behind-format e₁ (refused n q) e₂ = simp (running, e₁, e₂)

  behind-type : (x : Out ℕ) → run (number file_frame 3 (length f)) f at ≡ x → run (entry_text f b) f at ≡ before b (run (entry_text f []) f at)
  unfolding entry_text
  behind-type (ok t p) e₁ = behind-format e₁ (run (number file_frame 3 (length f)) f p) refl
  behind-type (refused n p) e₁ = simp (running, e₁)

pub entry-behind : (f : List ℕ) → Behind f (entry_text f)
entry-behind f b at = behind-type f b at (run (number file_frame 3 (length f)) f at) refl

module _ (f : List ℕ) (body : List ℕ → P (List ℕ)) (behind : Behind f body) where
  times-by : (n : ℕ) → ((b : List ℕ) (at : ℕ) → run (times n body b) f at ≡ before b (run (times n body []) f at)) → (b : List ℕ) (x : Out (List ℕ))
      → and_then (before b x) (λ t p. run (times n body t) f p) ≡ before b (and_then x (λ t p. run (times n body t) f p))
  times-by n ih b (ok u p) = ih (b ++ u) p ∙ sym (before-both b u (run (times n body []) f p)) ∙ ap (before b) (sym (ih u p))
  times-by n ih b (refused m p) = refl

  pub times-behind : (n : ℕ) (b : List ℕ) (at : ℕ) → run (times n body b) f at ≡ before b (run (times n body []) f at)
  times-behind zero b at = run-timed f 0 at body b refl ∙ ap (λ v. ok v at) (sym (append-nil b)) ∙ ap (before b) (sym (run-timed f 0 at body [] refl))
  times-behind (suc n) b at =
      let k : suc n - 1 ≡ n = omega arith in let some : (suc n ≡ 0) → ⊥ = λ z. omega arith in
      let e₁ : run (times (suc n) body b) f at ≡ and_then (run (body b) f at) (λ t p. run (times n body t) f p) = rw k at (run-times f (suc n) at body b some) in
      let e₂ : run (times (suc n) body []) f at ≡ and_then (run (body []) f at) (λ t p. run (times n body t) f p) = rw k at (run-times f (suc n) at body [] some) in
      e₁ ∙ ap (λ v. and_then v (λ t p. run (times n body t) f p)) (behind b at) ∙ times-by n (times-behind n) b (run (body []) f at) ∙ ap (before b) (sym e₂)

-- ---- a loop: `done` is put of the first i

pub record Copying (f : List ℕ) (body : List ℕ → P (List ℕ)) (o o' : List ℕ) (to count from next at i : ℕ) : Type 0 where
  pub done : List ℕ
  pub puts : Counts o o' to done next
  pub same : run (times count body []) f from ≡ before done (run (times (count - i) body []) f at)

pub copying_start : (f : List ℕ) (body : List ℕ → P (List ℕ)) (o : List ℕ) (to count from : ℕ) → to ≤ too_many → Copying f body o o to count from to from 0
copying_start f body o to count from l =
    let e : count ≡ count - 0 = omega arith in
    record { done = []; puts = counts-none o l; same = ap (λ n. run (times n body []) f from) e ∙ sym (before-none (run (times (count - 0) body []) f from)) }

module _ {f : List ℕ} {body : List ℕ → P (List ℕ)} (behind : Behind f body) {o o₁ : List ℕ} {to count from next at i : ℕ}
    (g : Copying f body o o₁ to count from next at i) where
  turn : i < count → run (times count body []) f from ≡ before g.done (and_then (run (body []) f at) (λ t p. run (times (count - (i + 1)) body t) f p))
  turn some =
      let e : count - i - 1 ≡ count - (i + 1) = omega arith in
      rw e at (g.same ∙ ap (before g.done) (run-times f (count - i) at body [] (λ z. omega arith)))

  pub copying_on : i < count → {o₂ : List ℕ} {n : ℕ} {c : Cursor} → Copies o₁ o₂ next (Ok (n, c)) (run (body []) f at) → Copying f body o
      o₂ to count from n c.at.0 (i + 1)
  copying_on some {c = c} k = let (u, e, q) = k.is in record {
    done = g.done ++ u;
    puts = counts-then g.puts q;
    same =
        turn some ∙ ap (λ v. before g.done (and_then v (λ t p. run (times (count - (i + 1)) body t) f p))) e
        ∙ ap (before g.done) (times-behind f body behind (count - (i + 1)) u c.at.0)
        ∙ before-both g.done u (run (times (count - (i + 1)) body []) f c.at.0);
  }

  pub copying_no : i < count → {n p : ℕ} → run (body []) f at ≡ refused n p → run (times count body []) f from ≡ refused n p
  copying_no some e = turn some ∙ ap (λ v. before g.done (and_then v (λ t p. run (times (count - (i + 1)) body t) f p))) e

  pub copying_end : count ≤ i → (s : List ℕ) × (run (times count body []) f from ≡ ok s at) × Counts o o₁ to s next
  copying_end none = (g.done, g.same ∙ ap (before g.done) (run-timed f (count - i) at body [] (omega arith)) ∙ ap (λ v. ok v at) (append-nil g.done), g.puts)

-- ---- an entry of the types table, and the table

module _ (f : List ℕ) (at : ℕ) where
  type-by : (x : Out ℕ) → run (number file_frame 3 (length f)) f at ≡ x → {n p : ℕ} → run (number_text file_frame f) f at ≡ refused n p → run (entry_text f []) f at ≡ refused n p
  unfolding entry_text
  type-by (ok v q) h e = never (sym e ∙ number_is file_frame f at h)
  type-by (refused m q) h e = simp (running, h) (sym (number-no file_frame f at h) ∙ e)

  pub type-no : {n p : ℕ} → run (number_text file_frame f) f at ≡ refused n p → run (entry_text f []) f at ≡ refused n p
  type-no e = type-by (run (number file_frame 3 (length f)) f at) refl e

  module _ {t p : ℕ} (e₁ : run (number file_frame 3 (length f)) f at ≡ ok t p) where
    format-by : (x : Out ℕ) → run (number file_frame 3 (length f)) f p ≡ x → {n q : ℕ} → run (number_text file_frame f) f p ≡ refused n q → run (entry_text f []) f at ≡ refused n q
    unfolding entry_text
    format-by (ok v r) h e = never (sym e ∙ number_is file_frame f p h)
    format-by (refused m r) h e = simp (running, e₁, h) (sym (number-no file_frame f p h) ∙ e)

    pub format-no : {n q : ℕ} → run (number_text file_frame f) f p ≡ refused n q → run (entry_text f []) f at ≡ refused n q
    format-no e = format-by (run (number file_frame 3 (length f)) f p) refl e

    module _ {format q : ℕ} (e₂ : run (number file_frame 3 (length f)) f p ≡ ok format q) where
      pub language-no : {n r : ℕ} → run (block file_frame 3 (length f)) f q ≡ refused n r → run (entry_text f []) f at ≡ refused n r
      unfolding entry_text
      language-no e = simp (running, e₁, e₂, e)

      pub entry-is : {n r : ℕ} → run (block file_frame 3 (length f)) f q ≡ ok n r → run (entry_text f []) f at ≡ ok (joined (vlq t ∷ vlq format ∷ vlq n ∷ part f r n ∷ [])) (r + n)
      unfolding entry_text
      entry-is e = simp (running, e₁, e₂, e)

      pub entry_done : {n r u : ℕ} → run (block file_frame 3 (length f)) f q ≡ ok n r → u ≡ r + n → run (entry_text f []) f at ≡ ok
          (joined (vlq t ∷ vlq format ∷ vlq n ∷ part f r n ∷ [])) u
      entry_done {n} {r} e k = entry-is e ∙ ap (ok (joined (vlq t ∷ vlq format ∷ vlq n ∷ part f r n ∷ []))) (sym k)

  pub size-no : {n p : ℕ} → run (number file_frame 3 (length f)) f at ≡ refused n p → run (table_text f) f at ≡ refused n p
  unfolding table_text
  size-no e = simp (running, e)

  module _ {size p : ℕ} (e₁ : run (number file_frame 3 (length f)) f at ≡ ok size p) where
    pub block_no : {n q : ℕ} → run (block file_frame 3 (length f)) f p ≡ refused n q → run (table_text f) f at ≡ refused n q
    unfolding table_text
    block_no e = simp (running, e₁, e)

    module _ {m q : ℕ} (e₂ : run (block file_frame 3 (length f)) f p ≡ ok m q) where
      pub count_no : {n r : ℕ} → run (number file_frame 3 (length f)) f q ≡ refused n r → run (table_text f) f at ≡ refused n r
      unfolding table_text
      count_no e = simp (running, e₁, e₂, e)

      pub table_is : {count r : ℕ} → run (number file_frame 3 (length f)) f q ≡ ok count r → run (table_text f) f at ≡ before (vlq count) (run (times count (entry_text f) []) f r)
      unfolding table_text
      table_is {count} {r} e = simp (running, e₁, e₂, e) (times-behind f (entry_text f) (entry-behind f) count (vlq count) r)

-- an entry's four fields
pub entry-put : {o o₁ o₂ o₃ o₄ : List ℕ} {s s₁ s₂ s₃ s₄ : ℕ} (a b c d : List ℕ) → Counts o o₁ s a s₁ → Counts o₁ o₂ s₁ b s₂ → Counts o₂ o₃
    s₂ c s₃ → Counts o₃ o₄ s₃ d s₄ → Counts o o₄ s (joined (a ∷ b ∷ c ∷ d ∷ [])) s₄
entry-put a b c d p q x y = counts-then p (counts-then q (counts-then x (counts-as (sym (append-nil d)) y)))

-- ---- a block of what is read again

pub block-copied : {z z' o o₁ o₂ : List ℕ} {s s₁ n m : ℕ} {c d : Cursor} (x : Out (List ℕ)) → Copies z z' 0 (Ok (n, c)) x → Counts o o₁
    s (vlq n) s₁ → Copies o₁ o₂ s₁ (Ok (m, d)) x → Counts o o₂ s (sized (answer x)) m
block-copied x j v w =
    let (a, e, p) = j.is in let (b, h, q) = w.is in let k : b ≡ a = ok-left (sym h ∙ e) in
    let l : answer x ≡ a = ap answer e in
    rw l (put-sized a p v (counts-as k q))

-- one that was measured: it stands in a file, or is copied
pub block_same : {o o₁ o₂ : List ℕ} {s s₁ s₂ n : ℕ} {t body : List ℕ} → Counts [] [] 0 body n → t ≡ body → Counts o o₁ s (vlq n) s₁ → Counts
    o₁ o₂ s₁ t s₂ → Counts o o₂ s (sized body) s₂
block_same {body = body} k e v w = put-sized body k v (counts-as e w)

pub block-measured : {o o₁ o₂ : List ℕ} {s s₁ n m : ℕ} {d : Cursor} (x : Out (List ℕ)) → Counts [] [] 0 (answer x) n → Counts o o₁ s (vlq n) s₁ → Copies o₁ o₂ s₁ (Ok (m, d)) x
    → Counts o o₂ s (sized (answer x)) m
block-measured x k v w =
    let (b, h, q) = w.is in
    put-sized (answer x) k v (counts-as (sym (ap answer h)) q)

pub block-empty : {o o₁ : List ℕ} {s s₁ n : ℕ} (body : List ℕ) → Counts [] [] 0 body n → n ≡ 0 → Counts o o₁ s (vlq n) s₁ → Counts o o₁ s (sized body) s₁
block-empty {o₁ = o₁} body k z v =
    let a = k.after in
    put-sized body k v (counts-as (sym (no_bytes body (omega arith))) (counts-none o₁ (omega (arith, v.after))))

pub block-some : {n m p : ℕ} {B : Type 0} (x : Out (List ℕ)) → x ≡ refused m p → Counts [] [] 0 (answer x) n → ((n ≡ 0) → ⊥) → B
block-some x e k some =
    let a = k.after in
    let b : length (answer x) ≡ 0 = ap (λ v. length (answer v)) e in
    absurd (some (omega arith))

pub block_none : {o o' : List ℕ} {s r n p : ℕ} (x : Out (List ℕ)) → x ≡ refused n p → Counts o o' s (vlq 0) r → Counts o o' s (sized (answer x)) r
unfolding sized
block_none x e v = let l : answer x ≡ [] = ap answer e in rw l (counts-as (sym (append-nil (vlq 0))) v)

pub block-never : {z z' : List ℕ} {n : ℕ} {c : Cursor} {m p : ℕ} {B : Type 0} (x : Out (List ℕ)) → Copies z z' 0 (Ok (n, c)) x → x ≡ refused m p → B
block-never x j h = never (sym h ∙ j.is.1)
