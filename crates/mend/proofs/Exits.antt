-- The ways out: fields that are not sound, what is set, and a file that is refused as it is.
-- Assumes nothing.
use Rattle.std.proofs.Common.{Ok, Err}
use Rattle.std.proofs.Common as std
use mathlib.Core.Path.{◌≡◌, refl, sym, ap, ◌∙◌, subst}
use mathlib.Core.Bool.{Bool, true, false, not, false≢true}
use mathlib.Core.List.{List, [], ◌∷◌, ◌++◌}
use Prim.Native.Nat.{ℕ, suc, ◌+◌, ◌-◌, ◌^◌, ◌≤◌, ◌<◌}
use native.Mathlib.Omega.{arith}
use lib.Dec.{ltb, leb}
use lib.ListN.{length, take, drop, replicate, set, length-set}
use lib.Seq.{sets, length-sets, set-append_left}
use borrow.Author.Tests.{not-true, not-false, lt-leb, le-leb}
use Rattle.machine.specs.Machine.{Out, ok, refused, run}
use Rattle.cursor.specs.Rows.{node_frame}
use Rattle.cursor.specs.Leaves.{number}
use Rattle.vlq.specs.Vlq.{in_bytes}
use Rattle.refusals.specs.Reasons.{number_of}
use Rattle.refusals.specs.declared.Refusal.{Refusal}
use Rattle.cursor.proofs.Leaves.{number-inside}
use Rattle.vlq.proofs.Least.{in_bytes_length}
use Rattle.metadata.specs.Tables.{limits}
use Rattle.room.specs.Room.{Result, good, bad, padded, kept}
use Rattle.room.proofs.Sets.{sets-front, padded-behind}
use Rattle.file.specs.Reading.{Reading, rows, refusal, read_file, read_of, node_table, item_table}
use Rattle.file.specs.Asking.{ask, written_nodes, written_items}
use Rattle.file.specs.declared.Summary.{Summary}
use Rattle.refusals.specs.Told.{told}
use Rattle.file.proofs.Rows.{reads-refused}
use Rattle.mend.specs.Fields.{width, Fields}
use Rattle.mend.specs.Mend.{value_of, number_at, with_field, set_to, both_lines, mended, fitting, accepted, mend}
use Rattle.mend.specs.Told.{FieldsIn, sound_for, setting, Sizes, Set, Ends}
use Rattle.mend.proofs.Values.{set-length}
use Rattle.mend.proofs.Theorem.{still}

-- ---- what is asked before the file is read

pub number_bound : (f : List ℕ) (p : ℕ) → number_at f p < 2 ^ 28
unfolding number_at
number_bound f p = by (run (number node_frame 3 (length f)) f p) refl
  where
    by : (o : Out ℕ) → run (number node_frame 3 (length f)) f p ≡ o → value_of o < 2 ^ 28
    by (ok n q) e = (number-inside node_frame 3 (length f) f p e).3
    by (refused n q) e = omega arith

module _ (size : ℕ) (w : Fields) (b : ℕ) {r : Bool} (e : r ≡ ltb size (128 ^ (width w.length))) where
  pub no_length : not r ≡ true → false ≡ sound_for size w b
  unfolding sound_for
  no_length n = let t = sym e ∙ not-true r n in simp t

  module _ (n : not r ≡ false) {s : Bool} (k : s ≡ ltb b (128 ^ (width w.last))) where
    pub no_last : not s ≡ true → false ≡ sound_for size w b
    unfolding sound_for
    no_last m = let t = sym e ∙ not-false r n in let u = sym k ∙ not-true s m in simp (t, u)

    module _ (m : not s ≡ false) where
      pub no-behind : w.start < w.last.end → false ≡ sound_for size w b
      unfolding sound_for
      no-behind l = let t = sym e ∙ not-false r n in let u = sym k ∙ not-false s m in simp (t, u, lt-leb _ _ l)

      pub no-order : w.last.end ≤ w.start → b < w.start → false ≡ sound_for size w b
      unfolding sound_for
      no-order l o = let t = sym e ∙ not-false r n in let u = sym k ∙ not-false s m in simp (t, u, le-leb _ _ l, lt-leb _ _ o)

      pub by_end : w.last.end ≤ w.start → w.start ≤ b → ltb b size ≡ sound_for size w b
      unfolding sound_for
      by_end l o = let t = sym e ∙ not-false r n in let u = sym k ∙ not-false s m in simp (t, u, le-leb _ _ l, le-leb _ _ o)

-- ---- the copy

sets-within : (s f r : List ℕ) (p : ℕ) → p + length s ≤ length f → sets (f ++ r) p s ≡ sets f p s ++ r
sets-within [] f r p l = refl
sets-within (b ∷ s) f r p l = ap (λ v. sets v (suc p) s) (set-append_left f r p b (omega arith)) ∙ sets-within s (set f p b) r (suc p) (omega (arith, length-set f p b))

pub copied : (f : List ℕ) (w : Fields) (b : ℕ) (o : List ℕ) {o₁ o₂ o₃ o₄ : List ℕ} → FieldsIn w (length f) → length f ≤ length o → o₁ ≡ sets
    o 0 f → o₂ ≡ sets o₁ w.length.place (in_bytes (width w.length) (length f))
    → o₃ ≡ sets o₂ w.last.place (in_bytes (width w.last) b) → o₄ ≡ take (length f) o₃ ++ replicate (length o₃ - length f) 0 → o₄ ≡ padded (length o) (set_to f w (length f) b)
unfolding set_to with_field
copied f w b o {o₁} {o₂} {o₃} i l e₁ e₂ e₃ e₄ =
    let s = in_bytes (width w.length) (length f) in let t = in_bytes (width w.last) b in
    let ls = in_bytes_length (width w.length) (length f) in
    let lt = in_bytes_length (width w.last) b in
    let a₀ = i.length_some in let a₁ = i.length-few in let a₂ = i.apart in let a₃ = i.last_some in let a₄ = i.last-few in let a₅ = i.inside in
    let f₁ = sets f w.length.place s in let n₁ = length-sets f w.length.place s in
    let n₂ = length-sets f₁ w.last.place t in let rest = drop (length f) o in
    let x₁ : o₁ ≡ f ++ rest = e₁ ∙ sets-front o f l in
    let x₂ : o₂ ≡ f₁ ++ rest = e₂ ∙ ap (λ v. sets v w.length.place s) x₁ ∙ sets-within s f rest w.length.place (omega arith) in
    let x₃ : o₃ ≡ sets f₁ w.last.place t ++ rest = e₃ ∙ ap (λ v. sets v w.last.place t) x₂ ∙ sets-within t f₁ rest w.last.place (omega arith) in
    let y : length o₃ ≡ length o = ap length e₃ ∙ length-sets o₂ w.last.place t ∙ ap length e₂ ∙ length-sets o₁ w.length.place s ∙ ap length e₁ ∙ length-sets o 0 f in
    e₄ ∙ padded-behind (sets f₁ w.last.place t) rest x₃ (sym (n₂ ∙ n₁)) ∙ ap (λ v. padded v (sets f₁ w.last.place t)) y

-- ---- what is set

module _ (f : List ℕ) (w : Fields) (b : ℕ) {t u : List ℕ} {room space : ℕ} where
  none : setting room space f w b ≡ bad 22 0 → {r : Result Sizes} → r ≡ bad 22 0 → {t' u' c l : List ℕ} → t' ≡ replicate (length t) 0 → u' ≡
      replicate (length u) 0 → c ≡ replicate room 0 → l ≡ replicate space 0
      → Set f w b r t u room space t' u' c l
  unfolding kept
  none e a x y z v = record { answer = rw e a; nodes = rw e x; items = rw e y; copy = rw e z; lines = rw e v }

  pub set-short : room < length f → {r : Result Sizes} → r ≡ bad 22 0 → {t' u' c l : List ℕ} → t' ≡ replicate (length t) 0 → u' ≡ replicate
      (length u) 0 → c ≡ replicate room 0 → l ≡ replicate space 0 → Set f w b r t u room space t' u' c l
  unfolding fitting
  set-short l = let e : leb (length (set_to f w (length f) b)) room ≡ false = rw (set-length f w (length f) b) (lt-leb (length f) room l) in none (rw e refl)

  pub set-narrow : length f ≤ room → space < length (both_lines w.length w.last (length f) b) → {r : Result Sizes} → r ≡ bad 22 0 →
      {t' u' c l : List ℕ} → t' ≡ replicate (length t) 0 → u' ≡ replicate (length u) 0 → c ≡ replicate room 0 → l ≡ replicate space 0
      → Set f w b r t u room space t' u' c l
  unfolding fitting
  set-narrow m l =
      let e : leb (length (set_to f w (length f) b)) room ≡ true = rw (set-length f w (length f) b) (le-leb (length f) room m) in
      let k : leb (length (both_lines w.length w.last (length f) b)) space ≡ false = lt-leb _ space l in
      none (rw (e, k) refl)

  pub set-good : length f ≤ room → {n : ℕ} → n ≡ length (both_lines w.length w.last (length f) b) → n ≤ space → {c l : List ℕ} → c ≡
      padded room (set_to f w (length f) b) → l ≡ padded space (both_lines w.length w.last (length f) b)
      → Set f w b (good (record { copy = length f; lines = n })) t u room space t u c l
  unfolding fitting kept
  set-good m {n} e o x y =
      let k : leb (length (set_to f w (length f) b)) room ≡ true = rw (set-length f w (length f) b) (le-leb (length f) room m) in
      let v : leb (length (both_lines w.length w.last (length f) b)) space ≡ true = le-leb _ space (subst (λ j. j ≤ space) e o) in
      record { answer = rw (k, v, set-length f w (length f) b, e) refl; nodes = rw (k, v) refl; items = rw (k, v) refl; copy = rw (k, v) x; lines = rw (k, v) y }

-- ---- a file that is refused as it is

module _ (f : List ℕ) (nsize isize : ℕ) (no : accepted (read_file (limits nsize isize) (mended f)) ≡ false) {r : std.Result Summary Refusal}
    (e : told r ≡ read_of (read_file (limits nsize isize) f)) where
  pub ends_refused : {q : Refusal} → r ≡ Err q → {t u : List ℕ} → t ≡ node_table nsize (read_file (limits nsize isize) f) →
      u ≡ item_table isize (read_file (limits nsize isize) f)
      → {room space : ℕ} {c l : List ℕ} → c ≡ replicate room 0 → l ≡ replicate space 0 → Ends f nsize isize room space (bad (number_of q.0) q.1) t u c l
  unfolding node_table item_table written_nodes written_items kept mend ask
  ends_refused {q} k a b {room} {space} x y =
      let z = reads-refused (read_file (limits nsize isize) f) e k in
      let s : mend (limits nsize isize) room space f ≡ bad (number_of q.0) q.1 = rw (no, z) refl in
      record { answer = rw s refl; nodes = rw s (rw z at a); items = rw s (rw z at b); copy = rw s x; lines = rw s y }

  pub never_read : {s : Summary} → r ≡ Ok s → {X : Type 0} → X
  unfolding read_of
  never_read {s} k {X} = by (read_file (limits nsize isize) f) refl (ap told (sym k) ∙ e)
    where
      by : (o : Reading) → read_file (limits nsize isize) f ≡ o → good s ≡ read_of o → X
      by (rows h ns is) z q = absurd (false≢true (sym no ∙ ap accepted (still (limits nsize isize) f z)))
      by (refusal m j) z q = let i : ◌≡◌ {A = ℕ} 0 1 = cc in absurd (omega arith)

-- zeros of another length
pub zeros : {c : List ℕ} {m n : ℕ} → c ≡ replicate m 0 → m ≡ n → c ≡ replicate n 0
zeros e l = e ∙ ap (λ k. replicate k 0) l
