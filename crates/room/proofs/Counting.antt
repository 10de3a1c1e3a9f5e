-- Writers one after the other: what each puts is put as one. And a loop of writers.
-- Assumes nothing.
use mathlib.Core.Path.{◌≡◌, refl, sym, ap, ap₂, ◌∙◌}
use mathlib.Core.List.{List, [], ◌∷◌, ◌++◌, append_assoc, append-nil}
use Prim.Native.Nat.{ℕ, ◌+◌, ◌-◌, ◌≤◌, ◌<◌, min}
use native.Mathlib.Omega.{arith}
use lib.ListN.{length, length-append, length-take, length-drop, replicate, take, drop}
use lib.Seq.{sets, length-sets}
use Rattle.room.specs.Parts.{part, joined}
use Rattle.room.proofs.Sets.{sets-append, sets-front, padded-behind}
use Rattle.room.specs.Room.{padded}
use Rattle.room.specs.Counts.{Counts, too_many}

-- ---- bytes that are stored, and bytes for which there is no room

module _ {o : List ℕ} {to r : ℕ} (bytes : List ℕ) (e : r ≡ min (to + length bytes) too_many) where
  pub counts-stored : {o' : List ℕ} → o' ≡ sets o to bytes → Counts o o' to bytes r
  counts-stored h = record { after = e; fits = λ m n. h; long = ap length h ∙ length-sets o to bytes }

  pub counts-over : length o < to + length bytes → Counts o o to bytes r
  counts-over l = record { after = e; fits = λ m n. absurd (omega arith); long = refl }

pub counts-none : (o : List ℕ) {to : ℕ} → to ≤ too_many → Counts o o to [] to
counts-none o l = counts-stored [] (omega arith) refl

-- a place before the last one is exact
pub counts-exact : {o o' : List ℕ} {to r : ℕ} {bytes : List ℕ} → Counts o o' to bytes r → r < too_many → r ≡ to + length bytes
counts-exact p l = let e = p.after in omega arith

pub part_length : (f : List ℕ) (from size : ℕ) → from + size ≤ length f → length (part f from size) ≡ size
part_length f from size l = simp (length-take, length-drop) (omega arith)

-- the part of a file that is lent from `from` up to `end`
pub lent-part : (f : List ℕ) (from size : ℕ) {end : ℕ} → end ≡ from + size → take (end - from) (drop from f) ≡ part f from size
lent-part f from size {end} e = let k : end - from ≡ size = omega arith in rw k

-- ---- one after the other

pub counts-then : {o o₁ o₂ : List ℕ} {s s₁ s₂ : ℕ} {a b : List ℕ} → Counts o o₁ s a s₁ → Counts o₁ o₂ s₁ b s₂ → Counts o o₂ s (a ++ b) s₂
counts-then {o} {o₁} {o₂} {s} {s₁} {s₂} {a} {b} p q =
    let y = length-append a b in
    let z = p.long in let w = q.after in let v = p.after in
    record {
      after = omega arith;
      fits = λ l m.
          let e : s₁ ≡ s + length a = omega arith in
          q.fits l (omega arith) ∙ ap₂ (λ (x : List ℕ) (n : ℕ). sets x n b) (p.fits (omega arith) (omega arith)) e ∙ sets-append o s a b;
      long = q.long ∙ p.long;
    }

pub counts-as : {o o' : List ℕ} {s r : ℕ} {a b : List ℕ} → a ≡ b → Counts o o' s a r → Counts o o' s b r
counts-as e p = rw e at p

-- two fields
pub put_two : {o o₁ o₂ : List ℕ} {s s₁ s₂ : ℕ} (a b : List ℕ) → Counts o o₁ s a s₁ → Counts o₁ o₂ s₁ b s₂ → Counts o o₂ s (joined (a ∷ b ∷ [])) s₂
put_two a b p q = counts-as (ap (λ v. a ++ v) (sym (append-nil b))) (counts-then p q)

-- ---- a loop: of the whole, `rest` is still to be put

pub record Going (o o' : List ℕ) (s r : ℕ) (whole rest : List ℕ) : Type 0 where
  pub done : List ℕ
  pub puts : Counts o o' s done r
  pub left : done ++ rest ≡ whole

pub going_start : (o : List ℕ) {s : ℕ} → s ≤ too_many → {whole rest : List ℕ} → rest ≡ whole → Going o o s s whole rest
going_start o l e = record { done = []; puts = counts-none o l; left = e }

pub going_on : {o o₁ o₂ : List ℕ} {s s₁ s₂ : ℕ} {whole rest x rest' : List ℕ} → rest ≡ x ++ rest' → Going o o₁ s s₁ whole rest → Counts o₁ o₂ s₁ x s₂ → Going o o₂ s s₂ whole rest'
going_on {x = x} {rest' = rest'} e g p = record {
  done = g.done ++ x;
  puts = counts-then g.puts p;
  left = append_assoc g.done x rest' ∙ ap (λ v. g.done ++ v) (sym e) ∙ g.left;
}

pub going_end : {o o' : List ℕ} {s r : ℕ} {whole rest : List ℕ} → rest ≡ [] → Going o o' s r whole rest → Counts o o' s whole r
going_end e g = counts-as (sym (append-nil g.done) ∙ ap (λ v. g.done ++ v) (sym e) ∙ g.left) g.puts

pub going_length : {o o' : List ℕ} {s r : ℕ} {whole rest : List ℕ} → Going o o' s r whole rest → length o' ≡ length o
going_length g = g.puts.long

-- ---- a buffer that is written from its first byte on, and cleared behind the last one

module _ {o o' w : List ℕ} {r : ℕ} (p : Counts o o' 0 w r) where
  pub wrote-front : r ≤ length o → length o < too_many → (r ≡ length w) × (length w ≤ length o) × (o' ≡ w ++ drop (length w) o)
  wrote-front l m =
      let a = p.after in let e : length w ≤ length o = omega arith in
      (omega arith, e, p.fits (omega arith) l ∙ sets-front o w e)

  pub wrote-all : r ≤ length o → length o < too_many → {o'' : List ℕ} → o'' ≡ take r o' ++ replicate (length o' - r) 0 → (length w ≤ length o) ×
      (r ≡ length w) × (o'' ≡ padded (length o) w)
  wrote-all l m c =
      let x = wrote-front l m in
      (x.1, x.0, c ∙ padded-behind w (drop (length w) o) x.2 x.0 ∙ ap (λ (n : ℕ). padded n w) p.long)

  pub wrote-past : length o < r → length o < length w
  wrote-past l = let a = p.after in omega arith
