-- Writers that need not count past the room, one after the other. And a loop of them.
-- Assumes nothing.
use mathlib.Core.Path.{◌≡◌, refl, sym, ap, ◌∙◌}
use mathlib.Core.List.{List, [], ◌++◌, append_assoc, append-nil}
use Prim.Native.Nat.{ℕ, ◌+◌, ◌≤◌, ◌<◌}
use native.Mathlib.Decide.{dec_lt}
use native.Mathlib.Omega.{arith}
use lib.ListN.{length, length-append}
use Rattle.room.specs.Counts.{Counts, too_many}
use Rattle.room.proofs.Counting.{counts-none, counts-then}
use Rattle.sheet.specs.Inside.{Fills}

-- one that counts
pub fills-counts : {o o' : List ℕ} {s r : ℕ} {bytes : List ℕ} → Counts o o' s bytes r → Fills o o' s bytes r
fills-counts p = let a = p.after in record { fits = λ l. p; past = λ l. omega arith; most = omega arith; long = p.long }

-- one that stops, since the bytes end past the room
pub fills-past : {o : List ℕ} {s r : ℕ} (bytes : List ℕ) → r ≤ too_many → length o < r → length o < s + length bytes → Fills o o s bytes r
fills-past bytes k l m = record { fits = λ n. absurd (omega arith); past = λ n. m; most = k; long = refl }

pub fills-then : {o o₁ o₂ : List ℕ} {s s₁ s₂ : ℕ} {a b : List ℕ} → Fills o o₁ s a s₁ → Fills o₁ o₂ s₁ b s₂ → Fills o o₂ s (a ++ b) s₂
fills-then {o} {o₁} {o₂} {s} {s₁} {s₂} {a} {b} p q =
    let y = length-append a b in let z = p.long in let m = p.most in
    record {
      fits = λ l.
          let second = q.fits (omega arith) in let w = second.after in
          counts-then (p.fits (omega arith)) second;
      past = λ l. elim (dec_lt (length o) s₁) [
        | yes h ↦ let w = p.past h in omega arith
        | no h ↦
            let first = p.fits (omega arith) in let v = first.after in let w = q.past (omega arith) in
            omega arith
      ];
      most = q.most;
      long = q.long ∙ p.long;
    }

pub fills-as : {o o' : List ℕ} {s r : ℕ} {a b : List ℕ} → a ≡ b → Fills o o' s a r → Fills o o' s b r
fills-as e p = rw e at p

-- what was not counted to its end does not fit
pub fills-over : {o o' w : List ℕ} {r : ℕ} → Fills o o' 0 w r → length o < r → length o < length w
fills-over p l = let a = p.past l in omega arith

-- ---- a loop: of the whole, `rest` is still to be put

pub record Filling (o o' : List ℕ) (s r : ℕ) (whole rest : List ℕ) : Type 0 where
  pub done : List ℕ
  pub puts : Fills o o' s done r
  pub left : done ++ rest ≡ whole

pub filling_start : (o : List ℕ) {s : ℕ} → s ≤ too_many → {whole rest : List ℕ} → rest ≡ whole → Filling o o s s whole rest
filling_start o l e = record { done = []; puts = fills-counts (counts-none o l); left = e }

pub filling_on : {o o₁ o₂ : List ℕ} {s s₁ s₂ : ℕ} {whole rest x rest' : List ℕ} → rest ≡ x ++ rest' → Filling o o₁ s s₁ whole rest
    → Fills o₁ o₂ s₁ x s₂ → Filling o o₂ s s₂ whole rest'
filling_on {x = x} {rest' = rest'} e g p = record {
  done = g.done ++ x;
  puts = fills-then g.puts p;
  left = append_assoc g.done x rest' ∙ ap (λ v. g.done ++ v) (sym e) ∙ g.left;
}

pub filling_end : {o o' : List ℕ} {s r : ℕ} {whole rest : List ℕ} → rest ≡ [] → Filling o o' s r whole rest → Fills o o' s whole r
filling_end e g = fills-as (sym (append-nil g.done) ∙ ap (λ v. g.done ++ v) (sym e) ∙ g.left) g.puts

-- it stops where it is past the room
pub filling_past : {o o' : List ℕ} {s r : ℕ} {whole rest : List ℕ} → Filling o o' s r whole rest → length o < r → Fills o o' s whole r
filling_past {rest = rest} g l =
    let x = g.puts.past l in let y = ap length g.left in let z = length-append g.done rest in
    record { fits = λ n. absurd (omega arith); past = λ n. omega arith; most = g.puts.most; long = g.puts.long }

pub filling_length : {o o' : List ℕ} {s r : ℕ} {whole rest : List ℕ} → Filling o o' s r whole rest → length o' ≡ length o
filling_length g = g.puts.long
