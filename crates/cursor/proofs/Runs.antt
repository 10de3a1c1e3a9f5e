-- What holds of an accepted run on a known file, by the rules of Post with no state.
-- Assumes nothing.
use mathlib.Core.Path.{◌≡◌, refl, subst}
use mathlib.Core.List.{List}
use Prim.Native.Nat.{ℕ, zero, suc}
use Rattle.machine.specs.Machine.{Out, ok, refused, run, times}
use Rattle.cursor.specs.Rows.{Part, P}
use Rattle.machine.proofs.Laws.{running, never}
use Rattle.cursor.proofs.Quiet.{Quiet, IgnoresPlain, still, exec-puts}
use Rattle.cursor.proofs.Post.{Meets, Post}

-- no state
abbrev pub nothing : Part → ℕ → ℕ → Unit {0} → Unit {0}
nothing w p n σ = σ

pub nothing-ignores : IgnoresPlain nothing
nothing-ignores = record { ignores = λ x p n σ. refl }

-- every program puts nothing into it
pub nothing-quiet : {A : Type 0} {m : P A} → Quiet nothing m
nothing-quiet {m = m} = record { quiet = λ f at σ. exec-puts nothing m f at σ }

abbrev pub Holds : {A : Type 0} → (A → ℕ → Type 0) → A → ℕ → Unit {0} → Type 0
Holds Q a q τ = Q a q

pub post_ran : {A : Type 0} {f : List ℕ} {m : P A} {Q : A → ℕ → Type 0} {at : ℕ} {a : A} {q : ℕ} → Post nothing f m (Holds Q) at tt → run m f at ≡ ok a q → Q a q
post_ran {f = f} {m = m} {Q = Q} {at = at} w e = subst (λ o. Meets (Holds Q) (still o tt)) e (subst (Meets (Holds Q)) (exec-puts nothing m f at tt) w.post)

-- ---- one more turn

module _ {A : Type 0} (f : List ℕ) (body : A → P A) where
  pub times_more : (k : ℕ) (s : A) (p : ℕ) {t u : A} {q r : ℕ} → run (times k body s) f p ≡ ok t q → run (body t) f q ≡ ok u r → run (times (suc k) body s) f p ≡ ok u r
  unfolding times
  times_more zero s p {t} {u} {q} {r} e₁ e₂ =
      let w : ok s p ≡ ok t q = simp running at e₁ in let a : s ≡ t = cc in let b : p ≡ q = cc in
      let e : run (body s) f p ≡ ok u r = rw (a, b) e₂ in
      simp (running, e)
  times_more (suc k) s p {t} {u} {q} {r} e₁ e₂ = by (run (body s) f p) refl (λ s₁ p₁ e₃. times_more k s₁ p₁ e₃ e₂)
    where
      by : (o : Out A) → run (body s) f p ≡ o →
          ((s₁ : A) (p₁ : ℕ) → run (times k body s₁) f p₁ ≡ ok t q → run (times (suc k) body s₁) f p₁ ≡ ok u r) → run (times (suc (suc k)) body s)
          f p ≡ ok u r
      by (refused n v) x h = never (simp (running, x) at e₁)
      by (ok s₁ p₁) x h = simp (running, x) (simp running at (h s₁ p₁ (simp (running, x) at e₁)))
