-- The reading machine. A definition of the format is a program: it says what it asks for, and what the bytes are that it passes over. Knows nothing of a format.
-- Assumes nothing.
use Rattle.std.specs.Prelude.{◌≡◌, Bool, true, false, cond, List, [], ◌∷◌, ◌++◌, ℕ, zero, suc, ◌+◌, ◌-◌, ltb, get_or}

-- A program over a cursor. `byte κ` reads the one byte at the cursor and moves past it: a byte of the frame κ. `pass w n` moves over n bytes and
-- reads none: w says what they are. `here` asks for the cursor's place. There is no other way to a byte, and none back.
pub data Prog (K W A : Type 0) : Type 0 where
  ret : A → Prog K W A
  refuse : ℕ → ℕ → Prog K W A
  here : (ℕ → Prog K W A) → Prog K W A
  byte : K → (ℕ → Prog K W A) → Prog K W A
  pass : W → ℕ → Prog K W A → Prog K W A

-- the answer and the cursor; or a refusal's number and place
pub data Out (A : Type 0) : Type 0 where
  ok : A → ℕ → Out A
  refused : ℕ → ℕ → Out A

-- a byte read, with its place; bytes passed over, with the first's place and how many
pub data Event (K W : Type 0) : Type 0 where
  seen : K → ℕ → Event K W
  passed : W → ℕ → ℕ → Event K W

-- the first of them, if there is one, is at p
abbrev pub FirstAt : {K W : Type 0} → (p : ℕ) → List (Event K W) → Type 0
FirstAt p [] = Unit {0}
FirstAt p (seen κ q ∷ es) = q ≡ p
FirstAt p (passed w q n ∷ es) = q ≡ p

-- ---- three ways to run a program on a file from a place

-- what it answers
unfoldable pub run : {K W A : Type 0} → Prog K W A → List ℕ → ℕ → Out A
run (ret a) f at = ok a at
run (refuse n p) f at = refused n p
run (here k) f at = run (k at) f at
run (byte κ k) f at = run (k (get_or f at 0)) f (at + 1)
run (pass w n m) f at = run m f (at + n)

-- what it reads and passes, in file order
unfoldable pub trace : {K W A : Type 0} → Prog K W A → List ℕ → ℕ → List (Event K W)
trace (ret a) f at = []
trace (refuse n p) f at = []
trace (here k) f at = trace (k at) f at
trace (byte κ k) f at = seen κ at ∷ trace (k (get_or f at 0)) f (at + 1)
trace (pass w n m) f at = passed w at n ∷ trace m f (at + n)

-- what it leaves in a state that each thing passed is put into
unfoldable pub exec : {K W S A : Type 0} → (W → ℕ → ℕ → S → S) → Prog K W A → List ℕ → ℕ → S → Out (A × S)
exec put (ret a) f at σ = ok (a, σ) at
exec put (refuse n p) f at σ = refused n p
exec put (here k) f at σ = exec put (k at) f at σ
exec put (byte κ k) f at σ = exec put (k (get_or f at 0)) f (at + 1) σ
exec put (pass w n m) f at σ = exec put m f (at + n) (put w at n σ)

-- the state after everything that events passed was put into it
unfoldable pub puts : {K W S : Type 0} → (W → ℕ → ℕ → S → S) → List (Event K W) → S → S
puts put [] σ = σ
puts put (seen κ p ∷ es) σ = puts put es σ
puts put (passed w p n ∷ es) σ = puts put es (put w p n σ)

-- the rows that `pick` takes from what was passed over
unfoldable pub rows_of : {K W R : Type 0} → (W → ℕ → ℕ → List R) → List (Event K W) → List R
rows_of pick [] = []
rows_of pick (seen κ p ∷ es) = rows_of pick es
rows_of pick (passed w p n ∷ es) = pick w p n ++ rows_of pick es

-- ---- programs from programs

infixl 1 ◌>>=◌ ◌>>◌
unfoldable pub ◌>>=◌ : {K W A B : Type 0} → Prog K W A → (A → Prog K W B) → Prog K W B
ret a >>= g = g a
refuse n p >>= g = refuse n p
here k >>= g = here (λ p. k p >>= g)
byte κ k >>= g = byte κ (λ b. k b >>= g)
pass w n m >>= g = pass w n (m >>= g)

unfoldable pub ◌>>◌ : {K W A B : Type 0} → Prog K W A → Prog K W B → Prog K W B
m >> n = m >>= λ _. n

-- the library's conditional, of programs: it has a name of its own so that a law finds the two programs by it
infixr 2 when◌then◌else◌
unfoldable pub when◌then◌else◌ : {K W A : Type 0} → Bool → Prog K W A → Prog K W A → Prog K W A
when b then m else n = cond b m n

-- the cursor's place
unfoldable pub place : {K W : Type 0} → Prog K W ℕ
place = here ret

-- passes over n bytes
unfoldable pub skip : {K W : Type 0} → W → ℕ → Prog K W (Unit {0})
skip w n = pass w n (ret tt)

-- refusal n at p, unless the test holds
unfoldable pub check : {K W : Type 0} → Bool → ℕ → ℕ → Prog K W (Unit {0})
check true n p = ret tt
check false n p = refuse n p

-- `body` again and again until the cursor is at `end`; each turn moves the cursor, so `end - at` turns are enough
unfoldable pub turns : {K W S : Type 0} → ℕ → ℕ → (S → Prog K W S) → S → Prog K W S
turns zero end body s = ret s
turns (suc k) end body s = here λ at. when ltb at end then (body s >>= turns k end body) else ret s

unfoldable pub many : {K W S : Type 0} → ℕ → (S → Prog K W S) → S → Prog K W S
many end body s = here λ at. turns (end - at) end body s

-- `body` n times
unfoldable pub times : {K W S : Type 0} → ℕ → (S → Prog K W S) → S → Prog K W S
times zero body s = ret s
times (suc n) body s = body s >>= times n body
