-- The characters of bytes, for any form: one that is written is read again, and what was read is what is written.
-- Assumes nothing.
use mathlib.Core.Path.{◌≡◌, refl, sym, ap, ◌∙◌}
use mathlib.Core.List.{List, [], ◌∷◌, ◌++◌}
use Prim.Native.Nat.{ℕ, zero, suc, ◌+◌, ◌-◌, ◌≤◌, ◌<◌}
use native.Mathlib.Nat.{add-zero}
use native.Mathlib.Omega.{arith}
use lib.ListN.{length, get_or, drop, length-append}
use lib.Seq.{drop-append_seam, drop-nil}
use Rattle.room.specs.Room.{Result, good, bad}
use Rattle.utf16.specs.Unicode.{Char, char, none, before, next, chars, bytes_all}

-- every element is below 256
abbrev pub Bytes : List ℕ → Type 0
Bytes s = (i : ℕ) → get_or s i 0 < 256

-- ---- a character, and then the rest

module _ (first : List ℕ → Char) where
  -- bytes that belong to the character before are passed over
  pub skipped : (k at : ℕ) (s : List ℕ) → chars first k at s ≡ chars first 0 (at + k) (drop k s)
  unfolding chars
  skipped zero at s = rw add-zero
  skipped (suc k) at [] = refl
  skipped (suc k) at (b ∷ s) = let e : at + 1 + k ≡ at + suc k = omega arith in skipped k (at + 1) s ∙ ap (λ (n : ℕ). chars first 0 n (drop k s)) e

  pub chars-step : (at : ℕ) (s : List ℕ) {c n : ℕ} → 0 < length s → 0 < n → first s ≡ char c n → chars first 0 at s ≡ before c (chars first 0 (at + n) (drop n s))
  unfolding chars next
  chars-step at [] l m e = absurd (omega arith)
  chars-step at (b ∷ s) {n = zero} l m e = absurd (omega arith)
  chars-step at (b ∷ s) {c = c} {n = suc n} l m e =
      let x : suc n - 1 ≡ n = omega arith in let y : at + 1 + n ≡ at + suc n = omega arith in
      rw (e, x) (ap (before c) (skipped n (at + 1) s ∙ ap (λ (k : ℕ). chars first 0 k (drop n s)) y))

  pub chars-bad : (at : ℕ) (s : List ℕ) → 0 < length s → first s ≡ none → chars first 0 at s ≡ bad 26 at
  unfolding chars next
  chars-bad at [] l e = absurd (omega arith)
  chars-bad at (b ∷ s) l e = rw e

  pub chars-end : (at : ℕ) (s : List ℕ) → length s ≡ 0 → chars first 0 at s ≡ good []
  unfolding chars
  chars-end at [] e = refl
  chars-end at (b ∷ s) e = absurd (omega arith)

pub before-bad : (c : ℕ) (r : Result (List ℕ)) {n p : ℕ} → before c r ≡ bad n p → r ≡ bad n p
unfolding before
before-bad c (good ds) e = absurd (let z : ◌≡◌ {A = ℕ} 0 1 = cc in omega arith)
before-bad c (bad n p) e = e

-- a refusal is 26, placed in the bytes
module _ (first : List ℕ → Char) where
  placed_by : (b at : ℕ) (s : List ℕ) {m p : ℕ} → ((k : ℕ) → chars first k (at + 1) s ≡ bad m p → (m ≡ 26) × (p < at + 1 + length s))
      → (x : Char) → next at x (λ n. chars first (n - 1) (at + 1) s) ≡ bad m p → (m ≡ 26) × (p < at + suc (length s))
  unfolding next
  placed_by b at s {m} {p} rest none e =
      let x : m ≡ 26 = cc in let y : p ≡ at = cc in
      (x, omega arith)
  placed_by b at s rest (char c n) e = let w = rest (n - 1) (before-bad c _ e) in (w.0, omega (arith, w.1))

  pub placed : (k at : ℕ) (s : List ℕ) {m p : ℕ} → chars first k at s ≡ bad m p → (m ≡ 26) × (p < at + length s)
  unfolding chars
  placed k at [] e = absurd (let z : ◌≡◌ {A = ℕ} 0 1 = cc in omega arith)
  placed (suc k) at (b ∷ s) e = let w = placed k (at + 1) s e in (w.0, omega (arith, w.1))
  placed zero at (b ∷ s) {m} {p} e = placed_by b at s (λ k. placed k (at + 1) s {m = m} {p = p}) (first (b ∷ s)) e

pub before-good : (c : ℕ) (r : Result (List ℕ)) {cs : List ℕ} → before c r ≡ good cs → (ds : List ℕ) × (r ≡ good ds) × (cs ≡ c ∷ ds)
unfolding before
before-good c (good ds) e = (ds, refl, cc)
before-good c (bad n p) e = absurd (let z : ◌≡◌ {A = ℕ} 0 1 = cc in omega arith)

-- ---- a form: how a character is read, and how it is written

pub data All (P : ℕ → Type 0) : List ℕ → Type 0 where
  nil : All P []
  cons : {c : ℕ} {cs : List ℕ} → P c → All P cs → All P (c ∷ cs)

-- of characters that are `Good`, in lists that are `Fine`
pub record Form (Good : ℕ → Type 0) (Fine : List ℕ → Type 0) (first : List ℕ → Char) (put : ℕ → List ℕ) : Type 1 where
  pub rest : {b : ℕ} {s : List ℕ} → Fine (b ∷ s) → Fine s
  pub some : (c : ℕ) → 0 < length (put c)
  pub reads : (c : ℕ) (t : List ℕ) → Good c → first (put c ++ t) ≡ char c (length (put c))
  pub writes : (s : List ℕ) {c n : ℕ} → Fine s → first s ≡ char c n → Good c × (0 < n) × (n ≤ length s) × (s ≡ put c ++ drop n s)

module _ {Good : ℕ → Type 0} {Fine : List ℕ → Type 0} {first : List ℕ → Char} {put : ℕ → List ℕ} (form : Form Good Fine first put) where
  pub fine_from : (at : ℕ) (s : List ℕ) → Fine s → Fine (drop at s)
  fine_from zero s h = h
  fine_from (suc at) [] h = h
  fine_from (suc at) (b ∷ s) h = fine_from at s (form.rest h)

  pub read_all : (at : ℕ) {cs : List ℕ} → All Good cs → chars first 0 at (bytes_all put cs) ≡ good cs
  unfolding bytes_all before
  read_all at nil = chars-end first at [] refl
  read_all at (cons {c} {cs} g gs) =
      let r = bytes_all put cs in let l = length-append (put c) r in let p = form.some c in
      chars-step first at (put c ++ r) (omega arith) p (form.reads c r g)
      ∙ ap (before c) (ap (λ (x : List ℕ). chars first 0 (at + length (put c)) x) (drop-append_seam (put c) r) ∙ read_all (at + length (put c)) gs)

  by_first : (b at : ℕ) (s : List ℕ) {cs : List ℕ} → Fine (b ∷ s) → ((k : ℕ) (ds : List ℕ) → chars first k (at + 1) s ≡ good ds → All Good ds × (drop k s ≡ bytes_all put ds))
      → (x : Char) → first (b ∷ s) ≡ x → next at x (λ n. chars first (n - 1) (at + 1) s) ≡ good cs → All Good cs × (b ∷ s ≡ bytes_all put cs)
  unfolding bytes_all next
  by_first b at s h all none x y = absurd (let z : ◌≡◌ {A = ℕ} 0 1 = cc in omega arith)
  by_first b at s h all (char c zero) x y = let w = form.writes (b ∷ s) h x in absurd (omega (arith, w.1))
  by_first b at s h all (char c (suc n)) x y =
      let w = form.writes (b ∷ s) h x in let q = before-good c _ y in let e : suc n - 1 ≡ n = omega arith in
      let v = all n q.0 (ap (λ (k : ℕ). chars first k (at + 1) s) (sym e) ∙ q.1) in
      rw q.2 (cons w.0 v.0, w.3 ∙ ap (λ (r : List ℕ). put c ++ r) v.1)

  pub write-all : (k at : ℕ) (s : List ℕ) {cs : List ℕ} → Fine s → chars first k at s ≡ good cs → All Good cs × (drop k s ≡ bytes_all put cs)
  unfolding chars bytes_all
  write-all k at [] {cs} h e = let x : cs ≡ [] = cc in rw x (nil, drop-nil k)
  write-all (suc k) at (b ∷ s) h e = write-all k (at + 1) s (form.rest h) e
  write-all zero at (b ∷ s) h e = by_first b at s h (λ k ds. write-all k (at + 1) s {cs = ds} (form.rest h)) (first (b ∷ s)) refl e
