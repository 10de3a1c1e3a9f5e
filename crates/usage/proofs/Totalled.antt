-- What a total says: that of a file is its length, and that of a run over files is the lengths of those that are accepted. At the 1,001st file there is none.
-- Assumes nothing.
use mathlib.Core.Path.{◌≡◌, refl, sym, ◌∙◌}
use mathlib.Core.List.{List, [], ◌∷◌}
use Prim.Native.Nat.{ℕ, suc, ◌+◌, ◌*◌, ◌^◌, ◌≤◌, ◌<◌}
use native.Mathlib.Decide.{dec_lt}
use native.Mathlib.Omega.{arith}
use lib.ListN.{length}
use borrow.Author.Tests.{le-leb, lt-leb, le-ltb, lt-ltb}
use Rattle.metadata.specs.Tables.{full_nodes, full_items, limits}
use Rattle.room.specs.Room.{Result, good, bad}
use Rattle.file.specs.Reading.{read_file}
use Rattle.account.specs.Account.{kinds_of, sum_over}
use Rattle.account.specs.ByRows.{plus}
use Rattle.account.specs.Totals.{most_files, zeros, plus_kinds, one_more}
use Rattle.account.specs.declared.Kinds.{Kinds}
use Rattle.account.specs.declared.Totals.{Totals}
use Rattle.account.proofs.Whole.{rows-count}
use Rattle.lines.specs.Answer.{reads}
use Rattle.usage.specs.Bytes.{total, kinds_in, plus_file, with_file, with_files, bytes_if, bytes_added}
use Rattle.lines.proofs.Reading.{asked-rows}

abbrev whole : Kinds → ℕ
whole k = k.header + k.nodes + k.metadata + k.visible + k.hidden + k.unpackers + k.references + k.inline + k.rest

-- ---- sums that fit

exact : (a b : ℕ) → a + b < 2 ^ 40 → plus a b ≡ a + b
exact a b l = omega arith

total-exact : (k : Kinds) → whole k < 2 ^ 40 → total k ≡ whole k
unfolding total
total-exact k l =
    let e8 = exact k.inline k.rest (omega arith) in
    let e7 = exact k.references (k.inline + k.rest) (omega arith) in
    let e6 = exact k.unpackers (k.references + (k.inline + k.rest)) (omega arith) in
    let e5 = exact k.hidden (k.unpackers + (k.references + (k.inline + k.rest))) (omega arith) in
    let e4 = exact k.visible (k.hidden + (k.unpackers + (k.references + (k.inline + k.rest)))) (omega arith) in
    let e3 = exact k.metadata (k.visible + (k.hidden + (k.unpackers + (k.references + (k.inline + k.rest))))) (omega arith) in
    let e2 = exact k.nodes (k.metadata + (k.visible + (k.hidden + (k.unpackers + (k.references + (k.inline + k.rest)))))) (omega arith) in
    let e1 = exact k.header (k.nodes + (k.metadata + (k.visible + (k.hidden + (k.unpackers + (k.references + (k.inline + k.rest))))))) (omega arith) in
    rw (e8, e7, e6, e5, e4, e3, e2, e1) (omega arith)

plus-exact : (s k : Kinds) → whole s + whole k < 2 ^ 40 → whole (plus_kinds s k) ≡ whole s + whole k
plus-exact s k l =
    let e0 = exact s.header k.header (omega arith) in let e1 = exact s.nodes k.nodes (omega arith) in
    let e2 = exact s.metadata k.metadata (omega arith) in
    let e3 = exact s.visible k.visible (omega arith) in
    let e4 = exact s.hidden k.hidden (omega arith) in
    let e5 = exact s.unpackers k.unpackers (omega arith) in
    let e6 = exact s.references k.references (omega arith) in
    let e7 = exact s.inline k.inline (omega arith) in let e8 = exact s.rest k.rest (omega arith) in
    omega arith

-- ---- of a file

file-whole : (f : List ℕ) {k : Kinds} → kinds_in f ≡ good k → whole k ≡ length f
unfolding kinds_in reads kinds_of
file-whole f {k} e =
    let a = asked-rows (read_file (limits full_nodes full_items) f) (kinds_of (limits full_nodes full_items) f) e in
    same a.4 (rows-count (limits full_nodes full_items) f a.3).total
  where
    same : {c : Kinds} → good c ≡ good k → whole c ≡ length f → whole k ≡ length f
    same {c} h w = let z : c ≡ k = cc in rw z at w

pub file-total : (f : List ℕ) {k : Kinds} → length f ≤ 65536 → kinds_in f ≡ good k → total k ≡ length f
file-total f {k} l e = let w = file-whole f e in total-exact k (omega arith) ∙ w

-- ---- of a run over files

-- the totals of n files, of which the accepted ones have `bytes` bytes
record Sound (t : Totals) (n bytes : ℕ) : Type 0 where
  files : t.files ≡ n
  few : n ≤ 1000
  sum : whole t.kinds ≡ bytes
  small : bytes ≤ n * 65536

module _ {t : Totals} {n b : ℕ} (s : Sound t n b) (l : n < 1000) (f : List ℕ) where
  refused-too : Sound (record { files = plus t.files 1; refused = plus t.refused 1; kinds = t.kinds }) (n + 1) (b + 0)
  refused-too = let e = s.files in let c = s.small in let w = s.sum in record { files = omega arith; few = omega arith; sum = omega arith; small = omega arith }

  counted-too : length f ≤ 65536 → {k : Kinds} → kinds_in f ≡ good k → Sound
      (record { files = plus t.files 1; refused = t.refused; kinds = plus_kinds t.kinds k }) (n + 1) (b + length f)
  counted-too m {k} h =
      let e = s.files in let c = s.small in let w = s.sum in
      let z = file-whole f h in
      let x : whole t.kinds + whole k ≡ b + length f = omega arith in
      record { files = omega arith; few = omega arith; sum = plus-exact t.kinds k (omega arith) ∙ x; small = omega arith }

  added : Sound (plus_file t f) (n + 1) (b + bytes_added f)
  unfolding plus_file bytes_added bytes_if
  added = elim (dec_lt 65536 (length f)) [
    | yes m ↦ rw (lt-ltb 65536 (length f) m) refused-too
    | no m ↦ let k : length f ≤ 65536 = omega arith in rw (le-ltb 65536 (length f) k) (by k (kinds_in f) refl)
  ]
    where
      by : length f ≤ 65536 → (o : Result Kinds) → kinds_in f ≡ o → Sound (one_more t (kinds_in f)) (n + 1) (b + bytes_if (length f) (kinds_in f))
      by k (good x) h = rw h (counted-too k h)
      by k (bad m p) h = rw h refused-too

none_left : (fs : List (List ℕ)) (n p : ℕ) → with_files (bad n p) fs ≡ bad n p
unfolding with_files with_file
none_left [] n p = refl
none_left (f ∷ fs) n p = none_left fs n p

module _ (t : Totals) (f : List ℕ) (fs : List (List ℕ)) where
  next : t.files < 1000 → with_files (good t) (f ∷ fs) ≡ with_files (good (plus_file t f)) fs
  unfolding with_files with_file
  next l = rw (lt-leb most_files t.files l)

  over : 1000 ≤ t.files → with_files (good t) (f ∷ fs) ≡ bad 32 0
  unfolding with_files with_file
  over l = rw (le-leb most_files t.files l) (none_left fs 32 0)

  one_more_lem : t.files < 1000 → (plus_file t f).files ≡ t.files + 1
  unfolding plus_file
  one_more_lem l = elim (dec_lt 65536 (length f)) [
    | yes m ↦ rw (lt-ltb 65536 (length f) m) (omega arith)
    | no m ↦ let k : length f ≤ 65536 = omega arith in rw (le-ltb 65536 (length f) k) (by (kinds_in f))
  ]
    where
      by : (o : Result Kinds) → (one_more t o).files ≡ t.files + 1
      by (good x) = omega arith
      by (bad m p) = omega arith

-- one file after the other
all : (fs : List (List ℕ)) (t : Totals) {n b : ℕ} → Sound t n b → {u : Totals} → with_files (good t) fs ≡ good u → Sound u (n + length fs) (b + sum_over bytes_added fs)
unfolding with_files
all [] t {n} {b} s {u} e = let z : t ≡ u = cc in let x : n + 0 ≡ n = omega arith in let y : b + 0 ≡ b = omega arith in rw (x, y, ← z) s
all (f ∷ fs) t {n} {b} s {u} e = elim (dec_lt t.files 1000) [
  | yes l ↦
      let w = s.files in
      let r = all fs (plus_file t f) (added s (omega arith) f) (sym (next t f fs l) ∙ e) in
      let x : n + 1 + length fs ≡ n + suc (length fs) = omega arith in
      let y : b + bytes_added f + sum_over bytes_added fs ≡ b + (bytes_added f + sum_over bytes_added fs) = omega arith in
      rw (x, y) at r
  | no l ↦ let h : bad 32 0 ≡ good u = sym (over t f fs (omega arith)) ∙ e in let z : ◌≡◌ {A = ℕ} 0 1 = cc in absurd (omega arith)
]

pub sums-total : (fs : List (List ℕ)) {t : Totals} → with_files (good zeros) fs ≡ good t → (t.files ≡ length fs) × (length fs ≤ 1000) × (total t.kinds ≡ sum_over bytes_added fs)
sums-total fs {t} e =
    let s = all fs zeros (record { files = refl; few = omega arith; sum = refl; small = omega arith }) e in
    let a = s.files in let b = s.few in let c = s.sum in let d = s.small in
    (omega arith, omega arith, total-exact t.kinds (omega arith) ∙ omega arith)

too_many_lem : (fs : List (List ℕ)) (t : Totals) → t.files ≤ 1000 → 1000 < t.files + length fs → with_files (good t) fs ≡ bad 32 0
too_many_lem [] t l m = absurd (omega arith)
too_many_lem (f ∷ fs) t l m = elim (dec_lt t.files 1000) [
  | yes k ↦ let w = one_more_lem t f fs k in next t f fs k ∙ too_many_lem fs (plus_file t f) (omega arith) (omega arith)
  | no k ↦ over t f fs (omega arith)
]

pub sums-over : (fs : List (List ℕ)) → 1000 < length fs → with_files (good zeros) fs ≡ bad 32 0
sums-over fs l = too_many_lem fs zeros (omega arith) (omega arith)
