-- The copy of a file whose header is mended, and the lines, as the code comes to them.
-- Assumes nothing.
use mathlib.Core.Path.{◌≡◌, refl, ap}
use mathlib.Core.List.{List, []}
use Prim.Native.Nat.{ℕ}
use native.Mathlib.Omega.{arith}
use lib.ListN.{length}
use Rattle.metadata.specs.Tables.{full_nodes, full_items, limits}
use Rattle.room.specs.Room.{Result, good, bad, counted, kept}
use Rattle.refusals.specs.Told as refusals
use Rattle.mend.specs.Mend.{Mended, mend}
use Rattle.mend.specs.Told.{Sizes, told, sizes_of, copy_in, lines_in}
use Rattle.std.proofs.Common as std
use Rattle.std.proofs.Common.{Ok, Err, MatchResult}
use Rattle.refusals.specs.declared.Refusal.{Refusal}
use Rattle.lines.specs.Answer.{plainly, printed, Gives}
use Rattle.outputs.specs.Mended.{mended_answer, mend_lines_answer}
use Rattle.lines.specs.declared.Made.{Made}
use Rattle.lines.proofs.Ending.{gives_as}

-- what a call said of its question
module _ (x : Result Mended) where
  sizes_good : {a b : ℕ} → good (record { copy = a; lines = b }) ≡ sizes_of x → (good a ≡ counted (copy_in x)) × (good b ≡ counted (lines_in x))
  unfolding counted
  sizes_good {a} {b} e = by x e
    where
      by : (x : Result Mended) → good (record { copy = a; lines = b }) ≡ sizes_of x → (good a ≡ counted (copy_in x)) × (good b ≡ counted (lines_in x))
      by (good m) e = let y : ◌≡◌ {A = Sizes} (record { copy = a; lines = b }) (record { copy = length m.copy; lines = length m.lines }) =
          cc in (ap (λ (s : Sizes). good s.copy) y, ap (λ (s : Sizes). good s.lines) y)
      by (bad n p) e = let z : ◌≡◌ {A = ℕ} 0 1 = cc in absurd (omega arith)

  sizes_bad : {n p : ℕ} → bad n p ≡ sizes_of x → (bad n p ≡ counted (copy_in x)) × (bad n p ≡ counted (lines_in x))
  unfolding counted
  sizes_bad {n} {p} e = by x e
    where
      by : (x : Result Mended) → bad n p ≡ sizes_of x → (bad n p ≡ counted (copy_in x)) × (bad n p ≡ counted (lines_in x))
      by (good m) e = let z : ◌≡◌ {A = ℕ} 0 1 = cc in absurd (omega arith)
      by (bad k q) e = let y : n ≡ k = cc in let z : p ≡ q = cc in rw (y, z) (refl, refl)

  -- of what the call said, the one count
  pub copy_counted : (said : std.Result (ℕ × ℕ) Refusal) (q : std.Result ℕ Refusal) → told said ≡ sizes_of x → MatchResult said (λ s. q ≡ Ok s.0) (λ k. q ≡ Err k)
      → refusals.told q ≡ counted (copy_in x)
  copy_counted (Ok (a, b)) q e h = rw h (sizes_good e).0
  copy_counted (Err k) q e h = rw h (sizes_bad e).0

  pub lines_counted : (said : std.Result (ℕ × ℕ) Refusal) (q : std.Result ℕ Refusal) → told said ≡ sizes_of x → MatchResult said (λ s. q ≡ Ok s.1) (λ k. q ≡ Err k)
      → refusals.told q ≡ counted (lines_in x)
  lines_counted (Ok (a, b)) q e h = rw h (sizes_good e).1
  lines_counted (Err k) q e h = rw h (sizes_bad e).1

-- with full tables and such buffers
module _ (f : List ℕ) {n i : ℕ} (en : full_nodes ≡ n) (ei : full_items ≡ i) (room : ℕ) where
  copy-as : {k : ℕ} → 256 ≡ k → printed room [] plainly (copy_in (mend (limits n i) room k f)) ≡ mended_answer room f
  unfolding mended_answer
  copy-as e = rw (← en, ← ei, ← e) refl

  lines-as : {k : ℕ} → 65536 ≡ k → printed room [] plainly (lines_in (mend (limits n i) k room f)) ≡ mend_lines_answer room f
  unfolding mend_lines_answer
  lines-as e = rw (← en, ← ei, ← e) refl

-- What the call said and left, of lent room of these sizes; `counts` is what is said of a part of it, and `ends` what an answer in its buffer comes to.
pub copy-settles : (f : List ℕ) {n i room space : ℕ} → full_nodes ≡ n → full_items ≡ i → 256 ≡ space → (v : List ℕ) → length v ≡ room
    → (said : std.Result (ℕ × ℕ) Refusal) → told said ≡ sizes_of (mend (limits n i) room space f) → v ≡ kept room (copy_in (mend (limits n i) room space f))
    → {bytes : Result ℕ} → ((x : Result Mended) → told said ≡ sizes_of x → bytes ≡ counted (copy_in x)) → {r : Made} {text : List ℕ}
    → ((room : ℕ) (x : Result (List ℕ)) → length v ≡ room → bytes ≡ counted x → v ≡ kept room x → Gives room r text
    (printed room [] plainly x)) → Gives room r text (mended_answer room f)
copy-settles f {n} {i} {room} {space} en ei es v long said says holds counts ends =
    let x = mend (limits n i) room space f in
    gives_as (copy-as f en ei room es) (ends room (copy_in x) long (counts x says) holds)

pub lines-settle : (f : List ℕ) {n i room space : ℕ} → full_nodes ≡ n → full_items ≡ i → 65536 ≡ room → (v : List ℕ) → length v ≡ space
    → (said : std.Result (ℕ × ℕ) Refusal) → told said ≡ sizes_of (mend (limits n i) room space f) → v ≡ kept space (lines_in (mend (limits n i) room space f))
    → {bytes : Result ℕ} → ((x : Result Mended) → told said ≡ sizes_of x → bytes ≡ counted (lines_in x)) → {r : Made} {text : List ℕ}
    → ((room : ℕ) (x : Result (List ℕ)) → length v ≡ room → bytes ≡ counted x → v ≡ kept room x → Gives room r text
    (printed room [] plainly x)) → Gives space r text (mend_lines_answer space f)
lines-settle f {n} {i} {room} {space} en ei er v long said says holds counts ends =
    let x = mend (limits n i) room space f in
    gives_as (lines-as f en ei space er) (ends space (lines_in x) long (counts x says) holds)
