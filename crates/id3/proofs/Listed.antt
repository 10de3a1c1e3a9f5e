-- The refusals of a tag's two questions are their own, and placed in the tag.
-- Assumes nothing.
use mathlib.Core.Path.{◌≡◌, refl}
use mathlib.Core.List.{List, [], ◌∷◌}
use mathlib.Core.Bool.{Bool, true, false, cond}
use Prim.Native.Nat.{ℕ, ◌≤◌}
use native.Mathlib.Omega.{arith}
use lib.Dec.{ltb}
use lib.ListN.{length, get_or}
use Rattle.machine.specs.Machine.{Out, ok, refused}
use Rattle.cursor.specs.Refusals.{no_such_row, Among}
use Rattle.room.specs.Room.{good, bad}
use Rattle.cursor.proofs.Listed.{allowed-front, among-if}
use Rattle.id3.specs.declared.TagFrame.{TagFrame}
use Rattle.id3.specs.Frames.{frames_of, no_frame, count_in, frame_in, frame_count, frame_at, count_refusals, frame_refusals}
use Rattle.id3.proofs.Inside.{refused-tag}

-- of the tag's walk: what a refusal says, and where it is placed
module _ (s : List ℕ) where
  count-in : (o : Out (List TagFrame)) → frames_of s ≡ o → Among count_refusals (count_in o)
  unfolding count_in
  count-in (ok xs q) e = tt
  count-in (refused n p) e = (refused-tag s e).0

  frame-in : (i : ℕ) (o : Out (List TagFrame)) → frames_of s ≡ o → Among frame_refusals (frame_in i o)
  unfolding frame_in
  frame-in i (ok xs q) e = among-if frame_refusals (ltb i (length xs)) _ _ tt tt
  frame-in i (refused n p) e = allowed-front count_refusals (no_such_row ∷ []) n p (refused-tag s e).0

  count-place : (o : Out (List TagFrame)) → frames_of s ≡ o → {n p : ℕ} → count_in o ≡ bad n p → p ≤ length s
  unfolding count_in
  count-place (ok xs q) e v = let z : ◌≡◌ {A = ℕ} 0 1 = cc in absurd (omega arith)
  count-place (refused m r) e {n} {p} v = let z : r ≡ p = cc in rw (← z) (refused-tag s e).1

  no-frame : (b : Bool) (x : TagFrame) {n p : ℕ} → cond b (good x) (bad no_such_row 0) ≡ bad n p → p ≤ length s
  no-frame true x v = let z : ◌≡◌ {A = ℕ} 0 1 = cc in absurd (omega arith)
  no-frame false x {n} {p} v = let z : 0 ≡ p = cc in omega arith

  frame-place : (i : ℕ) (o : Out (List TagFrame)) → frames_of s ≡ o → {n p : ℕ} → frame_in i o ≡ bad n p → p ≤ length s
  unfolding frame_in
  frame-place i (ok xs q) e v = no-frame (ltb i (length xs)) (get_or xs i no_frame) v
  frame-place i (refused m r) e {n} {p} v = let z : r ≡ p = cc in rw (← z) (refused-tag s e).1

-- ---- the questions

pub count-listed : (s : List ℕ) → Among count_refusals (frame_count s)
unfolding frame_count
count-listed s = count-in s (frames_of s) refl

pub frame-listed : (s : List ℕ) (i : ℕ) → Among frame_refusals (frame_at i s)
unfolding frame_at
frame-listed s i = frame-in s i (frames_of s) refl

pub count-stays : (s : List ℕ) {n p : ℕ} → frame_count s ≡ bad n p → p ≤ length s
unfolding frame_count
count-stays s e = count-place s (frames_of s) refl e

pub frame-stays : (s : List ℕ) (i : ℕ) {n p : ℕ} → frame_at i s ≡ bad n p → p ≤ length s
unfolding frame_at
frame-stays s i e = frame-place s i (frames_of s) refl e
