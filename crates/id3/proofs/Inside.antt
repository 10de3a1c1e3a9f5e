-- Where a tag's frames lie: in the tag, one after the other, each behind its own ten bytes. Where a refusal is placed: in the tag.
-- Assumes nothing.
use mathlib.Core.Path.{◌≡◌, refl, sym, ◌∙◌, subst}
use mathlib.Core.Bool.{Bool, true, false, cond}
use mathlib.Core.List.{List, [], ◌∷◌, ◌++◌}
use Prim.Native.Nat.{ℕ, zero, suc, ◌+◌, ◌-◌, ◌≤◌, ◌<◌}
use native.Mathlib.Omega.{arith}
use lib.Dec.{T, ltb}
use lib.ListN.{length, get_or}
use borrow.Author.Tests.{leb-true, ltb-true, lt-ltb, le-ltb}
use Rattle.machine.specs.Machine.{Out, ok, refused, ret, ◌>>=◌}
use Rattle.cursor.specs.Refusals.{is_allowed}
use Rattle.machine.proofs.Triple.{Triple, where_ends, where_refused, after, followed, weaken, returns, places, either, checks, skips, skipped, repeats}
use Rattle.room.specs.Room.{good, bad}
use Rattle.id3.specs.declared.TagFrame.{TagFrame}
use Rattle.id3.specs.Tag.{extension, extended, front, frame, frame_or_padding, frames, tag}
use Rattle.id3.specs.Frames.{frames_of, no_frame, count_in, frame_in, frame_count, frame_at, count_refusals}
use Rattle.id3.proofs.Ends.{UpTo, next-on, size-on, head-on, FrameIn, frame_on}

-- frames from `at` to `end`, each behind ten bytes of its own
abbrev InOrder : (at : ℕ) → List TagFrame → (end : ℕ) → Type 0
InOrder at [] end = at ≤ end
InOrder at (x ∷ xs) end = (at + 10 ≤ x.place) × InOrder (x.place + x.size) xs end

order_more : (at : ℕ) (xs : List TagFrame) {end p q : ℕ} (x : TagFrame) → InOrder at xs p → FrameIn end p x q → InOrder at (xs ++ x ∷ []) q
order_more at [] x o f = (omega (arith, f.place), omega (arith, f.ends))
order_more at (y ∷ xs) x o f = (o.0, order_more (y.place + y.size) xs x o.1 f)

order_wider : (at : ℕ) (xs : List TagFrame) {p q : ℕ} → p ≤ q → InOrder at xs p → InOrder at xs q
order_wider at [] l o = omega arith
order_wider at (x ∷ xs) l o = (o.0, order_wider (x.place + x.size) xs l o.1)

order_ends : (at : ℕ) (xs : List TagFrame) {end : ℕ} → InOrder at xs end → at ≤ end
order_ends at [] o = o
order_ends at (x ∷ xs) o = let h = o.0 in let l = order_ends (x.place + x.size) xs o.1 in omega arith

order_at : (at : ℕ) (xs : List TagFrame) (i : ℕ) {end : ℕ} → InOrder at xs end → i < length xs → (at + 10 ≤ (get_or xs i no_frame).place) ×
    ((get_or xs i no_frame).place + (get_or xs i no_frame).size ≤ end)
order_at at [] i o l = absurd (omega arith)
order_at at (x ∷ xs) zero o l = (o.0, order_ends (x.place + x.size) xs o.1)
order_at at (x ∷ xs) (suc i) o l = let h = order_at (x.place + x.size) xs i o.1 (omega arith) in let b = o.0 in (let k = h.0 in omega arith, h.1)

order_two : (at : ℕ) (xs : List TagFrame) (i j end : ℕ) → InOrder at xs end → i < j → j < length xs → (get_or xs i no_frame).place + (get_or xs i
    no_frame).size + 10 ≤ (get_or xs j no_frame).place
order_two at [] i j end o l m = absurd (omega arith)
order_two at (x ∷ xs) i zero end o l m = absurd (omega arith)
order_two at (x ∷ xs) zero (suc j) end o l m = (order_at (x.place + x.size) xs j o.1 (omega arith)).0
order_two at (x ∷ xs) (suc i) (suc j) end o l m = order_two (x.place + x.size) xs i j end o.1 (omega arith) (omega arith)

-- ---- the tag

module _ {F : ℕ → ℕ → Type 0} where
  front-on : (flags end at : ℕ) → UpTo F end → at ≤ end → Triple F (front flags end) (λ _ q. (at ≤ q) × (q ≤ end)) at
  unfolding front extended
  front-on flags end at r l =
      either
      (λ t.
      places _ at
      (after (size-on end at (r at l).1) λ n q e. checks _ _ (r at l).1 λ t₁. checks _ _ (r at l).1 λ t₂.
      skipped extension (n - 4) (omega (arith, e.0), omega (arith, e.0, leb-true 6 n t₁, leb-true (at + n) end t₂))))
      (λ t. returns (omega arith, l))

  one_on : (end : ℕ) → UpTo F end → (xs : List TagFrame) (p : ℕ) → p < end → InOrder 10 xs p → Triple F (frame_or_padding end xs) (λ ys q. InOrder 10 ys q × (p < q) × (q ≤ end)) p
  unfolding frame_or_padding
  one_on end r xs p l o =
      places _ p
      (after (next-on p) λ a q e.
      either
      (λ t. skips _ _ (returns (order_wider 10 xs (omega arith) o, omega arith, omega arith)))
      (λ t. moved a q e))
    where
      moved : (a q : ℕ) → q ≡ p + 1 → Triple F (frame end p a >>= λ x. ret (xs ++ x ∷ [])) (λ ys s. InOrder 10 ys s × (p < s) × (s ≤ end)) q
      moved a q e = rw e (after (frame_on end p a (r p (omega arith)).1 r) λ x s h. returns (order_more 10 xs x o h, omega (arith, h.place, h.ends), h.inside))

  tag-on : (lent : ℕ) → UpTo F lent → Triple F (tag lent) (λ xs q. InOrder 10 xs lent) 0
  unfolding tag frames
  tag-on lent r =
      after (head-on lent r) λ h q e. let u : UpTo F h.end = λ p l. r p (omega (arith, e.2)) in
      followed (front-on h.flags h.end q u (omega (arith, e.0, e.1))) λ _ p i.
      weaken
      (repeats (InOrder 10) [] (one_on h.end u) (omega (arith, e.0, i.0)) i.1)
      (λ xs s k. order_wider 10 xs (omega (arith, k.1, e.2)) k.0)

-- a refusal: of the list, and placed in the tag
abbrev Stops : (lent n p : ℕ) → Type 0
Stops lent n p = T (is_allowed count_refusals n p) × (p ≤ lent)

tag-stops : (lent : ℕ) → Triple (Stops lent) (tag lent) (λ xs q. InOrder 10 xs lent) 0
tag-stops lent = tag-on lent (λ q l. ((tt, l), (tt, l), (tt, l)))

-- ---- the questions

in_order : (s : List ℕ) {xs : List TagFrame} {q : ℕ} → frames_of s ≡ ok xs q → InOrder 10 xs (length s)
unfolding frames_of
in_order s e = where_ends (tag-stops (length s)) s e

pub refused-tag : (s : List ℕ) {n p : ℕ} → frames_of s ≡ refused n p → T (is_allowed count_refusals n p) × (p ≤ length s)
unfolding frames_of
refused-tag s e = where_refused (tag-stops (length s)) s e

-- a frame that is answered is one of those of the tag
asked : (s : List ℕ) (i : ℕ) {x : TagFrame} → frame_at i s ≡ good x → (xs : List TagFrame) × (q : ℕ) × (frames_of s ≡ ok xs q) × (i < length xs) × (get_or xs i no_frame ≡ x)
unfolding frame_at frame_in
asked s i {x} e = by (frames_of s) refl e
  where
    at : (xs : List TagFrame) (b : Bool) → ltb i (length xs) ≡ b → cond b (good (get_or xs i no_frame)) (bad 18 0) ≡ good x → (i < length xs) × (get_or xs i no_frame ≡ x)
    at xs true l u = (ltb-true _ _ l, cc)
    at xs false l u = let z : ◌≡◌ {A = ℕ} 0 1 = cc in absurd (omega arith)

    by : (o : Out (List TagFrame)) → frames_of s ≡ o → frame_in i o ≡ good x → (xs : List TagFrame) × (q : ℕ) × (frames_of s ≡ ok xs q) × (i < length xs) × (get_or xs i no_frame ≡ x)
    by (ok xs q) w v = let h = at xs (ltb i (length xs)) refl v in (xs, q, w, h.0, h.1)
    by (refused n p) w v = let z : ◌≡◌ {A = ℕ} 0 1 = cc in absurd (omega arith)

same-frames : {xs ys : List TagFrame} {q r : ℕ} → ok xs q ≡ ok ys r → xs ≡ ys
same-frames e = cc

-- its contents lie in the tag, behind the tag's header and its own
pub frame-inside : (s : List ℕ) (i : ℕ) {x : TagFrame} → frame_at i s ≡ good x → (20 ≤ x.place) × (x.place + x.size ≤ length s)
frame-inside s i e = let a = asked s i e in let h = order_at 10 a.0 i (in_order s a.2) a.3 in rw (← a.4) h

-- the frames of two numbers lie one after the other
pub frames-apart : (s : List ℕ) (i j : ℕ) {x y : TagFrame} → i < j → frame_at i s ≡ good x → frame_at j s ≡ good y → x.place + x.size + 10 ≤ y.place
frames-apart s i j l e d =
    let a = asked s i e in let b = asked s j d in
    let z : b.0 ≡ a.0 = same-frames (sym b.2 ∙ a.2) in
    let h = order_two 10 a.0 i j (length s) (in_order s a.2) l (subst (λ v. j < length v) z b.3) in
    rw (← a.4, ← b.4, z) h

-- the count is the number of frames that can be asked for: those of each number below it, and no other
pub count-frames : (s : List ℕ) {n : ℕ} → frame_count s ≡ good n → (i : ℕ) → (i < n → (x : TagFrame) × (frame_at i s ≡ good x)) × (n ≤ i → frame_at i s ≡ bad 18 0)
unfolding frame_count count_in frame_at frame_in
count-frames s {n} e i = by (frames_of s) e
  where
    by : (o : Out (List TagFrame)) → count_in o ≡ good n → (i < n → (x : TagFrame) × (frame_in i o ≡ good x)) × (n ≤ i → frame_in i o ≡ bad 18 0)
    by (ok xs q) v = let z : length xs ≡ n = cc in (λ l. (get_or xs i no_frame, simp (lt-ltb i (length xs) (omega arith)) refl), λ l. simp (le-ltb i (length xs) (omega arith)) refl)
    by (refused m p) v = let z : ◌≡◌ {A = ℕ} 0 1 = cc in absurd (omega arith)

-- where the walk is refused, so is each frame
pub count-refused : (s : List ℕ) {n p : ℕ} → frame_count s ≡ bad n p → (i : ℕ) → frame_at i s ≡ bad n p
unfolding frame_count count_in frame_at frame_in
count-refused s {n} {p} e i = by (frames_of s) e
  where
    by : (o : Out (List TagFrame)) → count_in o ≡ bad n p → frame_in i o ≡ bad n p
    by (ok xs q) v = let z : ◌≡◌ {A = ℕ} 0 1 = cc in absurd (omega arith)
    by (refused m r) v = let y : m ≡ n = cc in let z : r ≡ p = cc in rw (y, z) refl
