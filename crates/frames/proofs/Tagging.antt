-- The frames of a tag, as the code comes to them.
-- Assumes nothing.
use mathlib.Core.Path.{◌≡◌, refl, sym, ap, ◌∙◌}
use mathlib.Core.Bool.{Bool, true, false}
use mathlib.Core.List.{List, [], ◌∷◌, ◌++◌, append_assoc}
use Prim.Native.Nat.{ℕ, suc, ◌+◌, ◌-◌, ◌≤◌, ◌<◌}
use native.Mathlib.Omega.{arith}
use lib.ListN.{length, take, drop, get_or}
use lib.Seq.{drop-cons, drop-length}
use borrow.Author.Tests.{lt-ltb}
use Rattle.machine.specs.Machine.{Out, ok, refused}
use Rattle.room.specs.Parts.{part}
use Rattle.cursor.specs.declared.Item.{Item}
use Rattle.room.specs.Room.{good, bad}
use Rattle.room.specs.Counts.{Counts}
use Rattle.room.proofs.Counting.{lent-part, Going, going_start, going_on, going_end}
use Rattle.text.specs.Text.{tabbed, number, escaped_part}
use Rattle.id3.specs.Frames.{frames_of, no_frame, count_in, frame_in, frame_count, frame_at}
use Rattle.id3.specs.Told.{count_told, frame_told}
use Rattle.id3.specs.declared.TagFrame.{TagFrame}
use Rattle.std.proofs.Common as std
use Rattle.std.proofs.Common.{Ok, Err}
use Rattle.refusals.specs.Reasons.{number_of}
use Rattle.refusals.specs.declared.Refusal.{Refusal}
use Rattle.lines.specs.Answer.{plainly, nothing, name_field, printed}
use Rattle.needs.specs.Needed.{answers}
use Rattle.frames.specs.Tags.{name_bytes, frame_line, frame_lines, all_lines, one_line, tag_lines, tag_answer, withheld, shown_tag}
use Rattle.frames.specs.declared.Frames.{Frames}
use Rattle.frames.specs.declared.Frames.TheVariants as frames
use Rattle.needs.proofs.Needing.{told-printed}

pub frame_is : (i : ℕ) (x : TagFrame) {name : List ℕ} → name ≡ name_bytes x.name
    → (0x46 ∷ []) ++ number i ++ (0x09 ∷ []) ++ escaped_part name 0 4 ++ number x.place ++ number x.size ++ (0x0A ∷ []) ≡ frame_line i x
unfolding frame_line name_field tabbed name_bytes
frame_is i x {name} e = rw e (ap (λ v. 0x46 ∷ (v ++ number x.place ++ number x.size ++ (0x0A ∷ [])))
    (append_assoc (number i) (0x09 ∷ []) (escaped_part (name_bytes x.name) 0 4)))

-- ---- all frames, one after the other

-- of the tag's frames, those before frame i were put
pub record Framing (s : List ℕ) (count : ℕ) (o o' : List ℕ) (next i : ℕ) : Type 0 where
  pub all : List TagFrame
  pub behind : ℕ
  pub walked : frames_of s ≡ ok all behind
  pub many : length all ≡ count
  pub going : Going o o' 0 next (frame_lines 0 all) (frame_lines i (drop i all))

module _ (s : List ℕ) where
  pub framing_refused : {r : std.Result ℕ Refusal} → count_told r ≡ frame_count s → {x : Refusal} → r ≡ Err x → all_lines (frames_of s) ≡ bad (number_of x.0) x.1
  unfolding frame_count count_in all_lines
  framing_refused e k = by (frames_of s) (sym e ∙ ap count_told k)
    where
      by : (o : Out (List TagFrame)) {n p : ℕ} → count_in o ≡ bad n p → all_lines o ≡ bad n p
      by (ok xs q) h = let z : ◌≡◌ {A = ℕ} 0 1 = cc in absurd (omega arith)
      by (refused m q) {n} {p} h = let a : m ≡ n = cc in let b : q ≡ p = cc in rw (a, b)

  pub framing_start : {r : std.Result ℕ Refusal} → count_told r ≡ frame_count s → {count : ℕ} → r ≡ Ok count → (o : List ℕ) → Framing s count o o 0 0
  unfolding frame_count count_in
  framing_start e {count} k o = by (frames_of s) refl (sym e ∙ ap count_told k)
    where
      by : (w : Out (List TagFrame)) → frames_of s ≡ w → count_in w ≡ good count → Framing s count o o 0 0
      by (ok xs q) h g = record { all = xs; behind = q; walked = h; many = cc; going = going_start o (omega arith) refl }
      by (refused m q) h g = let z : ◌≡◌ {A = ℕ} 0 1 = cc in absurd (omega arith)

  module _ {count : ℕ} {o o' : List ℕ} {next i : ℕ} (g : Framing s count o o' next i) where
    module _ (l : i < count) (r : std.Result TagFrame Refusal) (e : frame_told r ≡ frame_at i s) where
      there : frame_told r ≡ good (get_or g.all i no_frame)
      unfolding frame_at frame_in
      there = let m = g.many in e ∙ rw (g.walked, lt-ltb i (length g.all) (omega arith))

      pub framing_no : {x : Refusal} → r ≡ Err x → ⊥
      framing_no {x} k = let h : bad (number_of x.0) x.1 ≡ good (get_or g.all i no_frame) = sym (ap frame_told k) ∙ there in let z : ◌≡◌ {A = ℕ} 0 1 = cc in omega arith

      pub framing_on : {x : TagFrame} → r ≡ Ok x → {o'' : List ℕ} {next' : ℕ} → Counts o' o'' next (frame_line i x) next' → Framing s count o o'' next' (i + 1)
      unfolding frame_lines
      framing_on {x} k p =
          let m = g.many in
          let h : good x ≡ good (get_or g.all i no_frame) = sym (ap frame_told k) ∙ there in
          let y : get_or g.all i no_frame ≡ x = cc in let z : suc i ≡ i + 1 = omega arith in
          let d = rw z at (drop-cons g.all i no_frame (omega arith)) in
          record { all = g.all; behind = g.behind; walked = g.walked; many = m; going = going_on (rw (d, y) refl) g.going p }

    pub framing_end : count ≤ i → i ≤ count → (w : List ℕ) × (all_lines (frames_of s) ≡ good w) × Counts o o' 0 w next
    unfolding all_lines frame_lines
    framing_end l u =
        let m = g.many in let e : i ≡ length g.all = omega arith in
        (frame_lines 0 g.all, rw g.walked, going_end (rw (e, drop-length g.all) refl) g.going)

-- ---- one frame

module _ (s : List ℕ) (i : ℕ) {r : std.Result TagFrame Refusal} (e : frame_told r ≡ frame_at i s) where
  pub one-bad : {x : Refusal} → r ≡ Err x → one_line i (frame_at i s) ≡ bad (number_of x.0) x.1
  unfolding one_line
  one-bad k = ap (one_line i) (sym e ∙ ap frame_told k)

  pub one-good : {x : TagFrame} → r ≡ Ok x → one_line i (frame_at i s) ≡ good (frame_line i x)
  unfolding one_line
  one-good k = ap (one_line i) (sym e ∙ ap frame_told k)

-- ---- which frames

module _ (s : List ℕ) {which : Frames} where
  pub tag-all : which ≡ frames.All → all_lines (frames_of s) ≡ tag_lines which s
  unfolding tag_lines
  tag-all e = rw e

  pub tag_one : {i : ℕ} → which ≡ frames.One i → one_line i (frame_at i s) ≡ tag_lines which s
  unfolding tag_lines
  tag_one e = rw e

-- ---- of an item row

module _ (f : List ℕ) (row : ℕ) (r : Item) (which : Frames) (meant : Bool) {b : Bool} (e : b ≡ withheld meant r) where
  pub tag-kept : b ≡ true → shown_tag meant which f row r ≡ good nothing
  unfolding shown_tag
  tag-kept h = rw (sym e ∙ h)

  tag-shown : b ≡ false → shown_tag meant which f row r ≡ answers plainly (tag_lines which (part f r.place r.size))
  unfolding shown_tag
  tag-shown h = rw (sym e ∙ h)

  -- the row's data is lent as the tag
  pub tag-lent : b ≡ false → (room : ℕ) {end : ℕ} → end ≡ r.place + r.size → tag_answer room which
      (take (end - r.place) (drop r.place f)) ≡ printed room [] (λ a. a) (shown_tag meant which f row r)
  unfolding tag_answer
  tag-lent h room z = rw (lent-part f r.place r.size z) (told-printed room (tag_lines which (part f r.place r.size)) (tag-shown h))
