-- The types table that was written is read back, and says what was written; an accepted one says such a table.
-- Assumes nothing.
use mathlib.Core.Path.{◌≡◌, refl, sym, ap, subst}
use mathlib.Core.Bool.{true}
use mathlib.Core.List.{List, [], ◌∷◌, ◌++◌, append_assoc, append-nil}
use Prim.Native.Nat.{ℕ, zero, suc, ◌+◌, ◌^◌, ◌≤◌, ◌<◌}
use native.Mathlib.Omega.{arith}
use lib.ListN.{length, length-append}
use borrow.Author.Tests.{ltb-true, leb-true, lt-ltb, le-leb}
use Rattle.machine.specs.Machine.{ok, run, times}
use Rattle.cursor.specs.Rows.{file_frame}
use Rattle.cursor.specs.Leaves.{number, block}
use Rattle.room.specs.Parts.{part, joined}
use Rattle.vlq.specs.Vlq.{vlq, sized}
use Rattle.machine.proofs.Laws.{running}
use Rattle.room.proofs.Counting.{part_length}
use Rattle.room.proofs.Lies.{Lies, lies_left, lies_right, lies_part, stand, joined_length}
use Rattle.vlq.proofs.Sized.{stand_sized, sized-length}
use Rattle.vlq.proofs.Back.{number-back, block_back}
use Rattle.cursor.proofs.Wider.{number-wider, block-wider}
use Rattle.cursor.proofs.Leaves.{number-inside, block_inside}
use Rattle.cursor.proofs.Post.{Post, post_after, post_step, post_weaken, post_ret, post_check, post_place, post_skip}
use Rattle.cursor.proofs.Runs.{nothing, nothing-quiet, Holds}
use Rattle.header.specs.Types.{Declared, format_of, is_unknown}
use Rattle.header.specs.Header.{entry, types_table}
use Rattle.title_text.specs.Description.{entry_text, table_text, answer}
use Rattle.title_text.proofs.Covers.{Covers, covers-none, covers-on, covers-as, covers-to, covers-last, covers-part, number-covers, sized-covers}

-- the entries' texts, which declare the types behind ds and leave ds'
pub data Table : List Declared → List Declared → List (List ℕ) → Type 0 where
  none : {ds : List Declared} → Table ds ds []
  more : {ds ds' : List Declared} {t fm : ℕ} (s : List ℕ) {ts : List (List ℕ)} → length ds < 32 → is_unknown (format_of ds t) ≡ true → t < 2 ^ 28 → fm < 2 ^ 28
      → Table (ds ++ (record { type = t; format = fm } ∷ [])) ds' ts → Table ds ds' (joined (vlq t ∷ vlq fm ∷ sized s ∷ []) ∷ ts)

-- ---- read back

module _ (g : List ℕ) (big : length g < 2 ^ 28) where
  entry-back : (end p : ℕ) (ds : List Declared) (t fm : ℕ) (s : List ℕ) → length ds < 32 → is_unknown (format_of ds t) ≡ true → t < 2 ^ 28 → fm
      < 2 ^ 28 → Lies g p (joined (vlq t ∷ vlq fm ∷ sized s ∷ []))
      → p + length (joined (vlq t ∷ vlq fm ∷ sized s ∷ [])) ≤ end
      → run (entry end ds) g p ≡ ok (ds ++ (record { type = t; format = fm } ∷ [])) (p + length (joined (vlq t ∷ vlq fm ∷ sized s ∷ [])))
  unfolding entry
  entry-back end p ds t fm s room new l k h i =
      let ss : List (List ℕ) = vlq t ∷ vlq fm ∷ sized s ∷ [] in
      let w = stand ss h in let u = stand_sized s w.1.1.0 in let y = sized-length s in let z = joined_length ss in
      let n : ℕ = length s in
      let e₁ = number-back file_frame 3 end t w.0 l (omega arith) in
      let e₂ = number-back file_frame 3 end fm w.1.0 k (omega arith) in
      let e₃ = block_back file_frame 3 end n u.0 (omega (arith, h.inside)) (omega arith) in
      let e₄ : p + length (joined ss) ≡ p + length (vlq t) + length (vlq fm) + length (vlq n) + n = omega arith in
      rw e₄ (simp (running, e₁, lt-ltb _ _ room, new, e₂, e₃))

  entry-again : (before : List ℕ) (p t fm : ℕ) (s : List ℕ) → t < 2 ^ 28 → fm < 2 ^ 28 → Lies g p (joined (vlq t ∷ vlq fm ∷ sized s ∷ []))
      → run (entry_text g before) g p ≡ ok (before ++ joined (vlq t ∷ vlq fm ∷ sized s ∷ [])) (p + length (joined (vlq t ∷ vlq fm ∷ sized s ∷ [])))
  unfolding entry_text sized
  entry-again before p t fm s l k h =
      let ss : List (List ℕ) = vlq t ∷ vlq fm ∷ sized s ∷ [] in
      let w = stand ss h in let u = stand_sized s w.1.1.0 in let y = sized-length s in let z = joined_length ss in
      let i = h.inside in let n : ℕ = length s in
      let e₁ = number-back file_frame 3 (length g) t w.0 l (omega arith) in
      let e₂ = number-back file_frame 3 (length g) fm w.1.0 k (omega arith) in
      let e₃ = block_back file_frame 3 (length g) n u.0 (omega arith) (omega arith) in
      let e₄ : p + length (joined ss) ≡ p + length (vlq t) + length (vlq fm) + length (vlq n) + n = omega arith in
      let c = lies_part u.1 in
      rw e₄ (simp (running, e₁, e₂, e₃, c, append-nil))

  entries-back : (end : ℕ) {ds ds' : List Declared} {ts : List (List ℕ)} → Table ds ds' ts → (p : ℕ) → Lies g p (joined ts) → p + length
      (joined ts) ≤ end → run (times (length ts) (entry end) ds) g p ≡ ok ds' (p + length (joined ts))
  unfolding times
  entries-back end none p h i = let a : p + 0 ≡ p = omega arith in rw a (simp running)
  entries-back end (more {ds} {ds'} {t} {fm} s {ts} room new l k w) p h i =
      let x : List ℕ = joined (vlq t ∷ vlq fm ∷ sized s ∷ []) in
      let z = length-append x (joined ts) in
      let e₁ = entry-back end p ds t fm s room new l k (lies_left x (joined ts) h) (omega arith) in
      let e₂ = entries-back end w (p + length x) (lies_right x (joined ts) h) (omega arith) in
      let a : p + length (x ++ joined ts) ≡ p + length x + length (joined ts) = omega arith in
      rw a (simp (running, e₁, e₂))

  entries-again : {ds ds' : List Declared} {ts : List (List ℕ)} → Table ds ds' ts → (before : List ℕ) (p : ℕ) → Lies g p (joined ts) → run
      (times (length ts) (entry_text g) before) g p ≡ ok (before ++ joined ts) (p + length (joined ts))
  unfolding times
  entries-again none before p h = let a : p + 0 ≡ p = omega arith in rw (a, append-nil before) (simp running)
  entries-again (more {ds} {ds'} {t} {fm} s {ts} room new l k w) before p h =
      let x : List ℕ = joined (vlq t ∷ vlq fm ∷ sized s ∷ []) in
      let z = length-append x (joined ts) in
      let e₁ = entry-again before p t fm s l k (lies_left x (joined ts) h) in
      let e₂ = entries-again w (before ++ x) (p + length x) (lies_right x (joined ts) h) in
      let a : p + length (x ++ joined ts) ≡ p + length x + length (joined ts) = omega arith in
      rw (a, ← append_assoc before x (joined ts)) (simp (running, e₁, e₂))

  module _ {ds : List Declared} {ts : List (List ℕ)} (table : Table [] ds ts) (few : length ts < 2 ^ 28) where
    pub table-back : (size p : ℕ) → Lies g p (sized (joined (vlq (length ts) ∷ ts))) → p + length (sized (joined (vlq (length ts) ∷ ts))) ≤ size
        → run (types_table size) g p ≡ ok ds (p + length (sized (joined (vlq (length ts) ∷ ts))))
    unfolding types_table
    table-back size p h i =
        let c : ℕ = length ts in let t : List ℕ = joined (vlq c ∷ ts) in let n : ℕ = length t in
        let u = stand_sized t h in let y = sized-length t in let z = length-append (vlq c) (joined ts) in
        let q : ℕ = p + length (vlq n) in
        let e₁ = block_back file_frame 3 size n u.0 (omega (arith, h.inside)) (omega arith) in
        let e₂ = number-back file_frame 3 (q + n) c (lies_left (vlq c) (joined ts) u.1) few (omega arith) in
        let e₃ = entries-back (q + n) table (q + length (vlq c)) (lies_right (vlq c) (joined ts) u.1) (omega arith) in
        let k : q + n ≤ q + length (vlq c) + length (joined ts) = omega arith in
        let e₄ : p + length (sized t) ≡ q + length (vlq c) + length (joined ts) = omega arith in
        rw e₄ (simp (running, e₁, e₂, e₃, le-leb _ _ k))

    pub table-again : (size p : ℕ) → size < 2 ^ 28 → Lies g p (vlq size) → Lies g (p + length (vlq size))
        (sized (joined (vlq (length ts) ∷ ts))) → answer (run (table_text g) g p) ≡ joined (vlq (length ts) ∷ ts)
    unfolding table_text
    table-again size p l w h =
        let c : ℕ = length ts in let t : List ℕ = joined (vlq c ∷ ts) in let n : ℕ = length t in
        let u = stand_sized t h in let y = sized-length t in let z = length-append (vlq c) (joined ts) in
        let i = h.inside in let o : ℕ = p + length (vlq size) in let q : ℕ = o + length (vlq n) in
        let e₀ = number-back file_frame 3 (length g) size w l (omega arith) in
        let e₁ = block_back file_frame 3 (length g) n u.0 (omega arith) (omega arith) in
        let e₂ = number-back file_frame 3 (length g) c (lies_left (vlq c) (joined ts) u.1) few (omega arith) in
        let e₃ = entries-again table (vlq c) (q + length (vlq c)) (lies_right (vlq c) (joined ts) u.1) in
        let e : run (table_text g) g p ≡ ok t (q + length (vlq c) + length (joined ts)) = simp (running, e₀, e₁, e₂, e₃) in
        ap answer e

-- ---- an accepted table

module _ (f : List ℕ) (end : ℕ) (o : end ≤ length f) where
  wide : (at : ℕ) {v q : ℕ} → run (number file_frame 3 end) f at ≡ ok v q → run (number file_frame 3 (length f)) f at ≡ ok v q
  wide at e = let i = number-inside file_frame 3 end f at e in number-wider file_frame 3 3 end (length f) f at e (omega arith)

  entry-text : (before : List ℕ) (at : ℕ) {t fm n q r u : ℕ} → run (number file_frame 3 end) f at ≡ ok t q → run (number file_frame 3 end) f q ≡
      ok fm r → run (block file_frame 3 end) f r ≡ ok n u
      → run (entry_text f before) f at ≡ ok (before ++ joined (vlq t ∷ vlq fm ∷ sized (part f u n) ∷ [])) (u + n)
  unfolding entry_text sized
  entry-text before at {n = n} {q = q} {r = r} {u = u} e₁ e₂ e₃ =
      let i = block_inside file_frame 3 end f r e₃ in let a = wide at e₁ in let b = wide q e₂ in
      let c = block-wider file_frame 3 3 end (length f) f r e₃ (omega arith) in
      let z = part_length f u n (omega arith) in
      simp (running, a, b, c, z, append-nil)

-- one entry was read, in no fewer bytes than its text
record EntrySays (f : List ℕ) (end : ℕ) (ds : List Declared) (at : ℕ) (ds' : List Declared) (q : ℕ) : Type 0 where
  type : ℕ
  format : ℕ
  language : List ℕ
  room : length ds < 32
  new : is_unknown (format_of ds type) ≡ true
  type-fits : type < 2 ^ 28
  format-fits : format < 2 ^ 28
  is : ds' ≡ ds ++ (record { type = type; format = format } ∷ [])
  text : (before : List ℕ) → run (entry_text f before) f at ≡ ok (before ++ joined (vlq type ∷ vlq format ∷ sized language ∷ [])) q
  covers : Covers f at (joined (vlq type ∷ vlq format ∷ sized language ∷ [])) q
  inside : q ≤ end

entry-says : (f : List ℕ) (end : ℕ) → end ≤ length f → (ds : List Declared) (at : ℕ) → Post nothing f (entry end ds) (Holds (EntrySays f end ds at)) at tt
unfolding entry
entry-says f end o ds at =
    post_place _ at
    (post_step nothing-quiet λ t q e₁.
    post_check _ _ λ room.
    post_check _ _ λ new.
    post_step nothing-quiet λ fm r e₂.
    post_step nothing-quiet λ n u e₃.
    post_skip _ _ (post_ret (
    let i = number-inside file_frame 3 end f at e₁ in let j = number-inside file_frame 3 end f q e₂ in
    let k = block_inside file_frame 3 end f r e₃ in let z = part_length f u n (omega arith) in
    record {
      type = t;
      format = fm;
      language = part f u n;
      room = ltb-true _ _ room;
      new = new;
      type-fits = i.3;
      format-fits = j.3;
      is = refl;
      text = λ before. entry-text f end o before at e₁ e₂ e₃;
      covers = covers-on (number-covers file_frame 3 end f at e₁)
          (covers-on (number-covers file_frame 3 end f q e₂) (covers-last (sized-covers file_frame 3 end f r e₃ (covers-part f u n))));
      inside = k.2;
    })))

-- n entries were read
record EntriesSay (f : List ℕ) (end n : ℕ) (ds : List Declared) (at : ℕ) (ds' : List Declared) (q : ℕ) : Type 0 where
  texts : List (List ℕ)
  count : length texts ≡ n
  table : Table ds ds' texts
  text : (before : List ℕ) → run (times n (entry_text f) before) f at ≡ ok (before ++ joined texts) q
  covers : Covers f at (joined texts) q
  inside : q ≤ end

times-text : (f : List ℕ) (n : ℕ) (before : List ℕ) (at : ℕ) (s t : List ℕ) {q r : ℕ} → run (entry_text f before) f at ≡ ok (before ++ s) q →
    run (times n (entry_text f) (before ++ s)) f q ≡ ok (before ++ s ++ t) r
    → run (times (suc n) (entry_text f) before) f at ≡ ok (before ++ (s ++ t)) r
unfolding times
times-text f n before at s t e₁ e₂ = rw (← append_assoc before s t) (simp (running, e₁, e₂))

entries-say : (f : List ℕ) (end : ℕ) → end ≤ length f → (n : ℕ) (ds : List Declared) (at : ℕ) → at ≤ end → Post nothing f
    (times n (entry end) ds) (Holds (EntriesSay f end n ds at)) at tt
unfolding times
entries-say f end o zero ds at l = post_ret
    (record {
      texts = [];
      count = refl;
      table = none;
      text = λ before. rw (append-nil before) (simp running);
      covers = covers-none at;
      inside = l;
    })
entries-say f end o (suc n) ds at l =
    post_after (entry-says f end o ds at) λ ds₁ q _ s.
    post_weaken (entries-say f end o n ds₁ q s.inside) λ ds₂ r _ w.
    let x : List ℕ = joined (vlq s.type ∷ vlq s.format ∷ sized s.language ∷ []) in
    record {
      texts = x ∷ w.texts;
      count = ap suc w.count;
      table = more s.language s.room s.new s.type-fits s.format-fits (subst (λ v. Table v ds₂ w.texts) s.is w.table);
      text = λ before. times-text f n before at x (joined w.texts) (s.text before) (w.text (before ++ x));
      covers = covers-on s.covers w.covers;
      inside = w.inside;
    }

-- the table of a file
pub record TableSays (f : List ℕ) (at : ℕ) (ds : List Declared) (q : ℕ) : Type 0 where
  pub texts : List (List ℕ)
  pub table : Table [] ds texts
  pub few : length texts < 2 ^ 28
  pub covers : Covers f at (sized (joined (vlq (length texts) ∷ texts))) q
  pub text : (p : ℕ) {size : ℕ} → run (number file_frame 3 (length f)) f p ≡ ok size at → run (table_text f) f p ≡ ok (joined (vlq (length texts) ∷ texts)) q

table-text : (f : List ℕ) (p at : ℕ) {size n count q r u : ℕ} {s : List ℕ} → run (number file_frame 3 (length f)) f p ≡ ok size at → run
    (block file_frame 3 (length f)) f at ≡ ok n q → run (number file_frame 3 (length f)) f q ≡ ok count r
    → run (times count (entry_text f) (vlq count)) f r ≡ ok s u → run (table_text f) f p ≡ ok s u
unfolding table_text
table-text f p at e₀ e₁ e₂ e₃ = simp (running, e₀, e₁, e₂, e₃)

pub table-says : (f : List ℕ) (at : ℕ) → Post nothing f (types_table (length f)) (Holds (TableSays f at)) at tt
unfolding types_table
table-says f at =
    post_step nothing-quiet λ n q e₁.
    post_place _ q
    (post_step nothing-quiet λ count r e₂.
    let i = block_inside file_frame 3 (length f) f at e₁ in let j = number-inside file_frame 3 (q + n) f q e₂ in
    post_after (entries-say f (q + n) (omega arith) count [] r j.2) λ ds u _ w.
    post_place _ u
    (post_check _ _ λ full.
    post_ret (record {
      texts = w.texts;
      table = w.table;
      few = omega (arith, w.count);
      covers = (
          let z : u ≡ q + n = omega (arith, w.inside, leb-true (q + n) u full) in
          covers-to (sym z) (sized-covers file_frame 3 (length f) f at e₁
          (covers-to z (covers-on (covers-as (ap vlq (sym w.count)) (number-covers file_frame 3 (q + n) f q e₂)) w.covers))));
      text = λ p e₀. rw w.count (table-text f p at e₀ e₁ (wide f (q + n) (omega arith) q e₂) (w.text (vlq count)));
    })))
