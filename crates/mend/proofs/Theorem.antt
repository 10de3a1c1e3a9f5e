-- Mending is refused exactly when no values of the two fields make an accepted file, and then as the unchanged file is; whatever was written over the two fields, the mended file is the same.
-- Assumes nothing.
use mathlib.Core.Path.{◌≡◌, refl, sym, ap, ◌∙◌, subst}
use mathlib.Core.Bool.{Bool, true, false, cond, ◌&&◌, false≢true}
use mathlib.Core.Logic.{◌⊎◌, inl, inr}
use mathlib.Core.List.{List, []}
use Prim.Native.Nat.{ℕ, ◌+◌, ◌-◌, ◌^◌, ◌≤◌, ◌<◌}
use native.Mathlib.Omega.{arith}
use lib.Dec.{leb}
use lib.ListN.{length, get_or}
use borrow.Author.Tests.{eq-eqb, le-leb, lt-leb}
use Rattle.machine.specs.Machine.{Out, ok, refused, run}
use Rattle.cursor.specs.Rows.{file_frame}
use Rattle.cursor.specs.declared.Node.{Node}
use Rattle.cursor.specs.declared.Item.{Item}
use Rattle.machine.proofs.Laws.{never}
use Rattle.header.specs.Header.{Header, header}
use Rattle.metadata.specs.declared.Limits.{Limits}
use Rattle.file.specs.Reading.{Reading, rows, refusal, read_tree, read_file}
use Rattle.file.specs.Asking.{good, bad, ask}
use Rattle.file.proofs.Follow.{read_back}
use Rattle.mend.specs.Fields.{width, Fields, fields, Hold}
use Rattle.mend.specs.Mend.{with_field, set_to, last_of, set_right, mended, line, both_lines, lines_of, changes, Mended, repair, fitting, accepted, mend, Mendable}
use Rattle.mend.proofs.Bytes.{number_fits, fitted}
use Rattle.mend.proofs.Parts.{Parts, places, fields-parts, parts_fields, Judged, header_for, header-parts, parts_header, valued, Valued, valued-parts}
use Rattle.mend.proofs.Values.{set-length, set_out, set-valued, set-again, own-values}
use Rattle.mend.proofs.Exact.{numbers-same, same-fields, Right, right, exact}
use Rattle.mend.proofs.Agree.{agree}

-- ---- what is accepted

pub read-rows : (o : Reading) → accepted o ≡ true → (h : Header) × (ns : List Node) × (is : List Item) × (o ≡ rows h ns is)
read-rows (rows h ns is) e = (h, ns, is, refl)
read-rows (refusal n p) e = absurd (false≢true e)

-- what is asked of the right values before the file is read behind its header
pub record Sound (size : ℕ) (w : Fields) (b : ℕ) : Type 0 where
  pub holds : Hold w size b
  pub after : w.last.end ≤ w.start
  pub ordered : w.start ≤ b
  pub inside : b < size

-- both set right, where the two can be read
pub mended-set : (f : List ℕ) {w : Fields} → Parts (length f) f w → mended f ≡ set_to f w (length f) (last_of f w)
unfolding mended set_right
mended-set f x = rw (parts_fields (length f) f x) refl

pub mended-length : (f : List ℕ) → length (mended f) ≡ length f
unfolding mended set_right
mended-length f = by (run (fields (length f)) f 0)
  where
    by : (o : Out Fields) → length (set_right f o) ≡ length f
    by (ok w p) = set-length f w (length f) (last_of f w)
    by (refused n p) = refl

-- an accepted file has its own values
self : {f : List ℕ} {w : Fields} → Parts (length f) f w → Valued (length f) f f w w.length.value w.last.value
self x = record { same = λ k e. refl; length-is = x.length-is; last-is = x.last-is }

module _ (lim : Limits) (f : List ℕ) where
  -- ---- the mended file is read from the unchanged one's bytes, under the header set right

  pub mended-reads : {w : Fields} → Parts (length f) f w → Sound (length f) w (last_of f w) → read_file lim (mended f) ≡ read_tree lim f (ok (header_for w (last_of f w)) w.last.end)
  unfolding read_file
  mended-reads {w} x s =
      let b = last_of f w in let g = set_to f w (length f) b in let n = set-length f w (length f) b in
      let v = set-valued (places (length f) f x) f refl (length f) b s.holds in
      let j : Judged (length f) (valued w (length f) b) = record { long = refl; after = s.after; ordered = s.ordered; inside = s.inside } in
      let h : run (header (length g)) g 0 ≡ ok (header_for w b) w.last.end = subst
      (λ k. run (header k) g 0 ≡ ok (header_for w b) w.last.end) (sym n) (parts_header (length f) g (valued-parts (length f) f g x v) j) in
      rw (mended-set f x) (ap (read_tree lim g) h ∙ sym (agree lim f g (sym n) (header_for w b) s.after s.ordered s.inside (λ k l. v.same k (inr (inr l))) w.last.end))

  -- where it is accepted, the right values are sound
  pub mended-sound : {w : Fields} → Parts (length f) f w → accepted (read_file lim (mended f)) ≡ true → Sound (length f) w (last_of f w)
  unfolding set_to with_field
  mended-sound {w} x e =
      let z = places (length f) f x in
      let l = z.length_some in let m = z.length-few in let o = z.last_some in let p = z.last-few in
      let b = last_of f w in
      let (c, fc, ec) = fitted (width w.length) (length f) (omega arith) (omega arith) in
      let (d, fd, ed) = fitted (width w.last) b (omega arith) (omega arith) in
      let s : mended f ≡ set_to f w c d = mended-set f x ∙ rw (ec, ed) refl in
      let (h, ns, is, r) = read-rows (read_file lim (set_to f w c d)) (subst (λ g. accepted (read_file lim g) ≡ true) s e) in
      let y = right lim f x (set_to f w c d) (set-length f w c d) (set-valued z f refl c d (fc, fd)) {h = h} {ns = ns} {is = is} r in
      record {
        holds = (subst (λ k. k < 128 ^ width w.length) y.long fc, subst (λ k. k < 128 ^ width w.last) y.last fd);
        after = y.after;
        ordered = subst (λ k. w.start ≤ k) y.last y.ordered;
        inside = subst (λ k. k < length f) y.last y.inside;
      }

  -- ---- a file that is accepted as it is

  module _ {h : Header} {ns : List Node} {is : List Item} (e : read_file lim f ≡ rows h ns is) where
    -- its fields can be read, and its values are the right ones
    pub accepted-right : (w : Fields) × Parts (length f) f w × Judged (length f) w × (h ≡ header_for w w.last.value) × Right f w w.length.value w.last.value
    accepted-right = let (w, x, j, s) = header-parts (length f) f (read_back lim f e).header_is in (w, x, j, s, right lim f x f refl (self x) e)

    -- it is accepted when mended, with the same rows
    pub still : read_file lim (mended f) ≡ rows h ns is
    unfolding read_file
    still =
        let (w, x, j, s, r) = accepted-right in
        let fa : length f < 128 ^ width w.length = subst (λ k. k < 128 ^ width w.length) r.long (number_fits file_frame 3 (length f) f w.length.place x.length-is) in
        let fb : last_of f w < 128 ^ width w.last = subst (λ k. k < 128 ^ width w.last) r.last (number_fits file_frame 3 (length f) f w.last.place x.last-is) in
        let v = r.last in
        mended-reads x (record { holds = (fa, fb); after = r.after; ordered = omega (arith, r.ordered); inside = omega (arith, r.inside) })
        ∙ ap (λ b. read_tree lim f (ok (header_for w b) w.last.end)) (sym v) ∙ ap (read_tree lim f) (sym (parts_header (length f) f x j)) ∙ e

    -- and a file of bytes is its own mended file
    pub stays : ((k : ℕ) → get_or f k 0 < 256) → mended f ≡ f
    stays bytes =
        let (w, x, j, s, r) = accepted-right in
        mended-set f x ∙ rw (← r.long, ← r.last) (own-values f x bytes)

    -- no line tells of it
    pub unchanged : changes f ≡ []
    unfolding changes lines_of both_lines line
    unchanged =
        let (w, x, j, s, r) = accepted-right in
        rw (parts_fields (length f) f x, eq-eqb w.length.value (length f) r.long, eq-eqb w.last.value (last_of f w) r.last) refl

  -- ---- exactness

  pub mends : Mendable lim f → accepted (read_file lim (mended f)) ≡ true
  mends m =
      let x = (fields-parts (length f) f m.reads).0 in
      let (h, ns, is, e) = read-rows (read_file lim (set_to f m.w m.a m.b)) m.accepts in
      subst (λ g. accepted (read_file lim g) ≡ true) (exact lim f x m.a m.b m.hold e) m.accepts

  pub mended-is : accepted (read_file lim (mended f)) ≡ true → Mendable lim f
  unfolding mended set_right
  mended-is e = by (run (fields (length f)) f 0) refl e
    where
      by : (o : Out Fields) → run (fields (length f)) f 0 ≡ o → accepted (read_file lim (set_right f o)) ≡ true → Mendable lim f
      by (ok w q) r a =
          let x = (fields-parts (length f) f r).0 in
          record { w = w; next = q; reads = r; a = length f; b = last_of f w; hold = (mended-sound x e).holds; accepts = a }
      by (refused n p) r a =
          let (h, ns, is, y) = read-rows (read_file lim f) a in let (w, x, j, s, v) = accepted-right y in
          absurd (never (sym r ∙ parts_fields (length f) f x))

  pub mend-good : Mendable lim f → (room space : ℕ) → mend lim room space f ≡ fitting room space (repair f)
  unfolding mend
  mend-good m room space = rw (mends m) refl

  -- the file's own refusal
  pub mend-bad : (Mendable lim f → ⊥) → (n : ℕ) × (p : ℕ) × (read_file lim f ≡ refusal n p) × ((room space : ℕ) → mend lim room space f ≡ bad n p)
  unfolding mend ask
  mend-bad none = by (read_file lim f) refl
    where
      no : accepted (read_file lim (mended f)) ≡ false
      no = is (accepted (read_file lim (mended f))) refl
        where
          is : (b : Bool) → accepted (read_file lim (mended f)) ≡ b → b ≡ false
          is true e = absurd (none (mended-is e))
          is false e = refl

      by : (o : Reading) → read_file lim f ≡ o → (n : ℕ) × (p : ℕ) × (read_file lim f ≡ refusal n p) ×
          ((room space : ℕ) → cond (accepted (read_file lim (mended f))) (fitting room space (repair f))
          (ask (read_file lim f) (λ h ns is. fitting room space (repair f))) ≡ bad n p)
      by (refusal n p) r = (n, p, r, λ room space. rw (no, r) refl)
      by (rows h ns is) r = absurd (none (mended-is (ap accepted (still r))))

  pub mendable : Mendable lim f ⊎ (Mendable lim f → ⊥)
  mendable = by (accepted (read_file lim (mended f))) refl
    where
      by : (b : Bool) → accepted (read_file lim (mended f)) ≡ b → Mendable lim f ⊎ (Mendable lim f → ⊥)
      by true e = inl (mended-is e)
      by false e = inr (λ m. false≢true (sym e ∙ mends m))

-- ---- room

module _ (room space : ℕ) (m : Mended) where
  pub fits-good : length m.copy ≤ room → length m.lines ≤ space → fitting room space m ≡ good m
  unfolding fitting
  fits-good a b = rw (le-leb (length m.copy) room a, le-leb (length m.lines) space b) refl

  pub fits-bad : (room < length m.copy) ⊎ (space < length m.lines) → fitting room space m ≡ bad 22 0
  unfolding fitting
  fits-bad (inl a) = rw (lt-leb (length m.copy) room a) refl
  fits-bad (inr b) = by (leb (length m.copy) room)
    where
      by : (c : Bool) → cond (c && leb (length m.lines) space) (good m) (bad 22 0) ≡ bad 22 0
      by true = rw (lt-leb (length m.lines) space b) refl
      by false = refl

-- an answer is the mended file, which is accepted
pub mend-answered : (lim : Limits) (room space : ℕ) (f : List ℕ) {m : Mended} → mend lim room space f ≡ good m → (repair f ≡ m) × (accepted (read_file lim (mended f)) ≡ true)
unfolding fitting
mend-answered lim room space f {m} e = elim (mendable lim f) [
  | inl d ↦ (by (leb (length (mended f)) room && leb (length (changes f)) space) (sym (mend-good lim f d room space) ∙ e), mends lim f d)
  | inr none ↦ (let (n, p, r, is) = mend-bad lim f none in absurd (refuses (sym (is room space) ∙ e)))
]
  where
    refuses : {A : Type 0} {n p : ℕ} {a : A} → bad n p ≡ good a → ⊥
    refuses z = let y : ◌≡◌ {A = ℕ} 0 1 = cc in omega arith

    by : (b : Bool) → cond b (good (repair f)) (bad 22 0) ≡ good m → repair f ≡ m
    by true z = cc
    by false z = absurd (refuses z)

-- ---- whatever the two fields say, the mended file is the same

module _ (f : List ℕ) {w : Fields} (x : Parts (length f) f w) (after : w.last.end ≤ w.start) (a b : ℕ) (hold : Hold w a b) where
  -- the fields, once they are set
  set-parts : Parts (length (set_to f w a b)) (set_to f w a b) (valued w a b)
  set-parts = rw (set-length f w a b) (valued-parts (length f) f (set_to f w a b) x (set-valued (places (length f) f x) f refl a b hold))

  set_last : last_of (set_to f w a b) (valued w a b) ≡ last_of f w
  unfolding last_of
  set_last =
      let same = numbers-same (set_to f w a b) f w.start (set-length f w a b) (λ k l. set_out (places (length f) f x) f refl a b k (inr (inr (omega arith)))) in
      ap (λ n. w.start + n - 1) same

  pub any_values : mended (set_to f w a b) ≡ mended f
  unfolding set_to with_field
  any_values =
      let g = set_to f w a b in
      mended-set g set-parts ∙ rw (set-length f w a b, set_last) (set-again (places (length f) f x) f refl a b (length f) (last_of f w)) ∙ sym (mended-set f x)

  -- where they are the right ones, no line tells of them
  pub no_line : a ≡ length f → b ≡ last_of f w → changes (set_to f w a b) ≡ []
  unfolding changes lines_of both_lines line
  no_line d e =
      let n : a ≡ length (set_to f w a b) = d ∙ sym (set-length f w a b) in
      let m : b ≡ last_of (set_to f w a b) (valued w a b) = e ∙ sym set_last in
      rw (parts_fields (length (set_to f w a b)) (set_to f w a b) set-parts, eq-eqb a (length (set_to f w a b)) n, eq-eqb b (last_of (set_to f w a b) (valued w a b)) m) refl

-- so mending again changes nothing, and gives no line
module _ (lim : Limits) (f : List ℕ) (e : accepted (read_file lim (mended f)) ≡ true) where
  pub mended-again : (mended (mended f) ≡ mended f) × (changes (mended f) ≡ [])
  mended-again =
      let m = mended-is lim f e in let x = (fields-parts (length f) f m.reads).0 in let s = mended-sound lim f x e in
      let b = last_of f m.w in
      rw (mended-set f x) (any_values f x s.after (length f) b s.holds ∙ mended-set f x, no_line f x s.after (length f) b s.holds refl refl)

-- and an accepted file of bytes is restored, whatever was written over its two fields
pub restores : (lim : Limits) (g : List ℕ) → ((k : ℕ) → get_or g k 0 < 256) → {h : Header} {ns : List Node} {is : List Item} → read_file lim g ≡ rows h ns is
    → {w : Fields} {q : ℕ} → run (fields (length g)) g 0 ≡ ok w q → (a b : ℕ) → Hold w a b → mended (set_to g w a b) ≡ g
restores lim g bytes e {w} {q} r a b hold =
    let (v, x, j, s, t) = accepted-right lim g e in
    let i : v ≡ w = same-fields (sym (parts_fields (length g) g x) ∙ r) in
    any_values g (subst (Parts (length g) g) i x) (subst (λ u. u.last.end ≤ u.start) i t.after) a b hold ∙ stays lim g e bytes
