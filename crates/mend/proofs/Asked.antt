-- The call: what is known once the fields are read, and what each way out comes to.
-- Assumes nothing.
use Rattle.std.proofs.Common.{Ok, Err}
use Rattle.std.proofs.Common as std
use mathlib.Core.Path.{◌≡◌, refl, sym, ap, ◌∙◌, subst}
use mathlib.Core.Bool.{Bool, true, false, cond, ◌&&◌, false≢true}
use mathlib.Core.List.{List}
use Prim.Native.Nat.{ℕ, ◌+◌, ◌-◌, ◌≤◌}
use native.Mathlib.Omega.{arith}
use lib.Dec.{leb}
use lib.ListN.{length, replicate}
use borrow.Author.Tests.{leb-true, ltb-true, le-leb, lt-ltb}
use Rattle.machine.specs.Machine.{Out, ok, refused, run}
use Rattle.refusals.specs.Reasons.{number_of}
use Rattle.refusals.specs.declared.Refusal.{Refusal}
use Rattle.machine.proofs.Laws.{never}
use Rattle.metadata.specs.Tables.{limits}
use Rattle.metadata.specs.declared.Limits.{Limits}
use Rattle.room.specs.Room.{Result, good, bad, kept}
use Rattle.file.specs.Reading.{Reading, rows, refusal, read_tree, read_file, read_of, node_table, item_table}
use Rattle.file.specs.Asking.{written_nodes, written_items}
use Rattle.file.specs.declared.Summary.{Summary}
use Rattle.refusals.specs.Told as answered
use Rattle.file.proofs.Rows.{reads-refused}
use Rattle.mend.specs.Fields.{Fields, fields}
use Rattle.mend.specs.Mend.{set_to, number_at, last_of, both_lines, mended, changes, lines_of, Mended, fitting, accepted, mend}
use Rattle.mend.specs.declared.Fields as code
use Rattle.mend.specs.Told.{fields_of, fields_told, FewTypes, FieldsIn, sound_for, setting, Sizes, sizes_of, copy_in, lines_in, kept_as, Set, Ends}
use Rattle.mend.proofs.Parts.{places, fields-parts, header_for}
use Rattle.mend.proofs.Theorem.{Sound, mended-set, mended-is, mended-sound, mended-reads}

-- ---- the fields, from the call that read them

module _ (r : std.Result code.Fields Refusal) (ws : List ℕ) {o : Out Fields} (told : fields_told r ws ≡ o) where
  pub fields-are : {w : code.Fields} → r ≡ Ok w → o ≡ ok (fields_of w ws) w.last.end.0
  fields-are e = sym told ∙ ap (λ x. fields_told x ws) e

  pub fields-no : {e : Refusal} → r ≡ Err e → o ≡ refused (number_of e.0) e.1
  fields-no e = sym told ∙ ap (λ x. fields_told x ws) e

pub few : {r : std.Result code.Fields Refusal} {w : code.Fields} → FewTypes r → r ≡ Ok w → w.types ≤ 32
few f e = rw e at f

pub fields_in : (f : List ℕ) {w : Fields} {q : ℕ} → run (fields (length f)) f 0 ≡ ok w q → FieldsIn w (length f)
fields_in f e =
    let z = places (length f) f (fields-parts (length f) f e).0 in
    let t = z.types-some in let s = z.start-some in
    record {
      length_some = z.length_some;
      length-few = z.length-few;
      apart = omega arith;
      last_some = z.last_some;
      last-few = z.last-few;
      inside = z.inside;
      start_small = z.start_small;
      small = z.small;
    }

-- they do not hang on the types
pub any_types : (w : code.Fields) (ws vs : List ℕ) {n : ℕ} → FieldsIn (fields_of w ws) n → FieldsIn (fields_of w vs) n
any_types w ws vs x = record {
  length_some = x.length_some;
  length-few = x.length-few;
  apart = x.apart;
  last_some = x.last_some;
  last-few = x.last-few;
  inside = x.inside;
  start_small = x.start_small;
  small = x.small;
}

pub last-is : (f : List ℕ) (w : Fields) {b : ℕ} → b ≡ w.start + number_at f w.start - 1 → b ≡ last_of f w
unfolding last_of
last-is f w e = e

-- ---- what is asked of the values

both : (a b : Bool) → (a && b) ≡ true → (a ≡ true) × (b ≡ true)
both true b e = (refl, e)
both false b e = absurd (false≢true e)

pub sound_facts : (size : ℕ) (w : Fields) (b : ℕ) → sound_for size w b ≡ true → Sound size w b
unfolding sound_for
sound_facts size w b e =
    let (a₁, e₁) = both _ _ e in let (a₂, e₂) = both _ _ e₁ in let (a₃, e₃) = both _ _ e₂ in
    let (a₄, a₅) = both _ _ e₃ in
    record { holds = (ltb-true _ _ a₁, ltb-true _ _ a₂); after = leb-true _ _ a₃; ordered = leb-true _ _ a₄; inside = ltb-true _ _ a₅ }

facts-sound : (size : ℕ) (w : Fields) (b : ℕ) → Sound size w b → sound_for size w b ≡ true
unfolding sound_for
facts-sound size w b x = simp (lt-ltb _ _ x.holds.0, lt-ltb _ _ x.holds.1, le-leb _ _ x.after, le-leb _ _ x.ordered, lt-ltb _ _ x.inside)

-- ---- no values mend the file

-- what would follow if it were accepted cannot be
none-mends : (lim : Limits) (f : List ℕ) → (accepted (read_file lim (mended f)) ≡ true → ⊥) → accepted (read_file lim (mended f)) ≡ false
none-mends lim f cannot = by (accepted (read_file lim (mended f))) refl
  where
    by : (b : Bool) → accepted (read_file lim (mended f)) ≡ b → b ≡ false
    by true e = absurd (cannot e)
    by false e = refl

pub refused-fields : (lim : Limits) (f : List ℕ) {n p : ℕ} → run (fields (length f)) f 0 ≡ refused n p → accepted (read_file lim (mended f)) ≡ false
refused-fields lim f r = none-mends lim f (λ e. never (sym r ∙ (mended-is lim f e).reads))

-- tables of the same lengths
pub lens : (f : List ℕ) {a b c d : ℕ} → a ≡ c → b ≡ d → accepted (read_file (limits c d) (mended f)) ≡ false → accepted (read_file (limits a b) (mended f)) ≡ false
lens f e k x = rw (e, k) x

pub ends_lens : (f : List ℕ) {a b c d room space : ℕ} {r : Result Sizes} {t u x y : List ℕ} → a ≡ c → b ≡ d → Ends f a b room space r t u x y → Ends f c d room space r t u x y
ends_lens f {a} {b} {c} {d} {room} {space} {r} {t} {u} {x} {y} e k z = subst (λ v. Ends f v d room space r t u x y) e (subst (λ v. Ends f a v room space r t u x y) k z)

module _ (lim : Limits) (f : List ℕ) {w : Fields} {q : ℕ} (e : run (fields (length f)) f 0 ≡ ok w q) {b : ℕ} (i : b ≡ last_of f w) where
  pub unsound : sound_for (length f) w b ≡ false → accepted (read_file lim (mended f)) ≡ false
  unsound k = none-mends lim f (λ a. false≢true (sym k ∙ facts-sound (length f) w b (subst (Sound (length f) w) (sym i) (mended-sound lim f (fields-parts (length f) f e).0 a))))

  -- the mended file, read from the unchanged one's bytes
  pub reads-behind : sound_for (length f) w b ≡ true → read_file lim (mended f) ≡ read_tree lim f (ok (header_for w b) w.last.end)
  reads-behind k =
      subst (λ c. read_file lim (mended f) ≡ read_tree lim f (ok (header_for w c) w.last.end)) (sym i)
      (mended-reads lim f (fields-parts (length f) f e).0 (subst (Sound (length f) w) i (sound_facts (length f) w b k)))

  module _ (k : sound_for (length f) w b ≡ true) {r : std.Result Summary Refusal} (a : answered.told r ≡ read_of (read_tree lim f (ok (header_for w b) w.last.end))) where
    -- it is refused behind its header
    pub lost_behind : {q : Refusal} → r ≡ Err q → accepted (read_file lim (mended f)) ≡ false
    lost_behind d = ap accepted (reads-behind k ∙ reads-refused (read_tree lim f (ok (header_for w b) w.last.end)) a d)

    -- it is accepted
    taken : {s : Summary} → r ≡ Ok s → accepted (read_file lim (mended f)) ≡ true
    unfolding read_of
    taken {s} d = by (read_tree lim f (ok (header_for w b) w.last.end)) (reads-behind k) (ap answered.told (sym d) ∙ a)
      where
        by : (o : Reading) → read_file lim (mended f) ≡ o → good s ≡ read_of o → accepted (read_file lim (mended f)) ≡ true
        by (rows h ns is) x y = ap accepted x
        by (refusal m j) x y = cc

    -- and then the question is what is set
    asked_is : {s : Summary} → r ≡ Ok s → (room space : ℕ) → mend lim room space f ≡ setting room space f w b
    unfolding mend changes lines_of
    asked_is d room space = let m = mended-set f (fields-parts (length f) f e).0 in rw (taken d, m, e, i) refl

module _ (f : List ℕ) (nsize isize room space : ℕ) {w : Fields} {q : ℕ} (e : run (fields (length f)) f 0 ≡ ok w q) {b : ℕ}
    (i : b ≡ last_of f w) (k : sound_for (length f) w b ≡ true) {r : std.Result Summary Refusal}
    (a : answered.told r ≡ read_of (read_tree (limits nsize isize) f (ok (header_for w b) w.last.end))) where
  pub ends_set : {s : Summary} → r ≡ Ok s → {t u : List ℕ} → t ≡ node_table nsize
      (read_tree (limits nsize isize) f (ok (header_for w b) w.last.end)) → u ≡ item_table isize
      (read_tree (limits nsize isize) f (ok (header_for w b) w.last.end))
      → length t ≡ nsize → length u ≡ isize → {y : Result Sizes} {t' u' c l : List ℕ} → Set f w b y t u room space t' u' c l → Ends f nsize isize room space y t' u' c l
  unfolding written_nodes written_items fitting
  ends_set d {t} {u} x y lt lu z =
      let lim = limits nsize isize in let g = asked_is lim f e i k a d room space in
      let same = by (leb (length (set_to f w (length f) b)) room && leb (length (both_lines w.length w.last (length f) b)) space) in
      record {
        answer = z.answer ∙ ap sizes_of (sym g);
        nodes = z.nodes ∙ same.0 ∙ ap (λ m. written_nodes nsize lim (copy_in m)) (sym g);
        items = z.items ∙ same.1 ∙ ap (λ m. written_items isize lim (copy_in m)) (sym g);
        copy = z.copy ∙ ap (λ m. kept room (copy_in m)) (sym g);
        lines = z.lines ∙ ap (λ m. kept space (lines_in m)) (sym g);
      }
    where
      set : Mended
      set = record { copy = set_to f w (length f) b; lines = both_lines w.length w.last (length f) b }

      reads : read_tree (limits nsize isize) f (ok (header_for w b) w.last.end) ≡ read_file (limits nsize isize) (set_to f w (length f) b)
      reads = sym (reads-behind (limits nsize isize) f e i k) ∙ ap (read_file (limits nsize isize))
          (mended-set f (fields-parts (length f) f e).0 ∙ ap (set_to f w (length f)) (sym i))

      by : (c : Bool) → (kept_as t (cond c (good set) (bad 22 0)) ≡ written_nodes nsize (limits nsize isize) (copy_in (cond c (good set) (bad 22 0))))
          × (kept_as u (cond c (good set) (bad 22 0)) ≡ written_items isize (limits nsize isize) (copy_in (cond c (good set) (bad 22 0))))
      by true = (x ∙ ap (node_table nsize) reads, y ∙ ap (item_table isize) reads)
      by false = (ap (λ j. replicate j 0) lt, ap (λ j. replicate j 0) lu)
