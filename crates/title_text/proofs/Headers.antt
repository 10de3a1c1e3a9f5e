-- The file header that was written is read back; what an accepted header says is such a header.
-- Assumes nothing.
use mathlib.Core.Path.{◌≡◌, refl, sym, ap, ◌∙◌, subst}
use mathlib.Core.Logic.{◌⊎◌, inl, inr}
use mathlib.Core.Bool.{Bool, true, false, cond}
use mathlib.Core.List.{List, [], ◌∷◌}
use Prim.Native.Nat.{ℕ, ◌+◌, ◌*◌, ◌^◌, ◌≤◌, ◌<◌}
use native.Mathlib.Omega.{arith}
use lib.Dec.{eqb}
use lib.ListN.{length, get_or}
use borrow.Author.Tests.{leb-true, eqb-true, eqb-false, lt-ltb, le-leb, eq-eqb, ne_eqb}
use Rattle.machine.specs.Machine.{ok, run, check, ◌>>◌}
use Rattle.cursor.specs.Rows.{Frame, Part, file_frame}
use Rattle.cursor.specs.Leaves.{next, number}
use Rattle.room.specs.Parts.{joined}
use Rattle.vlq.specs.Vlq.{vlq, sized}
use Rattle.machine.proofs.Laws.{running}
use Rattle.machine.proofs.Wp.{at_end}
use Rattle.cursor.proofs.Leaves.{any_free}
use Rattle.room.proofs.Lies.{Lies}
use Rattle.vlq.proofs.Back.{number-back}
use Rattle.cursor.proofs.Post.{Post, post_after, post_run, post_step, post_ret, post_refuse, post_if, post_check, post_place}
use Rattle.cursor.proofs.Runs.{nothing, nothing-quiet, Holds, post_ran}
use Rattle.header.specs.Types.{Declared}
use Rattle.header.specs.Header.{four, opening, Edition, edition, file_length, types_table, Extent, extent, Header, header}
use Rattle.header.proofs.Ends.{four-on, extent-on}
use Rattle.title_text.specs.Description.{opening_size, table_text}
use Rattle.title_text.proofs.Covers.{Covers, Number, number_is}
use Rattle.title_text.proofs.Tables.{Table, table-says}

-- ---- four bytes as one number

abbrev pub four_at : List ℕ → ℕ → ℕ
four_at f at = ((get_or f at 0 * 256 + get_or f (at + 1) 0) * 256 + get_or f (at + 1 + 1) 0) * 256 + get_or f (at + 1 + 1 + 1) 0

module _ (past end : ℕ) (f : List ℕ) (at : ℕ) where
  four-run : at + 4 ≤ end → run (four past end) f at ≡ ok (four_at f at) (at + 4)
  unfolding four next
  four-run l =
      let l₀ : at < end = omega arith in let l₁ : at + 1 < end = omega arith in
      let l₂ : at + 1 + 1 < end = omega arith in let l₃ : at + 1 + 1 + 1 < end = omega arith in
      let e : at + 1 + 1 + 1 + 1 ≡ at + 4 = omega arith in
      simp (running, lt-ltb _ _ l₀, lt-ltb _ _ l₁, lt-ltb _ _ l₂, lt-ltb _ _ l₃, e)

  four-was : {v q : ℕ} → run (four past end) f at ≡ ok v q → (v ≡ four_at f at) × (q ≡ at + 4) × (q ≤ end)
  four-was {v} {q} e =
      let w = at_end any_free f (four-on past end at) e in
      let z : ok (four_at f at) (at + 4) ≡ ok v q = sym (four-run (omega arith)) ∙ e in
      (cc, w.0, w.1)

four_same : (f g : List ℕ) (at : ℕ) → ((k : ℕ) → k < at + 4 → get_or f k 0 ≡ get_or g k 0) → four_at f at ≡ four_at g at
four_same f g at h = rw (h at (omega arith), h (at + 1) (omega arith), h (at + 1 + 1) (omega arith), h (at + 1 + 1 + 1) (omega arith)) refl

-- ---- magic, version, type and revision

abbrev IsVersion : (version word : ℕ) → Type 0
IsVersion v w = ((v ≡ 100) × (w ≡ 0x312E3030)) ⊎ ((v ≡ 101) × (w ≡ 0x312E3031)) ⊎ ((v ≡ 200) × (w ≡ 0x322E3030))

-- the file begins with that version, and type and revision if it has them
pub record Opened (f : List ℕ) (v : ℕ) (e : Edition) : Type 0 where
  magic : four_at f 0 ≡ 0x584D465F
  version : IsVersion v (four_at f 4)
  edition : ((v ≡ 200) × (e ≡ record { type = four_at f 8; revision = four_at f 12 })) ⊎ (((v ≡ 200) → ⊥) × (e ≡ record { type = 0; revision = 0 }))

size-two : (v : ℕ) → v ≡ 200 → opening_size v ≡ 16
size-two v e = rw e refl

size-one : (v : ℕ) → ((v ≡ 200) → ⊥) → opening_size v ≡ 8
size-one v n = rw (ne_eqb _ _ n) refl

pub size-least : (v : ℕ) → (8 ≤ opening_size v) × (opening_size v ≤ 16)
size-least v = by (eqb v 200)
  where
    by : (b : Bool) → (8 ≤ cond b 16 8) × (cond b 16 8 ≤ 16)
    by true = (omega arith, omega arith)
    by false = (omega arith, omega arith)

-- it is the first bytes alone that say so
pub opened_same : {f g : List ℕ} {v : ℕ} {e : Edition} → Opened f v e → ((k : ℕ) → k < opening_size v → get_or f k 0 ≡ get_or g k 0) → Opened g v e
opened_same {f} {g} {v} {e} o h =
    let s = size-least v in
    record {
      magic = sym (four_same f g 0 (λ k l. h k (omega arith))) ∙ o.magic;
      version = subst (IsVersion v) (four_same f g 4 (λ k l. h k (omega arith))) o.version;
      edition = elim o.edition [
        | inl (t, x) ↦
            let z = size-two v t in
            inl (t, x ∙ rw (four_same f g 8 (λ k l. h k (omega arith)), four_same f g 12 (λ k l. h k (omega arith))) refl)
        | inr x ↦ inr x
      ];
    }

pub opening-back : (g : List ℕ) (size : ℕ) {v : ℕ} {e : Edition} → Opened g v e → 8 ≤ size → size < 2 ^ 28 → run (opening size) g 0 ≡ ok v 8
unfolding opening
opening-back g size {v} o l s =
    let e₁ : run (four 1 size) g 0 ≡ ok 0x584D465F 4 = four-run 1 size g 0 (omega arith) ∙ ap (λ w. ok w 4) o.magic in
    let e₂ : run (four 2 size) g 4 ≡ ok (four_at g 4) 8 = four-run 2 size g 4 (omega arith) in
    elim o.version [
      | inl (a, b) ↦ rw a (simp (running, lt-ltb _ _ s, le-leb _ _ l, e₁, e₂, b))
      | inr (inl (a, b)) ↦ rw a (simp (running, lt-ltb _ _ s, le-leb _ _ l, e₁, e₂, b))
      | inr (inr (a, b)) ↦ rw a (simp (running, lt-ltb _ _ s, le-leb _ _ l, e₁, e₂, b))
    ]

pub edition-back : (g : List ℕ) (size : ℕ) {v : ℕ} {e : Edition} → Opened g v e → opening_size v ≤ size → run (edition size v) g 8 ≡ ok e (opening_size v)
unfolding edition
edition-back g size {v} {e} o l = elim o.edition [
  | inl (t, x) ↦
      let z = size-two v t in
      let e₁ : run (four 3 size) g 8 ≡ ok (four_at g 8) 12 = four-run 3 size g 8 (omega arith) in
      let e₂ : run (four 3 size) g 12 ≡ ok (four_at g 12) 16 = four-run 3 size g 12 (omega arith) in
      rw (z, x) (simp (running, eq-eqb _ _ t, e₁, e₂))
  | inr (n, x) ↦ let z = size-one v n in rw (z, x) (simp (running, ne_eqb _ _ n))
]

-- ---- the numbers

pub length_back : (g : List ℕ) (size p : ℕ) → size < 2 ^ 28 → Lies g p (vlq size) → p + length (vlq size) ≤ size → run (file_length size) g p ≡ ok tt (p + length (vlq size))
unfolding file_length
length_back g size p s h i = let e = number-back file_frame 3 size size h s i in simp (running, e, eq-eqb size size refl)

pub extent-back : (g : List ℕ) (size p start last : ℕ) → start ≤ last → last < size → size < 2 ^ 28 → Lies g p (vlq start) → Lies g
    (p + length (vlq start)) (vlq last) → p + length (vlq start) + length (vlq last) ≤ start
    → run (extent size) g p ≡ ok (record { start = start; last = last; end = p + length (vlq start) + length (vlq last) }) (p + length (vlq start) + length (vlq last))
unfolding extent
extent-back g size p start last a b s h k i =
    let e₁ = number-back file_frame 3 size start h (omega arith) (omega arith) in
    let e₂ = number-back file_frame 3 size last k (omega arith) (omega arith) in
    simp (running, e₁, e₂, le-leb _ _ i, le-leb _ _ a, lt-ltb _ _ b)

-- ---- the header

pub header-back : (g : List ℕ) (size a b c : ℕ) {v : ℕ} {e : Edition} {ds : List Declared} {x : Extent} → Opened g v e → 8 ≤ size → size < 2 ^ 28 → opening_size v ≤ size
    → run (file_length size) g (opening_size v) ≡ ok tt a → run (types_table size) g a ≡ ok ds b → run (extent size) g b ≡ ok x c
    → run (header size) g 0 ≡ ok (record { version = v; edition = e; types = ds; extent = x }) c
unfolding header
header-back g size a b c o l s k e₃ e₄ e₅ =
    let e₁ = opening-back g size o l s in let e₂ = edition-back g size o k in
    simp (running, e₁, e₂, e₃, e₄, e₅)

-- ---- an accepted header

opening-says : (f : List ℕ) → Post nothing f (opening (length f)) (Holds (λ v q. (q ≡ 8) × (8 ≤ length f) × (four_at f 0 ≡ 0x584D465F) × IsVersion v (four_at f 4))) 0 tt
unfolding opening
opening-says f =
    post_check _ _ λ t. post_check _ _ λ u.
    post_step nothing-quiet λ magic q e₁.
    post_check _ _ λ m.
    post_step nothing-quiet λ version r e₂.
    let a = four-was 1 (length f) f 0 e₁ in
    let i : four_at f 0 ≡ 0x584D465F = sym a.0 ∙ eqb-true magic 0x584D465F m in
    let b = four-was 2 (length f) f 4 (subst (λ n. run (four 2 (length f)) f n ≡ ok version r) a.1 e₂) in
    let l = leb-true 8 (length f) u in
    post_if (λ t. post_ret (b.1, l, i, inl (refl, sym b.0 ∙ eqb-true version 0x312E3030 t)))
    λ t. post_if (λ u. post_ret (b.1, l, i, inr (inl (refl, sym b.0 ∙ eqb-true version 0x312E3031 u))))
    λ u. post_if (λ w. post_ret (b.1, l, i, inr (inr (refl, sym b.0 ∙ eqb-true version 0x322E3030 w)))) (λ w. post_refuse)

edition-says : (f : List ℕ) (v at : ℕ) → at ≡ 8 → at ≤ length f
    → Post nothing f (edition (length f) v)
    (Holds (λ e q. (q ≡ opening_size v) × (q ≤ length f) ×
    (((v ≡ 200) × (e ≡ record { type = four_at f 8; revision = four_at f 12 })) ⊎
    (((v ≡ 200) → ⊥) × (e ≡ record { type = 0; revision = 0 }))))) at tt
unfolding edition
edition-says f v at k l =
    post_if
    (λ t.
    post_step nothing-quiet λ a p e₁.
    post_step nothing-quiet λ b q e₂.
    let z = eqb-true v 200 t in
    let x = four-was 3 (length f) f 8 (subst (λ n. run (four 3 (length f)) f n ≡ ok a p) k e₁) in
    let y = four-was 3 (length f) f 12 (subst (λ n. run (four 3 (length f)) f n ≡ ok b q) x.1 e₂) in
    post_ret (y.1 ∙ sym (size-two v z), y.2, inl (z, rw (x.0, y.0) refl)))
    (λ t. let n = eqb-false v 200 t in post_ret (k ∙ sym (size-one v n), l, inr (n, refl)))

check-at : (f : List ℕ) (b : Bool) (n p at : ℕ) {a : Unit {0}} {q : ℕ} → run {K = Frame} {W = Part} (check b n p) f at ≡ ok a q → at ≡ q
unfolding check
check-at f true n p at e = let z = simp running at e in cc
check-at f false n p at e = let z = simp running at e in let y : ◌≡◌ {A = ℕ} 0 1 = cc in absurd (omega arith)

check-true : (f : List ℕ) (b : Bool) (n p at : ℕ) {a : Unit {0}} {q : ℕ} → run {K = Frame} {W = Part} (check b n p) f at ≡ ok a q → b ≡ true
unfolding check
check-true f true n p at e = refl
check-true f false n p at e = let z = simp running at e in let y : ◌≡◌ {A = ℕ} 0 1 = cc in absurd (omega arith)

length-says : (f : List ℕ) (at : ℕ) → Post nothing f (file_length (length f)) (Holds (λ _ r. (v : ℕ) × (run (number file_frame 3 (length f)) f at ≡ ok v r) × (v ≡ length f))) at tt
unfolding file_length
length-says f at = post_place _ at
    (post_step nothing-quiet λ n q e. post_run nothing-quiet λ _ r c.
    (n, e ∙ ap (ok n) (check-at f _ 5 at q c), eqb-true n (length f) (check-true f _ 5 at q c)))

-- TreeStart ends at c, and TreeEnd at the header's end
abbrev ExtentIn : List ℕ → ℕ → Extent → ℕ → Type 0
ExtentIn f at e q = (c : ℕ) × Number f at e.start c × Number f c e.last e.end

extent-in : (f : List ℕ) (at : ℕ) → Post nothing f (extent (length f)) (Holds (ExtentIn f at)) at tt
unfolding extent
extent-in f at =
    post_place _ at
    (post_step nothing-quiet λ start q e₁.
    post_place _ q
    (post_step nothing-quiet λ last r e₂.
    post_place _ r (post_check _ _ λ t. post_check _ _ λ u. post_check _ _ λ v. post_ret (q, number_is file_frame 3 (length f) f at e₁, number_is file_frame 3 (length f) f q e₂))))

-- where the fields of a header end, after its first bytes: FileLength at a, the types table at b, TreeStart at c
pub record HeaderSpans (f : List ℕ) (h : Header) (types : List ℕ) : Type 0 where
  pub a : ℕ
  pub b : ℕ
  pub c : ℕ
  pub length-is : Number f (opening_size h.version) (length f) a
  pub types-covers : Covers f a (sized types) b
  pub start_is : Number f b h.extent.start c
  pub last-is : Number f c h.extent.last h.extent.end

pub record HeaderSays (f : List ℕ) (h : Header) : Type 0 where
  pub opened : Opened f h.version h.edition
  pub long : opening_size h.version ≤ length f
  pub texts : List (List ℕ)
  pub table : Table [] h.types texts
  pub few : length texts < 2 ^ 28
  pub stop : ℕ
  pub ran : run (table_text f) f (opening_size h.version) ≡ ok (joined (vlq (length texts) ∷ texts)) stop
  pub before : stop ≤ h.extent.end
  pub spans : HeaderSpans f h (joined (vlq (length texts) ∷ texts))

header-post : (f : List ℕ) → Post nothing f (header (length f)) (Holds (λ h q. HeaderSays f h)) 0 tt
unfolding header ◌>>◌
header-post f =
    post_after (opening-says f) λ v p _ w.
    post_after (edition-says f v p w.0 (omega (arith, w.0, w.1))) λ e q _ y.
    post_after (length-says f q) λ _ r _ z.
    post_after (table-says f r) λ ds s _ t.
    post_step nothing-quiet λ x u e₅.
    post_ret (record {
      opened = record { magic = w.2; version = w.3; edition = y.2 };
      long = omega (arith, y.0, y.1);
      texts = t.texts;
      table = t.table;
      few = t.few;
      stop = s;
      ran = subst (λ n. run (table_text f) f n ≡ ok (joined (vlq (length t.texts) ∷ t.texts)) s) y.0 (t.text q z.1);
      before = (let w = at_end any_free f (extent-on (length f) s) e₅ in omega arith);
      spans = (
          let (c, start, last) = post_ran (extent-in f s) e₅ in
          let size : Number f q (length f) r = rw z.2 at (number_is file_frame 3 (length f) f q z.1) in
          record { a = r; b = s; c = c; length-is = subst (λ n. Number f n (length f) r) y.0 size; types-covers = t.covers; start_is = start; last-is = last });
    })

pub header-says : (f : List ℕ) {h : Header} {q : ℕ} → run (header (length f)) f 0 ≡ ok h q → HeaderSays f h
header-says f e = post_ran (header-post f) e
