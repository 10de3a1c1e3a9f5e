-- What is promised of mending the header.
-- Assumes nothing.
use mathlib.Core.Path.{◌≡◌, refl, ap, ◌∙◌}
use mathlib.Core.Bool.{true}
use mathlib.Core.Logic.{◌⊎◌, inl, inr}
use mathlib.Core.List.{List, [], ◌∷◌}
use Prim.Native.Nat.{ℕ, ◌≤◌, ◌<◌}
use native.Mathlib.Omega.{arith}
use lib.ListN.{length}
use Rattle.metadata.specs.Tables.{limits}
use Rattle.metadata.specs.declared.Limits.{Limits}
use Rattle.file.specs.Reading.{rows, read_file}
use Rattle.mend.specs.Fields.{fields}
use Rattle.mend.specs.Mend as mend
use Rattle.mend.specs.Mend.{set_to, mended, changes, repair, accepted}
use Rattle.mend.proofs.Parts.{places, fields-parts}
use Rattle.mend.proofs.Values.{set_out, own-length, own-last}
use Rattle.mend.proofs.Exact.{exact}
use Rattle.mend.proofs.Theorem.{read-rows, mended-set, mended-length, mended-sound, stays, unchanged, mends, mended-is, mend-good, mend-bad, mendable, fits-good, fits-bad, mended-again, restores}
use Rattle.promises.specs.Promises.{mend_header, Sizes, size, reads, mended_values, saying, leaves, outcome, Accepted, Mendable, wrote_copy, Mends, MendsExactly, MendsBack, KeepsRight, MendsAlike}
use Rattle.promises.proofs.Kept.{mend-alike}

abbrev lim : Sizes → Limits
lim ls = limits (size ls 0) (size ls 1)

-- as the page says it, and as the laws do
rows_of : (ls : Sizes) (g : List ℕ) → accepted (read_file (lim ls) g) ≡ true → Accepted ls g
unfolding reads
rows_of ls g e = read-rows (read_file (lim ls) g) e

of_rows_lem : (ls : Sizes) (g : List ℕ) → Accepted ls g → accepted (read_file (lim ls) g) ≡ true
unfolding reads
of_rows_lem ls g (h, ns, is, e) = ap accepted e

to-law : (ls : Sizes) (f : List ℕ) → Mendable ls f → mend.Mendable (lim ls) f
to-law ls f m = record {
  w = m.read;
  next = m.next;
  reads = m.reads_so;
  a = m.a;
  b = m.b;
  hold = m.hold;
  accepts = of_rows_lem ls
      (set_to f m.read m.a m.b) m.accepted;
}

-- what is left where the mended file is accepted and there is room for it and its lines
wrote : (ls : Sizes) (f : List ℕ) → accepted (read_file (lim ls) (mended f)) ≡ true → length (mended f) ≤ size ls 2 → length (changes f) ≤
    size ls 3 → outcome mend_header ls f ≡ wrote_copy ls (mended f) (changes f)
unfolding outcome leaves
wrote ls f e l m = rw (mend-good (lim ls) f (mended-is (lim ls) f e) (size ls 2) (size ls 3) ∙ fits-good (size ls 2) (size ls 3) (repair f) l m) refl

unwritten : (ls : Sizes) (f : List ℕ) → accepted (read_file (lim ls) (mended f)) ≡ true → (size ls 2 < length (mended f)) ⊎
    (size ls 3 < length (changes f)) → (outcome mend_header ls f).answer ≡ 22 ∷ 0 ∷ []
unfolding outcome leaves
unwritten ls f e l = rw (mend-good (lim ls) f (mended-is (lim ls) f e) (size ls 2) (size ls 3) ∙ fits-bad (size ls 2) (size ls 3) (repair f) l) refl

-- once more
wrote-again : (ls : Sizes) (f : List ℕ) → accepted (read_file (lim ls) (mended f)) ≡ true → length (mended f) ≤ size ls 2 → outcome
    mend_header ls (mended f) ≡ wrote_copy ls (mended f) []
wrote-again ls f e l =
    let (same, none) = mended-again (lim ls) f e in
    let again = wrote ls (mended f) (rw same e) (rw same l) (rw none (omega arith)) in
    again ∙ rw (same, none) refl

does : (ls : Sizes) (f : List ℕ) (m : mend.Mendable (lim ls) f) → Mends ls f m.w
unfolding reads
does ls f m =
    let e = mends (lim ls) f m in let x = (fields-parts (length f) f m.reads).0 in let n = mended-length f in
    record {
      accepted = rows_of ls (mended f) e;
      right = (mended-set f x, (mended-sound (lim ls) f x e).holds);
      only = λ a b hold (h, ns, is, r). exact (lim ls) f x a b hold r;
      same_length = n;
      elsewhere = λ k o. rw (mended-set f x) (set_out (places (length f) f x) f refl (length f) _ k o);
      written = λ l o. wrote ls f e (omega arith) o;
      short = λ s. unwritten ls f e (elim s [ inl l ↦ inl (omega arith) | inr l ↦ inr l ]);
      again = λ l. wrote-again ls f e (omega arith);
    }

pub mends_exactly : MendsExactly
unfolding outcome leaves reads
mends_exactly ls f = elim (mendable (lim ls) f) [
  | inl m ↦ inl (
    record {
      read = m.w;
      next = m.next;
      reads_so = m.reads;
      a = m.a;
      b = m.b;
      hold = m.hold;
      accepted = rows_of ls
          (set_to f m.w m.a m.b) m.accepts;
    },
    does ls f m,
  )
  | inr none ↦ (let (n, p, r, is) = mend-bad (lim ls) f none in inr (λ m. none (to-law ls f m), (n, p, r, ap (saying mended_values) (is (size ls 2) (size ls 3)))))
]

pub mends_back : MendsBack
unfolding reads
mends_back ls g bytes (h, ns, is, e) w next r =
    let stay = stays (lim ls) g e bytes in let none = unchanged (lim ls) g e in
    record {
      itself = λ l. wrote ls g (rw stay (ap accepted e)) (rw stay l) (rw none (omega arith)) ∙ rw (stay, none) refl;
      back = λ a b hold l m. let z = restores (lim ls) g bytes e r a b hold in wrote ls (set_to g w a b) (rw z (ap accepted e)) (rw z l) m ∙ rw z refl;
    }

pub keeps_right : KeepsRight
keeps_right f bytes w next r = let x = (fields-parts (length f) f r).0 in (own-length f x bytes, own-last f x bytes)

pub mends_alike : MendsAlike
unfolding outcome
mends_alike ls f g h ns is r d = mend-alike ls f g r d
