-- Unpackers that were written are read back, and say what was written.
-- Assumes nothing.
use mathlib.Core.Path.{◌≡◌, refl, ap, ◌∙◌}
use mathlib.Core.Logic.{◌⊎◌, inl, inr}
use mathlib.Core.Bool.{Bool, true, false, ◌||◌}
use mathlib.Core.List.{List, [], ◌∷◌, ◌++◌, append_assoc, append-nil}
use Prim.Native.Nat.{ℕ, suc, ◌+◌, ◌-◌, ◌^◌, ◌≤◌, ◌<◌}
use native.Mathlib.Omega.{arith}
use lib.Dec.{eqb}
use lib.ListN.{length, length-append}
use borrow.Author.Tests.{le-leb, ne_eqb}
use Rattle.machine.specs.Machine.{ok, run, turns, many, times}
use Rattle.cursor.specs.Rows.{unpack_frame}
use Rattle.room.specs.Parts.{part, joined}
use Rattle.vlq.specs.Vlq.{vlq, sized}
use Rattle.machine.proofs.Laws.{running, run-turn, run-turned, run-many}
use Rattle.vlq.proofs.Least.{vlq-some}
use Rattle.room.proofs.Lies.{Lies, lies_left, lies_right, lies_part, stand, joined_length}
use Rattle.vlq.proofs.Sized.{stand_sized, sized-length}
use Rattle.vlq.proofs.Back.{number-back, block_back, Guid, guid-back, Maker, maker_back}
use Rattle.node.specs.Node as node
use Rattle.node.specs.Node.{value, identifier, entries, unpackers}
use Rattle.title_text.specs.Description.{copied, identifier_text, unpacker_text, answer}

-- what names an unpacker of that kind, in its shortest form
pub data Names : ℕ → List ℕ → Type 0 where
  guid : {s : List ℕ} → Guid 19 s → Names 3 s
  made : {s : List ℕ} {v : ℕ} → Maker s → v < 2 ^ 28 → Names 1 (joined (s ∷ vlq v ∷ []))
  number : {kind v : ℕ} → ((kind ≡ 3) → ⊥) → ((kind ≡ 1) → ⊥) → v < 2 ^ 28 → Names kind (vlq v)

module _ (end : ℕ) (g : List ℕ) (p : ℕ) where
  identifier-back : {kind : ℕ} {s : List ℕ} → Names kind s → Lies g p s → p + length s ≤ end → run (identifier kind end) g p ≡ ok tt (p + length s)
  unfolding identifier value
  identifier-back (guid u) h i = let e = guid-back unpack_frame end g u p h i in simp (running, e)
  identifier-back (made {s} {v} u l) h i =
      let ss : List (List ℕ) = s ∷ vlq v ∷ [] in
      let t = stand ss h in let z = joined_length ss in
      let e₁ = maker_back unpack_frame end g u p t.0 (omega arith) in
      let e₂ = number-back unpack_frame 3 end v t.1.0 l (omega arith) in
      let e₃ : p + length (joined ss) ≡ p + length s + length (vlq v) = omega arith in
      rw e₃ (simp (running, e₁, e₂))
  identifier-back (number {kind} {v} a b l) h i = let e = number-back unpack_frame 3 end v h l i in simp (running, ne_eqb _ _ a, ne_eqb _ _ b, e)

copied-back : {g : List ℕ} {p : ℕ} {s : List ℕ} (q : ℕ) → q ≡ p + length s → Lies g p s → part g p (q - p) ≡ s
copied-back {g} {p} {s} q e h = let k : q - p ≡ length s = omega arith in rw k (lies_part h)

module _ (g : List ℕ) (p : ℕ) where
  identifier-again : {kind : ℕ} {s : List ℕ} → Names kind s → Lies g p s → run (identifier_text g kind) g p ≡ ok s (p + length s)
  unfolding identifier_text copied
  identifier-again (guid {s} u) h =
      let e = guid-back unpack_frame (length g) g u p h h.inside in
      let c = copied-back (p + length s) refl h in
      simp (running, e, c)
  identifier-again (made {s} {v} u l) h =
      let ss : List (List ℕ) = s ∷ vlq v ∷ [] in
      let t = stand ss h in let i = h.inside in let z = joined_length ss in
      let e₁ = maker_back unpack_frame (length g) g u p t.0 (omega arith) in
      let c = copied-back (p + length s) refl t.0 in
      let e₂ = number-back unpack_frame 3 (length g) v t.1.0 l (omega arith) in
      let e₃ : p + length (joined ss) ≡ p + length s + length (vlq v) = omega arith in
      rw e₃ (simp (running, e₁, c, e₂))
  identifier-again (number {kind} {v} a b l) h = let e = number-back unpack_frame 3 (length g) v h l h.inside in simp (running, ne_eqb _ _ a, ne_eqb _ _ b, e)

-- the shortest form of an unpacker
pub data Unpacker : List ℕ → Type 0 where
  unpacker : {kind size : ℕ} {s : List ℕ} → kind ≤ 3 → Names kind s → size < 2 ^ 28 → Unpacker (joined (vlq kind ∷ s ∷ vlq size ∷ []))

unpacker-some : {s : List ℕ} → Unpacker s → 0 < length s
unpacker-some (unpacker {kind} {size} {s} k n l) = let z = joined_length (vlq kind ∷ s ∷ vlq size ∷ []) in omega (arith, vlq-some kind)

module _ (end : ℕ) (g : List ℕ) (n p : ℕ) where
  unpacker-back : {t : List ℕ} → Unpacker t → Lies g p t → p + length t ≤ end → run (node.unpacker end n) g p ≡ ok (n + 1) (p + length t)
  unfolding node.unpacker value
  unpacker-back (unpacker {kind} {size} {s} k names l) h i =
      let ss : List (List ℕ) = vlq kind ∷ s ∷ vlq size ∷ [] in
      let t = stand ss h in let z = joined_length ss in
      let e₁ = number-back unpack_frame 3 end kind t.0 (omega arith) (omega arith) in
      let e₂ = identifier-back end g (p + length (vlq kind)) names t.1.0 (omega arith) in
      let e₃ = number-back unpack_frame 3 end size t.1.1.0 l (omega arith) in
      let e₄ : p + length (joined ss) ≡ p + length (vlq kind) + length s + length (vlq size) = omega arith in
      rw e₄ (simp (running, e₁, le-leb _ _ k, e₂, e₃))

unpacker-again : (g before : List ℕ) (p : ℕ) {t : List ℕ} → Unpacker t → Lies g p t → run (unpacker_text g before) g p ≡ ok (before ++ t) (p + length t)
unfolding unpacker_text
unpacker-again g before p (unpacker {kind} {size} {s} k names l) h =
    let ss : List (List ℕ) = vlq kind ∷ s ∷ vlq size ∷ [] in
    let t = stand ss h in let i = h.inside in let z = joined_length ss in
    let e₁ = number-back unpack_frame 3 (length g) kind t.0 (omega arith) (omega arith) in
    let e₂ = identifier-again g (p + length (vlq kind)) names t.1.0 in
    let e₃ = number-back unpack_frame 3 (length g) size t.1.1.0 l (omega arith) in
    let e₄ : p + length (joined ss) ≡ p + length (vlq kind) + length s + length (vlq size) = omega arith in
    rw e₄ (simp (running, e₁, e₂, e₃))

-- ---- end to end

pub data Unpackers : List (List ℕ) → Type 0 where
  none : Unpackers []
  more : {s : List ℕ} {ss : List (List ℕ)} → Unpacker s → Unpackers ss → Unpackers (s ∷ ss)

module _ (end : ℕ) (g : List ℕ) where
  pub unpackers-back : {ss : List (List ℕ)} → Unpackers ss → (k n p : ℕ) → Lies g p (joined ss) → p + length (joined ss) ≡ end → end ≤ p + k →
      run (turns k end (node.unpacker end) n) g p ≡ ok (n + length ss) end
  unpackers-back none k n p h i l =
      let a : n + 0 ≡ n = omega arith in let b : p ≡ end = omega arith in
      run-turned g k end p (node.unpacker end) n (omega arith) ∙ rw (a, b) refl
  unpackers-back (more {s} {ss} u us) k n p h i l =
      let z = length-append s (joined ss) in let y = unpacker-some u in
      let e₁ = unpacker-back end g n p u (lies_left s (joined ss) h) (omega arith) in
      let e₂ = unpackers-back us (k - 1) (n + 1) (p + length s) (lies_right s (joined ss) h) (omega arith) (omega arith) in
      let a : n + suc (length ss) ≡ n + 1 + length ss = omega arith in
      run-turn g k end p (node.unpacker end) n (omega arith) l ∙ rw (a, e₁) e₂

-- the unpackers' text is said again
pub unpackers-again : (g : List ℕ) {ss : List (List ℕ)} → Unpackers ss → (before : List ℕ) (p : ℕ) → Lies g p (joined ss) → run
    (times (length ss) (unpacker_text g) before) g p ≡ ok (before ++ joined ss) (p + length (joined ss))
unfolding times
unpackers-again g none before p h = let a : p + 0 ≡ p = omega arith in rw (a, append-nil before) (simp running)
unpackers-again g (more {s} {ss} u us) before p h =
    let z = length-append s (joined ss) in
    let e₁ = unpacker-again g before p u (lies_left s (joined ss) h) in
    let e₂ = unpackers-again g us (before ++ s) (p + length s) (lies_right s (joined ss) h) in
    let a : p + length (s ++ joined ss) ≡ p + length s + length (joined ss) = omega arith in
    rw (a, ← append_assoc before s (joined ss)) (simp (running, e₁, e₂))

-- ---- the unpackers of a node: a length and entries, none in a folder

either : (a b : ℕ) → (a ≡ 0) ⊎ (b ≡ 0) → (eqb a 0 || eqb b 0) ≡ true
either a b (inl e) = rw e refl
either a b (inr e) = rw e (or_true (eqb a 0))
  where
    or_true : (c : Bool) → (c || true) ≡ true
    or_true true = refl
    or_true false = refl

module _ (g : List ℕ) (big : length g < 2 ^ 28) (contained inner q : ℕ) {ss : List (List ℕ)} (us : Unpackers ss) where
  unpackers-run : (contained ≡ 0) ⊎ (length (joined ss) ≡ 0) → Lies g q (sized (joined ss)) → q + length (sized (joined ss)) ≡ inner
      → run (unpackers contained inner) g q ≡ ok (record { place = record { 0 = q + length (vlq (length (joined ss))) }; count = length ss }) inner
  unfolding unpackers entries
  unpackers-run f h i =
      let n : ℕ = length (joined ss) in let s = stand_sized (joined ss) h in let z = sized-length (joined ss) in
      let r : ℕ = q + length (vlq n) in
      let e₁ = block_back unpack_frame 8 (r + n) n s.0 (omega (arith, h.inside)) (omega arith) in
      let e₂ : run (many (r + n) (node.unpacker (r + n)) 0) g r ≡ ok (0 + length ss) (r + n) = run-many g (r + n) r (node.unpacker (r + n)) 0 ∙
      unpackers-back (r + n) g us (r + n - r) 0 r s.1 refl (omega arith) in
      let e₃ : r + n ≡ inner = omega arith in let e₄ : 0 + length ss ≡ length ss = omega arith in
      rw (← e₃) (simp (running, e₁, either contained n f, e₂, e₄))

-- the same of a text t of k unpackers
pub packs_back : (g : List ℕ) → length g < 2 ^ 28 → (contained inner q : ℕ) {ss : List (List ℕ)} → Unpackers ss → (t : List ℕ) (k : ℕ) →
    joined ss ≡ t → length ss ≡ k → (contained ≡ 0) ⊎ (length t ≡ 0) → Lies g q (sized t) → q + length (sized t) ≡ inner
    → run (unpackers contained inner) g q ≡ ok (record { place = record { 0 = q + length (vlq (length t)) }; count = k }) inner
packs_back g big contained inner q us t k a b z h i = rw (← b, ← a) (unpackers-run g big contained inner q us (rw (← a) at z) (rw (← a) at h) (rw (← a) at i))

pub packs_again : (g : List ℕ) {ss : List (List ℕ)} → Unpackers ss → (t : List ℕ) (k q : ℕ) → joined ss ≡ t → length ss ≡ k → Lies g q t →
    answer (run (times k (unpacker_text g) []) g q) ≡ t
packs_again g us t k q a b h = rw (← b, ← a) (ap answer (unpackers-again g us [] q (rw (← a) at h)))
