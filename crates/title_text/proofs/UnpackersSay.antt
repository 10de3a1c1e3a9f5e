-- What accepted unpackers say is made of unpackers in their shortest form: the other half of reading them back.
-- Assumes nothing.
use mathlib.Core.Path.{◌≡◌, refl, sym, ap, ◌∙◌, subst}
use mathlib.Core.Logic.{◌⊎◌, inl, inr}
use mathlib.Core.Bool.{Bool, true, false, ◌||◌}
use mathlib.Core.List.{List, [], ◌∷◌, ◌++◌, append_assoc, append-nil}
use Prim.Native.Nat.{ℕ, suc, ◌+◌, ◌-◌, ◌≤◌, ◌<◌}
use native.Mathlib.Omega.{arith}
use lib.Dec.{eqb}
use lib.ListN.{length, length-append}
use borrow.Author.Tests.{leb-true, eqb-true, eqb-false, ne_eqb}
use Rattle.machine.specs.Machine.{ok, run, times}
use Rattle.cursor.specs.Rows.{unpack_frame}
use Rattle.cursor.specs.Leaves.{number}
use Rattle.room.specs.Parts.{part, joined}
use Rattle.vlq.specs.Vlq.{vlq, sized}
use Rattle.machine.proofs.Laws.{running}
use Rattle.cursor.proofs.Quiet.{number-quiet, block-quiet, manufacturer-quiet, guid-quiet}
use Rattle.machine.proofs.Wp.{Wp, at_end, wp_after, wp_weaken, wp_ret, wp_place, wp_many}
use Rattle.cursor.proofs.Leaves.{Any, any_free, number-inside, block_inside, manufacturer-on, guid-on}
use Rattle.room.proofs.Lies.{Lies, lies_part}
use Rattle.vlq.proofs.Back.{Guid, Maker, guid-back, maker_back, guid-was, maker_was}
use Rattle.cursor.proofs.Wider.{number-wider}
use Rattle.cursor.proofs.Post.{Post, post_after, post_run, post_step, post_weaken, post_ret, post_if, post_check, post_place, post_many}
use Rattle.metadata.proofs.Ends.{Nothing, inside-free, Inside}
use Rattle.node.specs.Node as node
use Rattle.node.specs.Node.{value, identifier, entries, unpackers}
use Rattle.node.specs.declared.Unpackers as unpackers
use Rattle.node.proofs.Ends.{unpacker-on}
use Rattle.title_text.specs.Description.{copied, identifier_text, unpacker_text, answer}
use Rattle.cursor.proofs.Runs.{nothing, nothing-quiet, Holds, post_ran, times_more}
use Rattle.title_text.proofs.Covers.{Covers, covers-none, covers-on, covers-as, covers-to, covers-last, covers-lies, number-covers, sized-covers}
use Rattle.title_text.proofs.Unpackers as grammar
use Rattle.title_text.proofs.Unpackers.{Names, guid, made, Unpacker, unpacker, Unpackers, none, more}

module _ (f : List ℕ) (end : ℕ) (o : end ≤ length f) where
  -- a number is read in the whole file as in its part
  wide : (at : ℕ) {v q : ℕ} → run (number unpack_frame 3 end) f at ≡ ok v q → run (number unpack_frame 3 (length f)) f at ≡ ok v q
  wide at e = let i = number-inside unpack_frame 3 end f at e in number-wider unpack_frame 3 3 end (length f) f at e (omega arith)

  copied_is : (at : ℕ) (s : List ℕ) → Lies f at s → part f at (at + length s - at) ≡ s
  copied_is at s h = let k : at + length s - at ≡ length s = omega arith in rw k (lies_part h)

  -- ---- what names an unpacker

  guid-text : (kind at : ℕ) {s : List ℕ} → kind ≡ 3 → Guid 19 s → Lies f at s → run (identifier_text f kind) f at ≡ ok s (at + length s)
  unfolding identifier_text copied
  guid-text kind at {s} k g h =
      let e = guid-back unpack_frame (length f) f g at h h.inside in
      let c = copied_is at s h in
      rw k (simp (running, e, c))

  made-text : (kind at : ℕ) {s : List ℕ} {v q : ℕ} → kind ≡ 1 → Maker s → Lies f at s → run (number unpack_frame 3 end) f (at + length s) ≡ ok
      v q → run (identifier_text f kind) f at ≡ ok (joined (s ∷ vlq v ∷ [])) q
  unfolding identifier_text copied
  made-text kind at {s} k g h e =
      let e₁ = maker_back unpack_frame (length f) f g at h h.inside in
      let c = copied_is at s h in let e₂ = wide (at + length s) e in
      rw k (simp (running, e₁, c, e₂))

  number-text : (kind at : ℕ) {v q : ℕ} → ((kind ≡ 3) → ⊥) → ((kind ≡ 1) → ⊥) → run (number unpack_frame 3 end) f at ≡ ok v q → run (identifier_text f kind) f at ≡ ok (vlq v) q
  unfolding identifier_text
  number-text kind at a b e = let e₁ = wide at e in simp (running, ne_eqb _ _ a, ne_eqb _ _ b, e₁)

  identifier-says : (kind at : ℕ) → Post nothing f (identifier kind end)
      (Holds (λ _ q. (q ≤ end) × (at < q) × (s : List ℕ) × Names kind s × (run (identifier_text f kind) f at ≡ ok s q) × Covers f at s q)) at tt
  unfolding identifier value
  identifier-says kind at =
      post_if
      (λ t. post_run (guid-quiet unpack_frame end) λ _ q e.
      let i = at_end any_free f (guid-on {U = Any} unpack_frame end at) e in
      let w = guid-was unpack_frame end f o at e in
      let k = eqb-true kind 3 t in (
        i.2,
        i.0,
        w.bytes,
        subst (λ j. Names j w.bytes) (sym k) (guid w.is),
        guid-text kind at k w.is w.lies ∙ ap (ok w.bytes)
            (sym w.ends),
        covers-to (sym w.ends) (covers-lies w.lies),
      ))
      (λ t. post_if
      (λ u. post_step (manufacturer-quiet unpack_frame end) λ _ q e.
      post_step (number-quiet unpack_frame 3 end) λ v r e₂.
      let i = at_end any_free f (manufacturer-on {U = Any} unpack_frame end at) e in
      let j = number-inside unpack_frame 3 end f q e₂ in let w = maker_was unpack_frame end f o at e in
      let k = eqb-true kind 1 u in
      post_ret (
        j.2,
        omega arith,
        joined (w.bytes ∷ vlq v ∷ []),
        subst (λ n. Names n (joined (w.bytes ∷ vlq v ∷ []))) (sym k) (made w.is j.3),
        made-text kind at k w.is w.lies (subst (λ n. run (number unpack_frame 3 end) f n ≡ ok v r) w.ends e₂),
        covers-on (covers-to (sym w.ends) (covers-lies w.lies)) (covers-last (number-covers unpack_frame 3 end f q e₂)),
      ))
      (λ u. post_step (number-quiet unpack_frame 3 end) λ v q e.
      let i = number-inside unpack_frame 3 end f at e in
      post_ret (
        i.2,
        i.0,
        vlq v,
        grammar.number (eqb-false kind 3 t) (eqb-false kind 1 u) i.3,
        number-text kind at (eqb-false kind 3 t)
            (eqb-false kind 1 u) e,
        number-covers unpack_frame 3 end f at e,
      )))

  -- ---- an unpacker

  unpacker-text : (before : List ℕ) (at : ℕ) {kind size q r t : ℕ} {s : List ℕ} → run (number unpack_frame 3 end) f at ≡ ok kind q → run
      (identifier_text f kind) f q ≡ ok s r → run (number unpack_frame 3 end) f r ≡ ok size t
      → run (unpacker_text f before) f at ≡ ok (before ++ joined (vlq kind ∷ s ∷ vlq size ∷ [])) t
  unfolding unpacker_text
  unpacker-text before at {r = r} e₁ e₂ e₃ = let a = wide at e₁ in let b = wide r e₃ in simp (running, a, e₂, b)

  value-says : (at : ℕ) → Post nothing f (value end) (Holds (λ _ q. (v : ℕ) × (run (number unpack_frame 3 end) f at ≡ ok v q))) at tt
  unfolding value
  value-says at = post_step (number-quiet unpack_frame 3 end) λ v q e. post_ret (v, e)

  unpacker-says : (n at : ℕ) → Post nothing f (node.unpacker end n)
      (Holds (λ k q. (k ≡ n + 1) × (at < q) × (q ≤ end) × (s : List ℕ) × Unpacker s ×
      ((before : List ℕ) → run (unpacker_text f before) f at ≡ ok (before ++ s) q) × Covers f at s q)) at tt
  unfolding node.unpacker
  unpacker-says n at =
      post_place _ at
      (post_step (number-quiet unpack_frame 3 end) λ kind q e.
      post_check _ _ λ t.
      post_after (identifier-says kind q) λ _ r _ w.
      post_after (value-says r) λ _ u _ y.
      let (size, e₂) = y in let (a, b, s, names, text, covers) = w in let i = number-inside unpack_frame 3 end f at e in
      let j = number-inside unpack_frame 3 end f r e₂ in
      post_ret (
        refl,
        omega arith,
        j.2,
        joined (vlq kind ∷ s ∷ vlq size ∷ []),
        unpacker (leb-true kind 3 t) names j.3,
        λ before. unpacker-text before at e text e₂,
        covers-on (number-covers unpack_frame 3 end f at e) (covers-on covers (covers-last (number-covers unpack_frame 3 end f r e₂))),
      ))

-- ---- end to end

unpackers-more : {ss : List (List ℕ)} {s : List ℕ} → Unpackers ss → Unpacker s → Unpackers (ss ++ s ∷ [])
unpackers-more none u = more u none
unpackers-more (more v vs) u = more v (unpackers-more vs u)

joined-more : (ss : List (List ℕ)) (s : List ℕ) → joined (ss ++ s ∷ []) ≡ joined ss ++ s
joined-more [] s = append-nil s
joined-more (t ∷ ss) s = ap (λ v. t ++ v) (joined-more ss s) ∙ sym (append_assoc t (joined ss) s)

-- k unpackers were read from p up to q
record Packs (f : List ℕ) (end p k q : ℕ) : Type 0 where
  packs : List (List ℕ)
  are : Unpackers packs
  count : k ≡ length packs
  far : p + length packs ≤ q
  inside : q ≤ end
  covers : Covers f p (joined packs) q
  text : run (times k (unpacker_text f) []) f p ≡ ok (joined packs) q

begun : (f : List ℕ) (end p : ℕ) → p ≤ end → Packs f end p 0 p
unfolding times
begun f end p l = record { packs = []; are = none; count = refl; far = omega arith; inside = l; covers = covers-none p; text = simp running }

one_more_lem : (f : List ℕ) (end p k k' q r : ℕ) {s : List ℕ} → Packs f end p k q → k' ≡ k + 1 → q < r → r ≤ end → Unpacker s →
    ((before : List ℕ) → run (unpacker_text f before) f q ≡ ok (before ++ s) r) → Covers f q s r → Packs f end p k' r
one_more_lem f end p k k' q r {s} w e l i u t o =
    let z = length-append w.packs (s ∷ []) in
    let c = w.count in let b = w.far in let n : k' ≡ suc k = omega arith in
    record {
      packs = w.packs ++ s ∷ [];
      are = unpackers-more w.are u;
      count = omega arith;
      far = omega arith;
      inside = i;
      covers = covers-as (sym (joined-more w.packs s)) (covers-on w.covers o);
      text = rw (n, joined-more w.packs s) (times_more f (unpacker_text f) k [] p w.text (t (joined w.packs)));
    }

entries-say : (f : List ℕ) (end : ℕ) → end ≤ length f → (at : ℕ) → at ≤ end → Post nothing f (entries end) (Holds (λ u q. (u.place.0 ≡ at) × Packs f end at u.count q)) at tt
unfolding entries
entries-say f end o at l =
    post_place _ at
    (post_after (post_many (λ k q τ. Packs f end at k q) end 0
    (λ k p τ w. post_weaken (unpacker-says f end o k p) λ k' q _ v. one_more_lem f end at k k' p q w v.0 v.1 v.2 v.4 v.5 v.6)
    (begun f end at l))
    λ k q _ w. post_ret (refl, w))

-- the unpackers of a node, of which a folder has none
pub record PacksOf (f : List ℕ) (contained end at : ℕ) (u : unpackers.Unpackers) (q : ℕ) : Type 0 where
  pub packs : List (List ℕ)
  pub are : Unpackers packs
  pub count : length packs ≡ u.count
  pub text : joined packs ≡ answer (run (times u.count (unpacker_text f) []) f u.place.0)
  pub unpacked : (contained ≡ 0) ⊎ (length (joined packs) ≡ 0)
  pub covers : Covers f at (sized (joined packs)) q
  pub within : q ≤ end

either : (a b : ℕ) → (eqb a 0 || eqb b 0) ≡ true → (a ≡ 0) ⊎ (b ≡ 0)
either a b t = by (eqb a 0) refl t
  where
    by : (c : Bool) → eqb a 0 ≡ c → (c || eqb b 0) ≡ true → (a ≡ 0) ⊎ (b ≡ 0)
    by true e t = inl (eqb-true a 0 e)
    by false e t = inr (eqb-true b 0 t)

empty-packs : (ss : List (List ℕ)) → length ss ≡ 0 → length (joined ss) ≡ 0
empty-packs [] e = refl
empty-packs (s ∷ ss) e = absurd (omega arith)

entries-end : (end at : ℕ) → at ≤ end → Wp (Inside Nothing end end) (entries end) (λ u q. q ≡ end) at
unfolding entries
entries-end end at l = wp_place _ at
    (wp_after (wp_many (λ _. Unit {0}) 0 (λ n p l i. wp_weaken (unpacker-on Nothing end end end n p) (λ k q x. (tt, x.1, x.2))) tt l)
    λ k q x. wp_ret x.1)

unpackers-post : (f : List ℕ) (contained end : ℕ) → end ≤ length f → (at : ℕ) → Post nothing f (unpackers contained end) (Holds (PacksOf f contained end at)) at tt
unfolding unpackers
unpackers-post f contained end o at =
    post_place _ at
    (post_step (block-quiet unpack_frame 8 end) λ n q e.
    post_check _ _ λ t.
    let i = block_inside unpack_frame 8 end f at e in
    post_place _ q
    (post_run nothing-quiet λ u r e₂.
    let v = post_ran (entries-say f (q + n) (omega arith) q (omega arith)) e₂ in
    let z : r ≡ q + n = at_end (inside-free (q + n) (q + n)) f (entries-end (q + n) q (omega arith)) e₂ in
    let w = v.1 in let far = w.far in
    record {
      packs = w.packs;
      are = w.are;
      count = sym w.count;
      text = ap answer (sym w.text) ∙ ap (λ p. answer (run (times u.count (unpacker_text f) []) f p)) (sym v.0);
      unpacked = elim (either contained n t) [ inl z ↦ inl z | inr z ↦ inr (empty-packs w.packs (omega arith)) ];
      covers = covers-to (sym z) (sized-covers unpack_frame 8 end f at e (covers-to z w.covers));
      within = omega arith;
    }))

pub unpackers-say : (f : List ℕ) (contained end at : ℕ) → end ≤ length f → {u : unpackers.Unpackers} {q : ℕ} → run (unpackers contained end)
    f at ≡ ok u q → PacksOf f contained end at u q
unpackers-say f contained end at o e = post_ran (unpackers-post f contained end o at) e

-- where they were read again: after the length, and not past where they end
pub record Reread (f : List ℕ) (at : ℕ) (u : unpackers.Unpackers) (q : ℕ) : Type 0 where
  pub text : List ℕ
  pub stop : ℕ
  pub ran : run (times u.count (unpacker_text f) []) f u.place.0 ≡ ok text stop
  pub after : at ≤ u.place.0
  pub before : stop ≤ q

reread_post : (f : List ℕ) (contained end : ℕ) → end ≤ length f → (at : ℕ) → Post nothing f (unpackers contained end) (Holds (Reread f at)) at tt
unfolding unpackers
reread_post f contained end o at =
    post_place _ at
    (post_step (block-quiet unpack_frame 8 end) λ n q e.
    post_check _ _ λ t.
    let i = block_inside unpack_frame 8 end f at e in
    post_place _ q
    (post_weaken (entries-say f (q + n) (omega arith) q (omega arith)) λ u r _ v.
    record { text = joined v.1.packs; stop = r; ran = rw v.0 v.1.text; after = omega (arith, v.0); before = omega arith }))

pub unpackers-reread : (f : List ℕ) (contained end at : ℕ) → end ≤ length f → {u : unpackers.Unpackers} {q : ℕ} → run (unpackers contained end) f at ≡ ok u q → Reread f at u q
unpackers-reread f contained end at o e = post_ran (reread_post f contained end o at) e
