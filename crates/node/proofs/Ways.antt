-- The ways through a node up to its contents: what each exit of the code comes to.
-- Assumes nothing.
use Rattle.std.proofs.Common.{Result, Ok, Err}
use mathlib.Core.Path.{◌≡◌, refl, sym, ap, ◌∙◌, subst}
use mathlib.Core.Bool.{Bool, true, ◌||◌, or-true}
use lib.Dec.{eqb}
use mathlib.Core.List.{List}
use Prim.Native.Nat.{ℕ, ◌+◌, ◌-◌, ◌≤◌, ◌<◌}
use native.Mathlib.Omega.{arith}
use native.Mathlib.Decide.{ℕ_discrete}
use borrow.Author.Tests.{lt-ltb, le-leb, eq-eqb, ne_eqb, eqb-true}
use Rattle.machine.specs.Machine.{Out, ok, refused, run, exec, turns}
use Rattle.cursor.specs.Rows.{unpack_frame, reference_frame}
use Rattle.cursor.specs.Leaves.{number, block}
use Rattle.cursor.specs.Told.{ByteTold}
use Rattle.cursor.specs.declared.Byte.{Byte}
use Rattle.cursor.specs.declared.Cursor.{Cursor}
use Rattle.cursor.specs.declared.Node.{Node}
use Rattle.refusals.specs.Reasons.{number_of}
use Rattle.refusals.specs.declared.Refusal.{Refusal}
use Rattle.machine.proofs.Laws.{running, executing, and_then, run-turn, run-turned, run-many}
use Rattle.cursor.proofs.Leaves.{number_short}
use Rattle.machine.proofs.Wp.{at_end}
use Rattle.metadata.proofs.Ends.{Nothing, inside-free}
use Rattle.metadata.specs.Tables.{State, state, put}
use Rattle.metadata.specs.Metadata.{Context, metadata}
use Rattle.metadata.specs.declared.Made.{Made}
use Rattle.metadata.specs.declared.Limits.{Limits}
use Rattle.node.specs.Node.{head, value, identifier, unpacker, entries, unpackers, target, reference, Rest, rest, row_of, front}
use Rattle.node.specs.Told.{CommonTold, unpacker_told, front_told, FrontFits, Fronts}
use Rattle.node.specs.declared.Bounds.{Bounds}
use Rattle.node.specs.declared.Head.{Head}
use Rattle.node.specs.declared.Front.{Front}
use Rattle.node.proofs.Quiet.{exec-head, exec-rest}
use Rattle.node.proofs.Ends.{unpacker-on}

-- ---- unpackers

module _ (end : ℕ) (s : List ℕ) (at : ℕ) where
  pub value-all : {v q : ℕ} → run (number unpack_frame 3 end) s at ≡ ok v q → ok tt q ≡ run (value end) s at
  unfolding value
  value-all e = simp (running, e)

module _ (kind end : ℕ) (s : List ℕ) (at : ℕ) where
  pub identifier-one : ((kind ≡ 3) → ⊥) → ((kind ≡ 1) → ⊥) → {o : Out (Unit {0})} → o ≡ run (value end) s at → o ≡ run (identifier kind end) s at
  unfolding identifier
  identifier-one n₁ n₂ h = h ∙ simp (running, ne_eqb _ _ n₁, ne_eqb _ _ n₂)

module _ (end : ℕ) (s : List ℕ) (at n : ℕ) where
  pub unpacker-all : {kind q r p : ℕ} → run (number unpack_frame 3 end) s at ≡ ok kind q → kind ≤ 3 → run (identifier kind end) s q ≡ ok tt r → ok tt p ≡ run (value end) s r
      → ok (n + 1) p ≡ run (unpacker end n) s at
  unfolding unpacker
  unpacker-all e₁ l₁ e h = let h' = sym h in simp (running, e₁, le-leb _ _ l₁, e, h')

-- three bytes that are a whole unpacker: a kind that a number names, that number, a decoded size
pub unpacker-common : (end : ℕ) (s : List ℕ) (at : ℕ) {kind name size : Byte} → ByteTold kind s at → ByteTold name s kind.next.at.0 → ByteTold size s name.next.at.0
    → at + 3 ≤ end → true ≡ (eqb kind.value 0 || eqb kind.value 2) → name.value ≤ 127 → size.value ≤ 127 → CommonTold true s end at
unpacker-common end s at {kind} {name} {size} b₀ b₁ b₂ l which l₁ l₂ =
    let k = numbered kind.value (sym which) in let q₁ = b₀.on in let q₂ = b₁.on in
    let q₃ : size.next.at.0 ≡ at + 3 = omega (arith, b₂.on) in
    let e₀ = number_short unpack_frame 3 end s at (omega arith) b₀.is (omega arith) q₁ in
    let e₁ = number_short unpack_frame 3 end s kind.next.at.0 (omega arith) b₁.is (omega arith) q₂ in
    let e₂ = number_short unpack_frame 3 end s name.next.at.0 (omega arith) b₂.is (omega arith) b₂.on in
    let named = sym (identifier-one kind.value end s kind.next.at.0 (λ z. omega arith) k.1 (value-all end s kind.next.at.0 e₁)) in
    (l, λ n. sym (unpacker-all end s at n e₀ (omega arith) named (value-all end s name.next.at.0 e₂)) ∙ ap (ok (n + 1)) q₃)
  where
    numbered : (k : ℕ) → (eqb k 0 || eqb k 2) ≡ true → (k ≤ 2) × ((k ≡ 1) → ⊥)
    numbered k e = elim (ℕ_discrete k 0) [
      | yes z ↦ (omega arith, λ y. omega arith)
      | no z ↦ let t : eqb k 2 ≡ true = rw (ne_eqb _ _ z) at e in let y : k ≡ 2 = eqb-true _ _ t in (omega arith, λ x. omega arith)
    ]

pub common_was : (end : ℕ) (s : List ℕ) (at : ℕ) {b : Bool} → CommonTold b s end at → b ≡ true → CommonTold true s end at
common_was end s at told e = subst (λ b. CommonTold b s end at) e told

-- what is left of the entries is the whole
pub record Going (s : List ℕ) (end at : ℕ) (i k : ℕ) : Type 0 where
  pub left : ℕ
  pub enough : end ≤ i + left
  pub few : k ≤ i
  pub same : run (entries end) s at ≡ and_then (run (turns left end (unpacker end) k) s i) (λ n p. ok (record { place = record { 0 = at }; count = n }) p)

pub entries-begun : (s : List ℕ) (end at : ℕ) → Going s end at at 0
unfolding entries
entries-begun s end at = record { left = end - at; enough = omega arith; few = omega arith; same = simp (running, run-many) }

module _ {s : List ℕ} {end at i k : ℕ} (g : Going s end at i k) where
  pub entries-done : end ≤ i → ok (record { place = record { 0 = at }; count = k }) i ≡ run (entries end) s at
  entries-done l = sym (g.same ∙ rw (run-turned s g.left end i (unpacker end) k l) refl)

  turn : i < end → run (entries end) s at ≡ and_then
      (and_then (run (unpacker end k) s i) (λ t p. run (turns (g.left - 1) end (unpacker end) t) s p))
      (λ n p. ok (record { place = record { 0 = at }; count = n }) p)
  turn l = g.same ∙ rw (run-turn s g.left end i (unpacker end) k l g.enough) refl

  module _ (l : i < end) (r : Result Cursor Refusal) (d : (n : ℕ) → unpacker_told r n ≡ run (unpacker end n) s i) where
    pub entries-no : {e : Refusal} → r ≡ Err e → refused (number_of e.0) e.1 ≡ run (entries end) s at
    entries-no e = let x = sym (d k) ∙ ap (λ v. unpacker_told v k) e in sym (turn l ∙ rw x refl)

    pub entries-further : {c : Cursor} → r ≡ Ok c → (i < c.at.0) × (c.at.0 ≤ end)
    entries-further e = let w = at_end (inside-free end end) s (unpacker-on Nothing end end end k i) (sym (d k) ∙ ap (λ v. unpacker_told v k) e) in (w.1, w.2)

    pub entries-on : {c : Cursor} → r ≡ Ok c → Going s end at c.at.0 (k + 1)
    entries-on {c} e =
        let x = sym (d k) ∙ ap (λ v. unpacker_told v k) e in let w = entries-further e in
        record { left = g.left - 1; enough = let y = g.enough in omega arith; few = let y = g.few in omega arith; same = turn l ∙ rw x refl }

pub unpackers-none : (contained end : ℕ) (s : List ℕ) (at : ℕ) {n q : ℕ} → run (block unpack_frame 8 end) s at ≡ ok n q → n ≡ 0
    → ok (record { place = record { 0 = q }; count = 0 }) q ≡ run (unpackers contained end) s at
unfolding unpackers
unpackers-none contained end s at {n} {q} e₁ z = entries-done (entries-begun s (q + n) q) (omega arith) ∙ simp (running, e₁, eq-eqb _ _ z, or-true)

-- ---- reference 1

target-inline : (header_end size r end : ℕ) (s : List ℕ) (at : ℕ) → r ≡ 1 → ok (record { kind = r; target = at; extent = end - at }) at ≡ run (target header_end size r end) s at
unfolding target
target-inline header_end size r end s at e = simp (running, eq-eqb _ _ e)

pub reference-inline : (header_end size contained end : ℕ) (s : List ℕ) (at : ℕ) {r q : ℕ} → run (number reference_frame 3 end) s at ≡ ok r q → r ≡ 1
    → ok (record { kind = r; target = q; extent = end - q }) q ≡ run (reference header_end size contained end) s at
unfolding reference
reference-inline header_end size contained end s at {r} {q} e₁ z =
    let l₁ : 0 < r = omega arith in let l₂ : r ≤ 4 = omega arith in
    target-inline header_end size r end s q z ∙ simp (running, e₁, lt-ltb _ _ l₁, le-leb _ _ l₂, eq-eqb _ _ z, or-true)

-- ---- the whole

module _ {lim : Limits} {r : Result (Front × Cursor) Refusal} {t u : List ℕ} {o : Out (Front × State)} (g : Fronts lim r t u o) where
  pub front-done : {w : Front} {c : Cursor} → r ≡ Ok (w, c) → o ≡ ok (w, state t u w.made) c.at.0
  front-done e = sym g.answer ∙ ap (λ x. front_told x t u) e

  pub front-stopped : {e : Refusal} → r ≡ Err e → o ≡ refused (number_of e.0) e.1
  front-stopped e = sym g.answer ∙ ap (λ x. front_told x t u) e

  pub front-fitting : {w : Front} {c : Cursor} → r ≡ Ok (w, c) → (w.made.nodes ≤ lim.nodes) × (w.made.items ≤ lim.items)
  front-fitting e = subst (FrontFits lim) e g.fits

module _ {lim : Limits} {t u : List ℕ} {o : Out (Front × State)} where
  pub front-no : {e : Refusal} → refused (number_of e.0) e.1 ≡ o → Fronts lim (Err e) t u o
  front-no e = record { answer = e; fits = tt }

  pub front-yes : {w : Front} {c : Cursor} → ok (w, state t u w.made) c.at.0 ≡ o → (w.made.nodes ≤ lim.nodes) ×
      (w.made.items ≤ lim.items) → Fronts lim (Ok (w, c)) t u o
  front-yes e f = record { answer = e; fits = f }

module _ (x : Context) (parent depth : ℕ) (z : Bounds) (m : Made) (s : List ℕ) (at : ℕ) (σ : State) where
  pub front-head : {n p : ℕ} → run (head z) s at ≡ refused n p → refused n p ≡ exec put (front x parent depth z m) s at σ
  unfolding front
  front-head e = simp (executing, exec-head, e)

  module _ {h : Head} {p : ℕ} (e₁ : run (head z) s at ≡ ok h p) {inner : ℕ} (is : inner ≡ at + h.header.0) where
    pub front-metadata : {n q : ℕ} → exec put (metadata x m.nodes inner m) s p σ ≡ refused n q → refused n q ≡ exec put (front x parent depth z m) s at σ
    unfolding front
    front-metadata e = let e' = rw is at e in simp (executing, exec-head, e₁, e')

    module _ {m' : Made} {σ' : State} {q : ℕ} (e₂ : exec put (metadata x m.nodes inner m) s p σ ≡ ok (m', σ') q) {stop : ℕ} (is₂ : stop ≡ at + h.size.0) where
      pub front_rest : {n r : ℕ} → run (rest x.header_end x.size h.contained inner stop) s q ≡ refused n r → refused n r ≡ exec put (front x parent depth z m) s at σ
      unfolding front
      front_rest e = let e₂' = rw is at e₂ in let e' = rw (is, is₂) at e in simp (executing, exec-head, exec-rest, e₁, e₂', e')

      pub front-all : {o : Rest} {r : ℕ} → run (rest x.header_end x.size h.contained inner stop) s q ≡ ok o r
          → {row : Node} → row ≡ row_of at h parent depth z.detached o.reference o.unpackers (m'.items - m.items)
          → ok (record { row = row; made = m' }, σ') r ≡ exec put (front x parent depth z m) s at σ
      unfolding front
      front-all e w = let e₂' = rw is at e₂ in let e' = rw (is, is₂) at e in rw w (simp (executing, exec-head, exec-rest, e₁, e₂', e'))
