-- The ways through a node, and through nodes one after the other.
-- Assumes nothing.
use Rattle.std.proofs.Common.{Result, Ok, Err}
use mathlib.Core.Path.{◌≡◌, refl, sym, ap, ◌∙◌}
use mathlib.Core.List.{List}
use Prim.Native.Nat.{ℕ, zero, suc, ◌+◌, ◌-◌, ◌*◌, ◌≤◌, ◌<◌}
use native.Mathlib.Omega.{arith}
use borrow.Author.Tests.{lt-ltb, le-ltb, le-leb, lt-leb, eq-eqb, ne_eqb}
use lib.ListN.{length}
use lib.Seq.{sets}
use Rattle.machine.specs.Machine.{Out, ret, ok, refused, exec, times}
use Rattle.cursor.specs.Rows.{P, Part, node_row, inline_size}
use Rattle.cursor.specs.declared.Node.{Node}
use Rattle.cursor.specs.declared.Cursor.{Cursor}
use Rattle.machine.proofs.Laws.{executing, and_then, ran, exec-times, exec-timed}
use Rattle.machine.proofs.Wp.{at_end}
use Rattle.rows.specs.Rows.{node_width, node_words}
use Rattle.metadata.specs.Tables.{State, state, put, plus_node}
use Rattle.metadata.specs.Metadata.{Context}
use Rattle.metadata.specs.Told.{Gives}
use Rattle.metadata.specs.declared.Limits.{Limits}
use Rattle.metadata.specs.declared.Made.{Made}
use Rattle.refusals.specs.declared.Refusal.{Refusal}
use Rattle.metadata.proofs.Gives.{done, stopped, fitting, no, yes, along}
use Rattle.metadata.proofs.Ends.{Nothing, inside-free}
use Rattle.node.specs.Node.{in_tree, front}
use Rattle.node.specs.declared.Bounds.{Bounds}
use Rattle.node.specs.declared.Front.{Front}
use Rattle.node.proofs.Ends.{front-inside}
use Rattle.tree.specs.Tree.{folder, node, tree}
use Rattle.tree.proofs.Ends.{node-on}

-- ---- inline data

module _ (r : Node) where
  pub inline_is : r.contained ≡ 0 → r.reference ≡ 1 → inline_size r ≡ r.extent
  inline_is z o = simp (eq-eqb _ _ z, eq-eqb _ _ o)

  pub inline_other : r.contained ≡ 0 → ((r.reference ≡ 1) → ⊥) → inline_size r ≡ 0
  inline_other z o = simp (eq-eqb _ _ z, ne_eqb _ _ o)

  pub inline_folder : ((r.contained ≡ 0) → ⊥) → inline_size r ≡ 0
  inline_folder z = simp (ne_eqb _ _ z)

-- ---- the end of a node

module _ (end : ℕ) (m : Made) (s : List ℕ) (at : ℕ) (σ : State) where
  pub end-left : at < end → refused 15 at ≡ exec put (folder end (ret m)) s at σ
  unfolding folder
  end-left h = simp (executing, lt-leb _ _ h)

  pub end-reached : end ≤ at → ok (m, σ) at ≡ exec put (folder end (ret m)) s at σ
  unfolding folder
  end-reached h = simp (executing, le-leb _ _ h)

-- ---- a node

module _ (x : Context) (parent : ℕ) (z : Bounds) (m : Made) (s : List ℕ) (at : ℕ) where
  pub node-none : (levels : ℕ) (σ : State) → levels ≡ 0 → refused 9 at ≡ exec put (node levels x parent z m) s at σ
  unfolding node
  node-none levels σ e = rw e (simp executing)

  pub node-limit : (levels : ℕ) (σ : State) → ((levels ≡ 0) → ⊥) → x.limits.nodes ≤ m.nodes → refused 10 at ≡ exec put (node levels x parent z m) s at σ
  unfolding node
  node-limit zero σ some l = absurd (some refl)
  node-limit (suc d) σ some l = simp (executing, le-ltb _ _ l)

  pub node-front : (levels : ℕ) (σ : State) → ((levels ≡ 0) → ⊥) → m.nodes < x.limits.nodes → {n p : ℕ} → exec put (front x parent (17 - levels) z m) s at σ ≡ refused n p
      → refused n p ≡ exec put (node levels x parent z m) s at σ
  unfolding node
  node-front zero σ some l e = absurd (some refl)
  node-front (suc d) σ some l e = let b : 17 - suc d ≡ 16 - d = omega arith in let e' = rw b at e in simp (executing, lt-ltb _ _ l, e')

  -- past its front, with its row made; for any state
  pub node_in : {S : Type 0} (put : Part → ℕ → ℕ → S → S) (levels : ℕ) (σ : S) → ((levels ≡ 0) → ⊥) → m.nodes < x.limits.nodes →
      {w : Front} {τ : S} {p : ℕ} → exec put (front x parent (17 - levels) z m) s at σ ≡ ok (w, τ) p
      → exec put (node levels x parent z m) s at σ
      ≡ exec put (folder (at + w.row.size) (times w.row.contained (node (levels - 1) x m.nodes (in_tree 0 (at + w.row.size))) (plus_node w.made)))
      s (p + inline_size w.row) (put (node_row w.row) p (inline_size w.row) τ)
  unfolding node
  node_in put zero σ some l e = absurd (some refl)
  node_in put (suc d) σ some l e =
      let a : suc d - 1 ≡ d = omega arith in let b : 17 - suc d ≡ 16 - d = omega arith in let e' = rw b at e in
      simp (executing, lt-ltb _ _ l, e', a)

  module _ (levels : ℕ) (some : (levels ≡ 0) → ⊥) (l : m.nodes < x.limits.nodes) (i : z.end.0 ≤ x.size) (t u u' : List ℕ) {w : Front} {p : ℕ}
      (e : exec put (front x parent (17 - levels) z m) s at (state t u m) ≡ ok (w, state t u' w.made) p)
      (t' : List ℕ) (row : t' ≡ sets t (m.nodes * node_width) (node_words w.row)) {stop : ℕ} (is : stop ≡ at + w.row.size) {q : ℕ} (past : q ≡ p + inline_size w.row) where
    row_is : sets t (w.made.nodes * node_width) (node_words w.row) ≡ t'
    row_is = ap (λ k. sets t (k * node_width) (node_words w.row)) (front-inside x parent (17 - levels) z m s at (state t u m) i e).nodes ∙ sym row

    -- the node behind its row
    node-rest : exec put (node levels x parent z m) s at (state t u m)
        ≡ exec put (folder stop (times w.row.contained (node (levels - 1) x m.nodes (in_tree 0 stop)) (plus_node w.made))) s q (state t' u' (plus_node w.made))
    node-rest = rw (is, past) (node_in put levels (state t u m) some l e ∙ simp row_is)

    pub node-children : {n v : ℕ} → exec put (times w.row.contained (node (levels - 1) x m.nodes (in_tree 0 stop)) (plus_node w.made)) s
        q (state t' u' (plus_node w.made)) ≡ refused n v
        → refused n v ≡ exec put (node levels x parent z m) s at (state t u m)
    unfolding folder
    node-children h = sym (node-rest ∙ simp (executing, h))

    pub node-contained : {m' : Made} {t'' u'' : List ℕ} {v : ℕ}
        → exec put (times w.row.contained (node (levels - 1) x m.nodes (in_tree 0 stop)) (plus_node w.made)) s q
        (state t' u' (plus_node w.made)) ≡ ok (m', state t'' u'' m') v
        → {lim : Limits} {r : Result (Made × Cursor) Refusal} → Gives lim r t'' u'' (exec put (folder stop (ret m')) s v (state t'' u'' m')) → Gives lim r t'' u''
        (exec put (node levels x parent z m) s at (state t u m))
    unfolding folder
    node-contained {m'} {t''} {u''} {v} h g =
        let y : exec put (node levels x parent z m) s at (state t u m) ≡ exec put (folder stop (ret m')) s v (state t'' u'' m') = node-rest ∙ simp (executing, h) in
        rw y g

    -- a file node has no children
    pub node-file : w.row.contained ≡ 0 → {lim : Limits} {r : Result (Made × Cursor) Refusal} → Gives lim r t' u'
        (exec put (folder stop (ret (plus_node w.made))) s q (state t' u' (plus_node w.made)))
        → Gives lim r t' u' (exec put (node levels x parent z m) s at (state t u m))
    node-file none g = node-contained (exec-timed put s w.row.contained q _ (plus_node w.made) (state t' u' (plus_node w.made)) none) g

-- ---- nodes one after the other

module _ (x : Context) (s t₀ u₀ : List ℕ) (levels parent : ℕ) (z : Bounds) (at left : ℕ) (made : Made) where
  -- at i, behind k nodes, with the rows m made and the tables t and u: what is left comes to what the whole comes to. Each node moved on, and where one was read, i is in the part
  pub record Going (t u : List ℕ) (i k : ℕ) (m : Made) : Type 0 where
    pub nodes-long : length t ≡ length t₀
    pub items-long : length u ≡ length u₀
    pub nodes-fit : m.nodes ≤ x.limits.nodes
    pub items-fit : m.items ≤ x.limits.items
    pub onward : at + k ≤ i
    pub within : 0 < k → i ≤ z.end.0
    pub same : exec put (times left (node levels x parent z) made) s at (state t₀ u₀ made) ≡ exec put (times (left - k) (node levels x parent z) m) s i (state t u m)

  pub children-begun : made.nodes ≤ x.limits.nodes → made.items ≤ x.limits.items → Going t₀ u₀ at 0 made
  children-begun h k =
      let e : left - 0 ≡ left = omega arith in
      record { nodes-long = refl; items-long = refl; nodes-fit = h; items-fit = k; onward = omega arith; within = λ l. absurd (omega arith); same = rw e refl }

  pub children-done : {t u : List ℕ} {c : Cursor} {k : ℕ} {m : Made} → Going t u c.at.0 k m → left ≤ k
      → Gives x.limits (Ok (m, c)) t u (exec put (times left (node levels x parent z) made) s at (state t₀ u₀ made))
  children-done {t} {u} {c} {k} {m} g z = yes (sym (g.same ∙ exec-timed put s (left - k) c.at.0 _ m (state t u m) (omega arith))) (g.nodes-fit, g.items-fit)

  -- there are no more nodes than bytes, whatever their number
  pub children-few : {t u : List ℕ} {i k : ℕ} {m : Made} → Going t u i k m → k ≤ z.end.0 - at
  children-few {k = zero} g = omega arith
  children-few {k = suc n} g = omega (arith, g.onward, g.within (omega arith))

  module _ {t u : List ℕ} {i k : ℕ} {m : Made} (g : Going t u i k m) (some : k < left) {t' u' : List ℕ} {r : Result (Made × Cursor) Refusal}
      (d : Gives x.limits r t' u' (exec put (node levels x parent z m) s i (state t u m))) where
    turn : exec put (times left (node levels x parent z) made) s at (state t₀ u₀ made)
        ≡ and_then (exec put (node levels x parent z m) s i (state t u m)) (λ y p. exec put (times (left - (k + 1)) (node levels x parent z) y.0) s p y.1)
    turn =
        let e : left - k - 1 ≡ left - (k + 1) = omega arith in
        rw (← e) (g.same ∙ exec-times put s (left - k) i _ m (state t u m) (λ z. omega arith))

    pub children-no : {e : Refusal} → r ≡ Err e → Gives x.limits (Err e) t' u'
        (exec put (times left (node levels x parent z) made) s at (state t₀ u₀ made))
    children-no h = no (sym (turn ∙ rw (stopped d h) refl))

    -- a node moves on, and ends where its holder does or before
    pub children-further : z.end.0 ≤ x.size → {n : Made} {c : Cursor} → r ≡ Ok (n, c) → (i < c.at.0) × (c.at.0 ≤ z.end.0)
    children-further o h = let w = at_end (inside-free z.end.0 x.size) s
        (node-on Nothing z.end.0 levels x parent z m i (omega arith) o) (ran put _ s i (state t u m) (done d h)) in (w.0, w.1)

    pub children-on : z.end.0 ≤ x.size → {n : Made} {c : Cursor} → r ≡ Ok (n, c) → length t' ≡ length t → length u' ≡ length u → Going t' u' c.at.0 (k + 1) n
    children-on o h j l =
        let b = fitting d h in let w = children-further o h in
        record {
          nodes-long = j ∙ g.nodes-long;
          items-long = l ∙ g.items-long;
          nodes-fit = b.0;
          items-fit = b.1;
          onward = omega
              (arith, g.onward);
          within = λ b. w.1;
          same = turn ∙ rw (done d h) refl;
        }

-- ---- one node alone

once : (f : Made × State → ℕ → Out (Made × State)) → ((y : Made × State) (p : ℕ) → f y p ≡ ok y p) → (o : Out (Made × State)) → and_then o f ≡ o
once f h (ok y p) = h y p
once f h (refused n p) = refl

pub one-node : {lim : Limits} {r : Result (Made × Cursor) Refusal} {t u : List ℕ} (body : Made → P Made) (m : Made) (s : List ℕ) (at : ℕ) (σ : State) → Gives lim r
    t u (exec put (times 1 body m) s at σ) → Gives lim r t u (exec put (body m) s at σ)
one-node body m s at σ g =
    let some : (◌≡◌ {A = ℕ} 1 0) → ⊥ = λ z. omega arith in
    along (sym (exec-times put s 1 at body m σ some ∙ once _ (λ y p. exec-timed put s (1 - 1) p body y.0 y.1 (omega arith)) (exec put (body m) s at σ))) g

-- the root
pub root_is : {lim : Limits} {r : Result (Made × Cursor) Refusal} {t u : List ℕ} (x : Context) (end : ℕ) (s : List ℕ) (at : ℕ) (σ : State)
    → Gives lim r t u (exec put (times 1 (node 16 x 0 (in_tree end end)) (record { nodes = 0; items = 0 })) s at σ) → Gives lim r t u (exec put (tree x end) s at σ)
unfolding tree
root_is x end s at σ g = one-node (node 16 x 0 (in_tree end end)) _ s at σ g
