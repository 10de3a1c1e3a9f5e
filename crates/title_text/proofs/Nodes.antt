-- The tree that was written is read back, and says what was written. The grammar of nodes is free of places.
-- Assumes nothing.
use mathlib.Core.Path.{◌≡◌, refl, ap, ◌∙◌}
use mathlib.Core.List.{List, [], ◌∷◌, ◌++◌, append_assoc, append-nil}
use Prim.Native.Nat.{ℕ, suc, ◌+◌, ◌-◌, ◌^◌, ◌≤◌, ◌<◌}
use native.Mathlib.Omega.{arith}
use lib.ListN.{length, length-append}
use lib.Seq.{take_at, drop_at}
use borrow.Author.Tests.{le-leb}
use Rattle.machine.specs.Machine.{Out, ok, exec, times}
use Rattle.cursor.specs.Rows.{node_row, inline_size, P}
use Rattle.room.specs.Parts.{joined}
use Rattle.machine.proofs.Laws.{executing}
use Rattle.room.proofs.Lies.{Lies, lies_left, lies_right}
use Rattle.header.specs.Types.{Declared}
use Rattle.metadata.specs.Tables.{plus_node}
use Rattle.metadata.specs.Metadata.{Context}
use Rattle.metadata.specs.declared.Limits.{Limits}
use Rattle.metadata.specs.declared.Made.{Made}
use Rattle.node.specs.Node.{in_tree}
use Rattle.tree.specs.Tree.{folder, node, tree}
use Rattle.tree.proofs.Nodes.{node_in}
use Rattle.title_text.specs.Description.{Content, Shape}
use Rattle.title_text.specs.Text.{node_text, whole_text, outer}
use Rattle.title_text.proofs.Collecting.{Collected, collect, with_items, with_rows}
use Rattle.title_text.proofs.Items.{plus_items}
use Rattle.title_text.proofs.Fronts.{Stays, Front, FrontBack, front-back}

-- a node row more for each shape, and an item row for each content
abbrev pub made_by : List Shape → List Content → Made → Made
made_by rs cs m = record { nodes = m.nodes + length rs; items = m.items + length cs }

module _ (limits : Limits) (types : List Declared) where
  -- n nodes end to end, with d levels left, behind the rows m: their rows, those of their items, and the bytes of each with all that it holds
  pub data Nodes : (d parent : ℕ) → Made → (n : ℕ) → List Shape → List Content → List (List ℕ) → Type 0 where
    none : {d parent : ℕ} {m : Made} → Nodes d parent m 0 [] [] []
    more : {d parent n : ℕ} {m : Made} {r : Shape} {rs ss : List Shape} {cs ds es : List Content} {inner bs : List (List ℕ)} → Front limits types parent (16 - d) m r cs
        → Nodes d m.nodes (made_by (r ∷ []) cs m) r.contained rs ds inner → Nodes (suc d) parent (made_by (r ∷ rs) (cs ++ ds) m) n ss es bs
        → Nodes (suc d) parent m (suc n) (r ∷ (rs ++ ss)) (cs ++ ds ++ es) (whole_text r cs (joined inner) ∷ bs)

-- ---- the bytes are those of the rows

module _ {limits : Limits} {types : List Declared} where
  pub nodes-length : {d parent n : ℕ} {m : Made} {rs : List Shape} {cs : List Content} {bs : List (List ℕ)} → Nodes limits types d parent m n rs cs bs → length bs ≡ n
  nodes-length none = refl
  nodes-length (more f ys xs) = ap suc (nodes-length xs)

  -- they are the first of those that no other holds
  pub nodes-outer : {d parent n : ℕ} {m : Made} {rs : List Shape} {cs : List Content} {bs : List (List ℕ)} → Nodes limits types d parent m n
      rs cs bs → (ss : List Shape) (ds : List Content) → outer (rs ++ ss) (cs ++ ds) ≡ bs ++ outer ss ds
  unfolding outer
  nodes-outer none ss ds = refl
  nodes-outer (more {r = r} {rs = rs} {ss = ts} {cs = cs} {ds = es} {es = fs} {inner = inner} {bs = bs} f ys xs) ss ds =
      let e = f.counted in let l = nodes-length ys in
      let i : outer ((rs ++ ts) ++ ss) (es ++ (fs ++ ds)) ≡ inner ++ (bs ++ outer ss ds) = rw append_assoc
      (nodes-outer ys (ts ++ ss) (fs ++ ds) ∙ ap (λ v. inner ++ v) (nodes-outer xs ss ds)) in
      rw (
        append_assoc (cs ++ es) fs ds,
        append_assoc cs es (fs ++ ds),
        take_at cs (es ++ (fs ++ ds)) r.rows e,
        drop_at cs (es ++ (fs ++ ds))
            r.rows e,
        i,
        take_at inner (bs ++ outer ss ds) r.contained l,
        drop_at inner (bs ++ outer ss ds) r.contained l,
      ) refl

  pub tree-text : {d parent : ℕ} {m : Made} {rs : List Shape} {cs : List Content} {b : List ℕ} → Nodes limits types d parent m 1 rs cs (b ∷ []) → joined (outer rs cs) ≡ b
  unfolding outer
  tree-text {rs = rs} {cs = cs} {b = b} w =
      let e = nodes-outer w [] [] in
      let k : outer rs cs ≡ b ∷ [] = rw (append-nil rs, append-nil cs) at e in
      rw (k, append-nil b) refl

-- ---- read back

-- no node names a place of the file
abbrev pub AllStay : List Shape → Type 0
AllStay [] = Unit {0}
AllStay (r ∷ rs) = Stays r × AllStay rs

pub stay_left : (rs ss : List Shape) → AllStay (rs ++ ss) → AllStay rs
stay_left [] ss a = tt
stay_left (r ∷ rs) ss a = (a.0, stay_left rs ss a.1)

pub stay_right : (rs ss : List Shape) → AllStay (rs ++ ss) → AllStay ss
stay_right [] ss a = a
stay_right (r ∷ rs) ss a = stay_right rs ss a.1

pub whole_length : (r : Shape) (cs : List Content) (inner : List ℕ) → length (whole_text r cs inner) ≡ length (node_text r cs (length inner)) + length inner
unfolding whole_text
whole_length r cs inner = length-append (node_text r cs (length inner)) inner

pub inner_lies : {g : List ℕ} {p : ℕ} (r : Shape) (cs : List Content) (inner : List ℕ) → Lies g p (whole_text r cs inner) → Lies g (p + length (node_text r cs (length inner))) inner
unfolding whole_text
inner_lies r cs inner h = lies_right (node_text r cs (length inner)) inner h

folder-in : (g : List ℕ) (end : ℕ) (children : P Made) (q : ℕ) (τ : Collected) {o : Made} {υ : Collected} {r : ℕ} → exec (collect g)
    children g q τ ≡ ok (o, υ) r → end ≤ r → exec (collect g) (folder end children) g q τ ≡ ok (o, υ) r
unfolding folder
folder-in g end children q τ e l = simp (executing, e, le-leb _ _ l)

module _ (x : Context) (g : List ℕ) (d parent least end : ℕ) (m : Made) (p : ℕ) (σ : Collected) {r : Shape} {cs : List Content} where
  pub node-back : (rs : List Shape) (ds : List Content) (inner : List (List ℕ)) → m.nodes < x.limits.nodes → FrontBack x g parent (16 - d) least end m r cs (joined inner) p σ
      → exec (collect g) (times r.contained (node d x m.nodes (in_tree 0 (p + length (whole_text r cs (joined inner)))))
      (plus_node (plus_items (length cs) m))) g (p + length (node_text r cs (length (joined inner)))) (with_rows σ (r ∷ []) cs)
      ≡ ok (made_by rs ds (made_by (r ∷ []) cs m), with_rows (with_rows σ (r ∷ []) cs) rs ds) (p + length (node_text r cs (length (joined inner))) + length (joined inner))
      → exec (collect g) (node (suc d) x parent (in_tree least end) m) g p σ ≡ ok (made_by (r ∷ rs) (cs ++ ds) m, with_rows σ (r ∷ rs) (cs ++ ds))
      (p + length (whole_text r cs (joined inner)))
  node-back rs ds inner room b c =
      let w = whole_length r cs (joined inner) in
      let t : p + length (node_text r cs (length (joined inner))) + length (joined inner) ≡ p + length (whole_text r cs (joined inner)) = omega arith in
      let y = length-append cs ds in
      let u : m.nodes + 1 + length rs ≡ m.nodes + suc (length rs) = omega arith in
      let v : m.items + length cs + length ds ≡ m.items + length (cs ++ ds) = omega arith in
      let o : Out (Made × Collected) = ok (made_by (r ∷ rs) (cs ++ ds) m, with_rows σ (r ∷ rs) (cs ++ ds)) (p + length (whole_text r cs (joined inner))) in
      let k₁ : suc d - 1 ≡ d = omega arith in let k₂ : 17 - suc d ≡ 16 - d = omega arith in let row = b.is.row in
      let q : ℕ = b.next + inline_size row in
      let τ : Collected = collect g (node_row row) b.next (inline_size row) (with_items σ cs) in
      let c₁ : exec (collect g) (times r.contained (node d x m.nodes (in_tree 0 (p + length (whole_text r cs (joined inner)))))
      (plus_node (plus_items (length cs) m))) g (p + length (node_text r cs (length (joined inner)))) (with_rows σ (r ∷ []) cs) ≡ o = c ∙ simp
      (t, u, v, append_assoc) in
      let c₂ : exec (collect g) (times row.contained (node d x m.nodes (in_tree 0 (p + row.size))) (plus_node b.is.made)) g q τ ≡ o = rw
      (b.says, b.past, b.contained, b.size, b.made) c₁ in
      let k : p + row.size ≤ p + length (whole_text r cs (joined inner)) = omega (arith, b.size) in
      let n = node_in x parent (in_tree least end) m g p (collect g) (suc d) σ (λ z. omega arith) room {w = b.is} {τ = with_items σ cs} {p = b.next} (rw k₂ b.ran) in
      rw k₁ at n ∙ folder-in g (p + row.size) (times row.contained (node d x m.nodes (in_tree 0 (p + row.size))) (plus_node b.is.made)) q τ c₂ k

-- ---- all of them

-- a node that holds none has no bytes in it
pub alone : {limits : Limits} {types : List Declared} {d parent n : ℕ} {m : Made} {rs : List Shape} {cs : List Content}
    {bs : List (List ℕ)} → Nodes limits types d parent m n rs cs bs → n ≡ 0 → length (joined bs) ≡ 0
alone none e = refl
alone (more f ys xs) e = absurd (omega arith)

module _ (x : Context) (g : List ℕ) (big : length g < 2 ^ 28) where
  pub nodes-back : {d parent n : ℕ} {m : Made} {rs : List Shape} {cs : List Content} {bs : List (List ℕ)} → Nodes x.limits x.types d
      parent m n rs cs bs → AllStay rs → (end p : ℕ) (σ : Collected) → Lies g p (joined bs) → p + length (joined bs) ≤ end
      → exec (collect g) (times n (node d x parent (in_tree 0 end)) m) g p σ ≡ ok (made_by rs cs m, with_rows σ rs cs) (p + length (joined bs))
  unfolding times
  nodes-back {m = m} none stay end p σ h i =
      let a : p + 0 ≡ p = omega arith in let b : m.nodes + 0 ≡ m.nodes = omega arith in
      let c : m.items + 0 ≡ m.items = omega arith in
      simp (executing, a, b, c, append-nil)
  nodes-back {parent = parent} {m = m} (more {d = d} {n = n} {r = r} {rs = rs} {ss = ss} {cs = cs} {ds = ds} {es = es} {inner = inner} {bs = bs} f ys xs) stay end p σ h i =
      let t : List ℕ = whole_text r cs (joined inner) in let y = length-append t (joined bs) in
      let w = length-append (cs ++ ds) es in let l = length-append rs ss in let k = whole_length r cs (joined inner) in
      let b = front-back x g big parent (16 - d) 0 end m r cs (joined inner) p σ f stay.0 (alone ys) (lies_left t (joined bs) h) (omega arith) (omega arith) in
      let c = nodes-back ys (stay_left rs ss stay.1) (p + length t) (p + length (node_text r cs (length (joined inner))))
      (with_rows σ (r ∷ []) cs) (inner_lies r cs (joined inner) (lies_left t (joined bs) h)) (omega arith) in
      let e₁ = node-back x g d parent 0 end m p σ rs ds inner f.node-room b c in
      let e₂ = nodes-back xs (stay_right rs ss stay.1) end (p + length t) (with_rows σ (r ∷ rs) (cs ++ ds)) (lies_right t (joined bs) h) (omega arith) in
      let a : p + length t + length (joined bs) ≡ p + length (t ++ joined bs) = omega arith in
      let u : m.nodes + suc (length rs) + length ss ≡ m.nodes + suc (length (rs ++ ss)) = omega arith in
      let v : m.items + length (cs ++ ds) + length es ≡ m.items + length (cs ++ ds ++ es) = omega arith in
      simp (executing, e₁, e₂, a, u, v, append_assoc)

  -- the root fills the tree
  pub root_back : {d parent : ℕ} {m : Made} {rs : List Shape} {cs : List Content} {b : List ℕ} → Nodes x.limits x.types d parent m 1 rs
      cs (b ∷ []) → AllStay rs → (end p : ℕ) (σ : Collected) → Lies g p b → p + length b ≡ end
      → exec (collect g) (node d x parent (in_tree end end) m) g p σ ≡ ok (made_by rs cs m, with_rows σ rs cs) end
  root_back {parent = parent} {m = m} (more {d = d} {r = r} {rs = rs} {cs = cs} {ds = ds} {inner = inner} f ys none) stay end p σ h i =
      let t : List ℕ = whole_text r cs (joined inner) in let k = whole_length r cs (joined inner) in
      let b = front-back x g big parent (16 - d) end end m r cs (joined inner) p σ f stay.0 (alone ys) h (omega arith) (omega arith) in
      let c = nodes-back ys (stay_left rs [] stay.1) (p + length t) (p + length (node_text r cs (length (joined inner))))
      (with_rows σ (r ∷ []) cs) (inner_lies r cs (joined inner) h) (omega arith) in
      rw (append-nil (cs ++ ds), append-nil rs)
      (node-back x g d parent end end m p σ rs ds inner f.node-room b c ∙ ap
      (λ v. ok (made_by (r ∷ rs) (cs ++ ds) m, with_rows σ (r ∷ rs) (cs ++ ds)) v) i)

  -- the tree that was written is read back, and says what was written
  pub tree-back : {rs : List Shape} {cs : List Content} {b : List ℕ} → Nodes x.limits x.types 16 0 (record { nodes = 0; items = 0 }) 1
      rs cs (b ∷ []) → AllStay rs → (end p : ℕ) → Lies g p b → p + length b ≡ end
      → exec (collect g) (tree x end) g p (record { nodes = []; items = [] }) ≡ ok (made_by rs cs (record { nodes = 0; items = 0 }), record { nodes = rs; items = cs }) end
  unfolding tree
  tree-back w stay end p h i = root_back w stay end p (record { nodes = []; items = [] }) h i
