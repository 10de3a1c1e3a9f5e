-- What a run says: the rows that it makes, with bytes for places, in a state of its own.
-- Assumes nothing.
use mathlib.Core.Path.{◌≡◌, refl, ap, ◌∙◌}
use mathlib.Core.List.{List, [], ◌∷◌, ◌++◌, append_assoc, append-nil, map}
use Prim.Native.Nat.{ℕ, ◌+◌}
use lib.ListN.{length, get_or, length-append}
use Rattle.machine.specs.Machine.{ret, refuse, here, byte, pass, Out, ok, refused, run, trace, exec, puts, rows_of}
use Rattle.cursor.specs.Rows.{Part, node_row, item_row, plain, P}
use Rattle.cursor.specs.declared.Node.{Node}
use Rattle.cursor.specs.declared.Item.{Item}
use Rattle.cursor.proofs.Quiet.{IgnoresPlain, still, exec-puts}
use Rattle.cursor.proofs.Post.{Meets, Post}
use Rattle.rows.specs.Rows.{nodes_of, items_of}
use Rattle.title_text.specs.Description.{Content, content, Shape, shape}

pub record Collected : Type 0 where
  pub nodes : List Shape
  pub items : List Content

-- a row is put behind those collected; `say` says what content an item row is, by its number and itself
abbrev pub collect_as : (ℕ → Item → Content) → List ℕ → Part → ℕ → ℕ → Collected → Collected
collect_as say g (node_row r) p n σ = record { nodes = σ.nodes ++ shape g r ∷ []; items = σ.items }
collect_as say g (item_row r) p n σ = record { nodes = σ.nodes; items = σ.items ++ say (length σ.items) r ∷ [] }
collect_as say g (plain x) p n σ = σ

-- as the file has it
abbrev pub collect : List ℕ → Part → ℕ → ℕ → Collected → Collected
collect g = collect_as (λ k r. content g r) g

pub collect-ignores : (say : ℕ → Item → Content) (g : List ℕ) → IgnoresPlain (collect_as say g)
collect-ignores say g = record { ignores = λ x p n σ. refl }

-- more contents; more rows of both kinds
abbrev pub with_items : Collected → List Content → Collected
with_items σ cs = record { nodes = σ.nodes; items = σ.items ++ cs }

abbrev pub with_rows : Collected → List Shape → List Content → Collected
with_rows σ rs cs = record { nodes = σ.nodes ++ rs; items = σ.items ++ cs }

-- ---- what is collected are the rows

-- item rows from number k on
abbrev pub said_from : (ℕ → Item → Content) → ℕ → List Item → List Content
said_from say k [] = []
said_from say k (r ∷ rs) = say k r ∷ said_from say (k + 1) rs

abbrev pub after_rows : {A : Type 0} → (ℕ → Item → Content) → List ℕ → List Node → List Item → Collected → Out A → Out (A × Collected)
after_rows say f ns is σ (ok a p) = ok (a, with_rows σ (map (shape f) ns) (said_from say (length σ.items) is)) p
after_rows say f ns is σ (refused n p) = refused n p

module _ {A : Type 0} (say : ℕ → Item → Content) (f : List ℕ) where
  one-node : (r : Node) (ns : List Node) (is : List Item) (σ : Collected) (o : Out A)
      → after_rows say f ns is (record { nodes = σ.nodes ++ shape f r ∷ []; items = σ.items }) o ≡ after_rows say f (r ∷ ns) is σ o
  one-node r ns is σ (ok a p) = rw (append_assoc σ.nodes (shape f r ∷ []) (map (shape f) ns)) refl
  one-node r ns is σ (refused n p) = refl

  one-item : (r : Item) (ns : List Node) (is : List Item) (σ : Collected) (o : Out A)
      → after_rows say f ns is (record { nodes = σ.nodes; items = σ.items ++ say (length σ.items) r ∷ [] }) o ≡ after_rows say f ns (r ∷ is) σ o
  one-item r ns is σ (ok a p) =
      let c : Content = say (length σ.items) r in
      let e : length (σ.items ++ c ∷ []) ≡ length σ.items + 1 = length-append σ.items (c ∷ []) in
      rw (e, append_assoc σ.items (c ∷ []) (said_from say (length σ.items + 1) is)) refl
  one-item r ns is σ (refused n p) = refl

  pub collects : (m : P A) (at : ℕ) (σ : Collected) → exec (collect_as say f) m f at σ ≡ after_rows say f (nodes_of (trace m f at)) (items_of (trace m f at)) σ (run m f at)
  unfolding exec run trace rows_of
  collects (ret a) at σ = rw (append-nil σ.nodes, append-nil σ.items) refl
  collects (refuse n p) at σ = refl
  collects (here k) at σ = collects (k at) at σ
  collects (byte κ k) at σ = collects (k (get_or f at 0)) (at + 1) σ
  collects (pass (node_row r) n m) at σ = collects m (at + n) (record { nodes = σ.nodes ++ shape f r ∷ []; items = σ.items }) ∙ one-node r _ _ σ (run m f (at + n))
  collects (pass (item_row r) n m) at σ = collects m (at + n) (record { nodes = σ.nodes; items = σ.items ++ say (length σ.items) r ∷ [] }) ∙ one-item r _ _ σ (run m f (at + n))
  collects (pass (plain w) n m) at σ = collects m (at + n) σ

-- ---- plainly, and with another title

pub said_plain : (f : List ℕ) (k : ℕ) (is : List Item) → said_from (λ k r. content f r) k is ≡ map (content f) is
said_plain f k [] = refl
said_plain f k (r ∷ is) = ap (λ v. content f r ∷ v) (said_plain f (k + 1) is)

-- ---- what is known of a run besides: its answer, and the state that it leaves

pub post_known : {A S : Type 0} {put : Part → ℕ → ℕ → S → S} {f : List ℕ} {m : P A} {Q : A → ℕ → S → Type 0} {at : ℕ} {σ : S} → Post put f m
    Q at σ → Post put f m (λ a q τ. Q a q τ × (run m f at ≡ ok a q)) at σ
post_known {A} {S} {put} {f} {m} {Q} {at} {σ} w = record { post = rw (exec-puts put m f at σ) (by (run m f at) refl (rw (exec-puts put m f at σ) at w.post)) }
  where
    by : (o : Out A) → run m f at ≡ o → Meets Q (still o (puts put (trace m f at) σ)) → Meets (λ a q τ. Q a q τ × (run m f at ≡ ok a q)) (still o (puts put (trace m f at) σ))
    by (ok a q) e x = (x, e)
    by (refused n p) e x = tt

pub post_left : {A S : Type 0} {put : Part → ℕ → ℕ → S → S} {f : List ℕ} {m : P A} {Q : A → ℕ → S → Type 0} {at : ℕ} {σ : S} → Post put f m
    Q at σ → Post put f m (λ a q τ. Q a q τ × (τ ≡ puts put (trace m f at) σ)) at σ
post_left {A} {S} {put} {f} {m} {Q} {at} {σ} w = record { post = rw (exec-puts put m f at σ) (by (run m f at) (rw (exec-puts put m f at σ) at w.post)) }
  where
    by : (o : Out A) → Meets Q (still o (puts put (trace m f at) σ)) → Meets (λ a q τ. Q a q τ × (τ ≡ puts put (trace m f at) σ)) (still o (puts put (trace m f at) σ))
    by (ok a q) x = (x, refl)
    by (refused n p) x = tt
