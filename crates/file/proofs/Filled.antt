-- A run leaves in the tables the rows of its trace, and behind them what was there.
-- Assumes nothing.
use mathlib.Core.Path.{◌≡◌, refl, ap, ◌∙◌}
use mathlib.Core.List.{List, [], ◌∷◌}
use Prim.Native.Nat.{ℕ, suc, ◌+◌, ◌*◌}
use native.Mathlib.Nat.{add-zero}
use native.Mathlib.Omega.{arith}
use lib.ListN.{length, get_or}
use lib.Seq.{sets}
use Rattle.machine.specs.Machine.{ret, refuse, here, byte, pass, seen, passed, run, trace, exec, puts, rows_of}
use Rattle.cursor.specs.Rows.{Part, node_row, item_row, plain, P, Events}
use Rattle.cursor.proofs.Quiet.{still}
use Rattle.rows.specs.Rows.{node_width, item_width, node_words, item_words, nodes_of, items_of, all_rows, all_nodes, all_items}
use Rattle.metadata.specs.Tables.{State, put}
use Rattle.room.proofs.Sets.{sets-append}

-- the rows of events, behind those that are there
abbrev pub filled : Events → State → State
filled es σ = record {
  nodes = sets σ.nodes (σ.made.nodes * node_width) (all_nodes (nodes_of es));
  items = sets σ.items (σ.made.items * item_width) (all_items (items_of es));
  made = record { nodes = σ.made.nodes + length (nodes_of es); items = σ.made.items + length (items_of es) };
}

-- one more row, and rows behind it, whatever their width
rows_behind : {A : Type 0} (width : ℕ) (words : A → List ℕ) (r : A) → length (words r) ≡ width → (t : List ℕ) (k : ℕ) (rs : List A)
    → sets (sets t (k * width) (words r)) ((k + 1) * width) (all_rows words rs) ≡ sets t (k * width) (all_rows words (r ∷ rs))
rows_behind width words r e t k rs =
    let a : (k + 1) * width ≡ k * width + length (words r) = omega arith in
    ap (λ n. sets (sets t (k * width) (words r)) n (all_rows words rs)) a ∙ sets-append t (k * width) (words r) (all_rows words rs)

filled_more : (w : Part) (p n : ℕ) (es : Events) (σ : State) → filled es (put w p n σ) ≡ filled (passed w p n ∷ es) σ
unfolding rows_of
filled_more (node_row r) p n es σ =
    let a = rows_behind node_width node_words r refl σ.nodes σ.made.nodes (nodes_of es) in
    let b : σ.made.nodes + 1 + length (nodes_of es) ≡ σ.made.nodes + suc (length (nodes_of es)) = omega arith in
    rw (a, b)
filled_more (item_row r) p n es σ =
    let a = rows_behind item_width item_words r refl σ.items σ.made.items (items_of es) in
    let b : σ.made.items + 1 + length (items_of es) ≡ σ.made.items + suc (length (items_of es)) = omega arith in
    rw (a, b)
filled_more (plain x) p n es σ = refl

pub puts-fills : (es : Events) (σ : State) → puts put es σ ≡ filled es σ
unfolding puts rows_of
puts-fills [] σ = rw (add-zero σ.made.nodes, add-zero σ.made.items)
puts-fills (seen κ p ∷ es) σ = puts-fills es σ
puts-fills (passed w p n ∷ es) σ = puts-fills es (put w p n σ) ∙ filled_more w p n es σ

pub exec-fills : {A : Type 0} (m : P A) (f : List ℕ) (at : ℕ) (σ : State) → exec put m f at σ ≡ still (run m f at) (filled (trace m f at) σ)
unfolding exec run trace rows_of
exec-fills (ret a) f at σ = rw (add-zero σ.made.nodes, add-zero σ.made.items)
exec-fills (refuse n p) f at σ = refl
exec-fills (here k) f at σ = exec-fills (k at) f at σ
exec-fills (byte κ k) f at σ = exec-fills (k (get_or f at 0)) f (at + 1) σ
exec-fills (pass w n m) f at σ = exec-fills m f (at + n) (put w at n σ) ∙ ap (λ τ. still (run m f (at + n)) τ) (filled_more w at n (trace m f (at + n)) σ)
