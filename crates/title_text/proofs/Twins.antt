-- Two written files that differ in copied bytes alone, but for header, unpackers, names, URIs and data that is shown, differ at private places of the first alone.
-- Assumes nothing.
use mathlib.Core.Path.{◌≡◌, refl, sym, ap, ap₂, ◌∙◌, subst}
use mathlib.Core.Bool.{false}
use mathlib.Core.List.{List, [], ◌∷◌}
use Prim.Native.Nat.{ℕ, ◌+◌, ◌-◌, ◌^◌, ◌<◌}
use native.Mathlib.Omega.{arith}
use lib.ListN.{length, take}
use Rattle.machine.specs.Machine.{trace}
use Rattle.cursor.specs.Rows.{P}
use Rattle.room.specs.Parts.{joined}
use Rattle.vlq.specs.Vlq.{vlq, sized}
use Rattle.cursor.specs.declared.Node.{Node}
use Rattle.cursor.specs.declared.Item.{Item}
use Rattle.room.proofs.Lies.{Lies, lies_at, lies_as}
use Rattle.machine.proofs.Agree.{AgreeUpTo, agree_on}
use Rattle.header.specs.Header.{Header}
use Rattle.metadata.specs.declared.Limits.{Limits}
use Rattle.metadata.specs.declared.Made.{Made}
use Rattle.file_laws.specs.Private.{DifferInPrivate}
use Rattle.rows.specs.Rows.{nodes_of, items_of}
use Rattle.file.specs.Reading.{rows, read_file, context}
use Rattle.file.proofs.Follow.{tree_of}
use Rattle.title_text.specs.Description.{Content, Shape, opening_size}
use Rattle.title_text.specs.Text.{outer, tree_start, file_of}
use Rattle.title_text.specs.Title.{elsewhere}
use Rattle.title_text.proofs.Sizes.{S, front}
use Rattle.title_text.proofs.Nodes.{Nodes, AllStay, tree-text, tree-back}
use Rattle.title_text.proofs.Headers.{HeaderSays}
use Rattle.title_text.proofs.Places.{file-stands}
use Rattle.title_text.proofs.Follows.{stay_elsewhere, read_whole}
use Rattle.title_text.proofs.Theorem.{rows-were, tree-some, new-header}
use Rattle.title_text.proofs.Pairs.{Each, fields, outer-pair}
use Rattle.title_text.proofs.Alike.{agree, Pair, pairs, Shapes, each-by, tree-runs}
use Rattle.title_text.proofs.Private.{differ_private}

start-same : (o t g b a g₂ b₂ a₂ : List ℕ) → length g ≡ length g₂ → length b ≡ length b₂ → length a ≡ length a₂ → tree_start o t g₂ b₂ a₂ ≡ tree_start o t g b a
unfolding tree_start
start-same o t g b a g₂ b₂ a₂ x y z = rw (x, y, z) refl

-- the first is accepted, and the second differs from it at its private places alone
pub record Twins (lim : Limits) (g k : List ℕ) : Type 0 where
  pub header : Header
  pub nodes : List Node
  pub items : List Item
  pub reads : read_file lim g ≡ rows header nodes items
  pub differ : DifferInPrivate header nodes items g k

module _ (lim : Limits) {f : List ℕ} {h : Header} (says : HeaderSays f h) (gap after gap₂ after₂ : List ℕ) {rs rs₂ : List Shape} {cs cs₂ : List Content} {b : List ℕ}
    (nodes : Nodes lim h.types 16 0 (record { nodes = 0; items = 0 }) 1 rs cs (b ∷ [])) (stay : AllStay rs) (shapes : Each Shapes rs rs₂)
    (contents : Each Pair cs cs₂) (eg : length gap ≡ length gap₂) (ea : length after ≡ length after₂) where
  abbrev opening : List ℕ
  opening = take (opening_size h.version) f

  abbrev types : List ℕ
  types = sized (joined (vlq (length says.texts) ∷ says.texts))

  abbrev g : List ℕ
  g = file_of opening types gap b after

  abbrev k : List ℕ
  k = file_of opening types gap₂ (joined (outer rs₂ cs₂)) after₂

  tree-long : length b ≡ length (joined (outer rs₂ cs₂))
  tree-long = ap length (sym (tree-text nodes)) ∙ (fields (outer-pair (each-by (λ a b w. w.0) shapes) (pairs contents))).long

  start_is : S opening types gap₂ (joined (outer rs₂ cs₂)) after₂ ≡ S opening types gap b after
  start_is = start-same opening types gap b after gap₂ (joined (outer rs₂ cs₂)) after₂ eg tree-long ea

  module _ (small : length g < 2 ^ 28) (small₂ : length k < 2 ^ 28) where
    pub differ_alike : Twins lim g k
    differ_alike =
        let some = tree-some nodes in let bl = tree-long in
        let st = file-stands opening types gap b after some small in
        let st₂ = file-stands opening types gap₂ (joined (outer rs₂ cs₂)) after₂ (omega arith) small₂ in
        let start : ℕ = S opening types gap b after in let last : ℕ = start + length b - 1 in
        let end : ℕ = front opening types gap b after in let eS = start_is in
        let eL : S opening types gap₂ (joined (outer rs₂ cs₂)) after₂ + length (joined (outer rs₂ cs₂)) - 1 ≡ last = ap (λ n. n - 1) (ap₂ ◌+◌ eS (sym bl)) in
        let lS = ap (λ n. length (vlq n)) eS in let lL = ap (λ n. length (vlq n)) eL in
        let z₁ = st.size_is in let z₂ = st₂.size_is in let y₁ = st.last-is in let y₂ = st₂.last-is in
        let lk : length k ≡ length g = omega arith in let lF = ap (λ n. length (vlq n)) lk in let x₁ = st.end_is in
        let n : ℕ = length opening in
        let k₁ : Lies k n (vlq (length g)) = lies_as (ap vlq lk) st₂.length-lies in
        let k₂ : Lies k (n + length (vlq (length g))) types = lies_at (omega arith) st₂.types-lies in
        let k₃ : Lies k (n + length (vlq (length g)) + length types) (vlq start) = lies_at (omega arith) (lies_as (ap vlq eS) st₂.start-lies) in
        let k₄ : Lies k (n + length (vlq (length g)) + length types + length (vlq start)) (vlq last) = lies_at (omega arith) (lies_as (ap vlq eL) st₂.last-lies) in
        let h' : Header = record { version = h.version; edition = h.edition; types = h.types; extent = record { start = start; last = last; end = end } } in
        let e = new-header says st some small in
        let a₀ = agree {g = g} {k = k} 0 opening st.opening-lies st₂.opening-lies in
        let a₁ = agree {g = g} {k = k} n (vlq (length g)) st.length-lies k₁ in
        let a₂ = agree {g = g} {k = k} (n + length (vlq (length g))) types st.types-lies k₂ in
        let a₃ = agree {g = g} {k = k} (n + length (vlq (length g)) + length types) (vlq start) st.start-lies k₃ in
        let a₄ = agree {g = g} {k = k} (n + length (vlq (length g)) + length types + length (vlq start)) (vlq last) st.last-lies k₄ in
        let chunk : AgreeUpTo g k 0 end = λ j lo hi. agree_on g k {p = 0} {q = n} (λ j lo hi. a₀ j lo (omega arith))
        (agree_on g k a₁ (agree_on g k a₂ (agree_on g k a₃ a₄))) j lo (omega arith) in
        let p : P Made = tree_of lim (length g) h' in
        let tr = tree-runs g k small (context lim h' (length g)) nodes stay shapes contents (last + 1) start st.tree-lies (lies_at eS st₂.tree-lies) st.last-is in
        let w = rows-were g p start (tree-back (context lim h' (length g)) g small nodes stay (last + 1) start st.tree-lies st.last-is) in
        let none : elsewhere (nodes_of (trace p g start)) ≡ false = stay_elsewhere g (nodes_of (trace p g start)) (subst AllStay (sym w.1) stay) in
        record {
          header = h';
          nodes = nodes_of (trace p g start);
          items = items_of (trace p g start);
          reads = read_whole lim g e w.0 none;
          differ = differ_private lim g k h' (omega arith) w.0 (sym lk) chunk tr.keeps;
        }
