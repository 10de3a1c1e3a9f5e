-- The header of a file that was read, read once more.
-- Assumes nothing.
use mathlib.Core.Path.{◌≡◌, refl, sym, ap, ◌∙◌, subst}
use Rattle.std.proofs.Common.{Result, Ok, Err}
use Rattle.refusals.specs.declared.Refusal.{Refusal}
use mathlib.Core.List.{List, map}
use Prim.Native.Nat.{ℕ, ◌+◌, ◌-◌, ◌≤◌, ◌<◌}
use native.Mathlib.Omega.{arith}
use lib.ListN.{length, take, drop}
use Rattle.machine.specs.Machine.{ok, refused, run}
use Rattle.room.specs.Parts.{part, joined}
use Rattle.vlq.specs.Vlq.{sized}
use Rattle.cursor.specs.declared.Node.{Node}
use Rattle.cursor.specs.declared.Item.{Item}
use Rattle.header.specs.Header as spec
use Rattle.header.specs.Told.{header_of, header_told}
use Rattle.header.specs.declared.Header.{Header}
use Rattle.metadata.specs.declared.Limits.{Limits}
use Rattle.file.specs.Reading.{rows, read_file}
use Rattle.file.proofs.Follow.{read_back}
use Rattle.file.proofs.Shown.{header_of_lem}
use Rattle.title_text.specs.Description.{answer, table_text, opening_size, content, shape, titled_at}
use Rattle.title_text.specs.Text.{outer, file_of}
use Rattle.title_text.specs.Title.{titled_file}
use Rattle.title_text.proofs.Headers.{header-says}
use Rattle.title_text.proofs.Theorem.{same-file}

never : {A : Type 0} {B : Type 0} {a : A} {n p q : ℕ} → refused n p ≡ ok a q → B
never e = let z : ◌≡◌ {A = ℕ} 0 1 = cc in absurd (omega arith)

ok-left : {A : Type 0} {a b : A} {p q : ℕ} → ok a p ≡ ok b q → a ≡ b
ok-left e = cc

module _ (lim : Limits) (f : List ℕ) {h : spec.Header} {ns : List Node} {is : List Item} (reads : read_file lim f ≡ rows h ns is)
    (r : Result Header Refusal) (ws : List ℕ) (e : header_told r ws ≡ run (spec.header (length f)) f 0) where
  pub never_refused : {x : Refusal} {B : Type 0} → r ≡ Err x → B
  never_refused k = never (sym (ap (λ v. header_told v ws) k) ∙ e ∙ (read_back lim f reads).header_is)

  module _ {g : Header} (k : r ≡ Ok g) where
    header-same : header_of g ws ≡ h
    header-same = ok-left (sym (ap (λ v. header_told v ws) k) ∙ e ∙ (read_back lim f reads).header_is)

    module _ {o : ℕ} (size : o ≡ opening_size g.version) where
      pub header-inside : (o ≤ length f) × (g.extent.end.0 ≤ g.extent.start.0) × (g.extent.start.0 ≤ g.extent.last.0) × (g.extent.last.0 < length f)
      header-inside =
          let a = read_back lim f reads in let b = header_of_lem a in let c = (header-says f a.header_is).long in
          subst (λ (v : spec.Header). (opening_size v.version ≤ length f) → (v.extent.end ≤ v.extent.start) →
          (v.extent.start ≤ v.extent.last) → (v.extent.last < length f) → (o ≤ length f) × (g.extent.end.0 ≤ g.extent.start.0) ×
          (g.extent.start.0 ≤ g.extent.last.0) × (g.extent.last.0 < length f))
          header-same (λ i j l m. (omega arith, j, l, m)) c (omega arith) b.2 b.3

      pub file-same : (row : ℕ) (title : List ℕ) {tree : List ℕ} → joined (outer (map (shape f) ns) (titled_at row title (map (content f) is))) ≡ tree
          → file_of (take o f) (sized (answer (run (table_text f) f o))) (part f g.extent.end.0 (g.extent.start.0 - g.extent.end.0)) tree
          (drop (g.extent.last.0 + 1) f) ≡ titled_file row title f h ns is
      file-same row title {tree} t =
          subst (λ v. file_of (take v f) (sized (answer (run (table_text f) f v)))
          (part f g.extent.end.0 (g.extent.start.0 - g.extent.end.0)) tree (drop (g.extent.last.0 + 1) f) ≡ titled_file row title f h
          ns is) (sym size)
          (subst (λ (v : spec.Header). file_of (take (opening_size g.version) f) (sized (answer (run (table_text f) f (opening_size g.version))))
          (part f g.extent.end.0 (g.extent.start.0 - g.extent.end.0)) tree (drop (g.extent.last.0 + 1) f) ≡ titled_file row title f v
          ns is) header-same
          (same-file f (header_of g ws) ns is row title (answer (run (table_text f) f (opening_size g.version))) tree refl t))
