-- The ways out of a question over a file: the reader's refusal, the question's own, the answer. What each comes to, answer and both tables.
-- Assumes nothing.
use mathlib.Core.Path.{◌≡◌, sym, ◌∙◌}
use mathlib.Core.List.{List}
use Prim.Native.Nat.{ℕ}
use lib.ListN.{replicate}
use Rattle.std.proofs.Common.{Err}
use Rattle.std.proofs.Common as std
use Rattle.refusals.specs.Reasons.{number_of}
use Rattle.refusals.specs.declared.Refusal.{Refusal}
use Rattle.refusals.specs.Told.{told}
use Rattle.cursor.specs.declared.Node.{Node}
use Rattle.cursor.specs.declared.Item.{Item}
use Rattle.header.specs.Header.{Header}
use Rattle.file.specs.Reading.{Reading, rows, read_of, node_table, item_table}
use Rattle.file.specs.Asking.{Result, good, bad, ask, kept_nodes, kept_items}
use Rattle.file.specs.declared.Summary.{Summary}
use Rattle.file.proofs.Rows.{ask-refused, refused-nodes, refused-items, ask-is, good-nodes, good-items, bad-nodes, bad-items}

module _ (nsize isize : ℕ) (o : Reading) {A : Type 0} (question : Header → List Node → List Item → Result A) where
  -- what a call says of its answer, and of the tables that it leaves
  abbrev pub Says : Result A → (t u : List ℕ) → Type 0
  Says a t u = (a ≡ ask o question) × (t ≡ kept_nodes nsize o (ask o question)) × (u ≡ kept_items isize o (ask o question))

  -- the reader refused the file: the tables are as it left them
  pub says-unread : {r : std.Result Summary Refusal} → told r ≡ read_of o → {x : Refusal} → r ≡ Err x → {t u : List ℕ} → t ≡ node_table nsize o → u ≡
      item_table isize o → Says (bad (number_of x.0) x.1) t u
  says-unread e k a b = (sym (ask-refused o e k question), refused-nodes o question e k nsize a, refused-items o question e k isize b)

  module _ {h : Header} {ns : List Node} {is : List Item} (reads : o ≡ rows h ns is) {t u : List ℕ} where
    -- the question is refused: the tables are cleared
    pub says-refused : {n p : ℕ} → question h ns is ≡ bad n p → t ≡ replicate nsize 0 → u ≡ replicate isize 0 → Says (bad n p) t u
    says-refused e a b = (sym (ask-is reads question ∙ e), bad-nodes reads question nsize e a, bad-items reads question isize e b)

    -- it is answered: the tables hold the file's rows
    pub says-answer : {x : A} → question h ns is ≡ good x → t ≡ node_table nsize o → u ≡ item_table isize o → Says (good x) t u
    says-answer e a b = (sym (ask-is reads question ∙ e), good-nodes reads question nsize e a, good-items reads question isize e b)
