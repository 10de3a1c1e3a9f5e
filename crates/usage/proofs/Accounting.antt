-- Where the bytes of a file go, and sums over files, as the code comes to them.
-- Assumes nothing.
use mathlib.Core.Path.{◌≡◌, refl, sym, ap, ◌∙◌}
use mathlib.Core.List.{List, [], ◌∷◌, ◌++◌}
use Prim.Native.Nat.{ℕ, ◌≤◌, ◌<◌}
use lib.ListN.{length}
use borrow.Author.Tests.{le-leb, lt-leb, le-ltb, lt-ltb}
use Rattle.metadata.specs.Tables.{full_nodes, full_items, limits}
use Rattle.room.specs.Room.{Result, good, bad}
use Rattle.file.specs.Reading.{read_file}
use Rattle.file.specs.Asking.{ask}
use Rattle.text.specs.Text.{number}
use Rattle.account.specs.Account.{kinds_of}
use Rattle.account.specs.ByRows.{plus}
use Rattle.account.specs.Totals.{most_files, zeros, refused_one, allowed, totals_left}
use Rattle.account.specs.declared.Kinds.{Kinds}
use Rattle.account.specs.declared.Totals.{Totals}
use Rattle.lines.specs.Answer.{ended, reads}
use Rattle.usage.specs.Bytes.{kind_line, header_name, nodes_name, metadata_name, visible_name, hidden_name, unpackers_name, references_name, inline_name, rest_name, total_name, total, kind_lines, bytes_line, kinds_in, plus_file, with_file, files_name, refused_name, sum_lines, sums_told}
use Rattle.std.proofs.Common as std
use Rattle.std.proofs.Common.{Ok, Err}
use Rattle.refusals.specs.Reasons.{number_of}
use Rattle.refusals.specs.declared.Refusal.{Refusal}

-- ---- lines, as the bytes that are put one after the other

pub kind-is : (name : List ℕ) (bytes : ℕ) → name ++ number bytes ++ (0x0A ∷ []) ≡ kind_line name bytes
unfolding kind_line
kind-is name bytes = refl

pub kinds-are : (k : Kinds) {all : ℕ} → all ≡ total k → kind_line header_name k.header
    ++ kind_line nodes_name k.nodes
    ++ kind_line metadata_name k.metadata
    ++ kind_line visible_name k.visible
    ++ kind_line hidden_name k.hidden
    ++ kind_line unpackers_name k.unpackers
    ++ kind_line references_name k.references
    ++ kind_line inline_name k.inline
    ++ kind_line rest_name k.rest
    ++ kind_line total_name all ≡ kind_lines k
unfolding kind_lines
kinds-are k e = rw e refl

pub total-is : (k : Kinds) {a b c d e f g h : ℕ} → a ≡ plus k.inline k.rest → b ≡ plus k.references a → c ≡ plus k.unpackers b → d ≡ plus k.hidden c
    → e ≡ plus k.visible d → f ≡ plus k.metadata e → g ≡ plus k.nodes f → h ≡ plus k.header g → h ≡ total k
unfolding total
total-is k i r u hi v m n he = rw (he, n, m, v, hi, u, r, i) refl

pub in_line_is : (tail : List ℕ) (k : Kinds) {all : ℕ} → all ≡ total k → (0x42 ∷ []) ++ number k.header ++ number k.nodes ++ number
    k.metadata ++ number k.visible ++ number k.hidden ++ number k.unpackers ++ number k.references ++ number k.inline ++
    number k.rest
    ++ number all ++ ended tail ≡ bytes_line tail k
unfolding bytes_line
in_line_is tail k e = rw e refl

pub sums-are : (t : Totals) → kind_line files_name t.files ++ kind_line refused_name t.refused ++ kind_lines t.kinds ≡ sum_lines t
unfolding sum_lines
sums-are t = refl

-- ---- a call with full tables

none_yet : {t : Totals} → t ≡ zeros → (o : Result Kinds) → allowed t o ≡ o
unfolding allowed
none_yet e o = rw e refl

module _ (f : List ℕ) {n i : ℕ} (en : full_nodes ≡ n) (ei : full_items ≡ i) where
  full-kinds : ask (read_file (limits n i) f) (kinds_of (limits n i) f) ≡ kinds_in f
  unfolding kinds_in reads
  full-kinds = rw (← en, ← ei)

  pub kinds-told : {t : Totals} {o : Result Kinds} → t ≡ zeros → o ≡ allowed t (ask (read_file (limits n i) f) (kinds_of (limits n i) f)) → kinds_in f ≡ o
  kinds-told z e = sym full-kinds ∙ sym (none_yet z (ask (read_file (limits n i) f) (kinds_of (limits n i) f))) ∙ sym e

  pub totals_told : (t : Totals) {u : Totals} → u ≡ totals_left t (ask (read_file (limits n i) f) (kinds_of (limits n i) f)) → u ≡ totals_left t (kinds_in f)
  totals_told t e = e ∙ ap (totals_left t) full-kinds

-- ---- one more file

module _ (f : List ℕ) {s : std.Result Totals Refusal} where
  pub with_none : {r : Refusal} → s ≡ Err r → bad (number_of r.0) r.1 ≡ with_file (sums_told s) f
  unfolding with_file
  with_none e = rw e

  module _ {t : Totals} (e : s ≡ Ok t) where
    pub with_over : most_files ≤ t.files → bad 32 0 ≡ with_file (sums_told s) f
    unfolding with_file
    with_over l = rw (e, le-leb most_files t.files l)

    module _ (l : t.files < most_files) {u : Totals} where
      pub with_long : 65536 < length f → u ≡ refused_one t → good u ≡ with_file (sums_told s) f
      unfolding with_file plus_file
      with_long m h = rw (e, lt-leb most_files t.files l, lt-ltb 65536 (length f) m, h)

      pub with_short : length f ≤ 65536 → u ≡ totals_left t (kinds_in f) → good u ≡ with_file (sums_told s) f
      unfolding with_file plus_file totals_left
      with_short m h = let w = rw (lt-leb most_files t.files l) at h in rw (e, lt-leb most_files t.files l, le-ltb 65536 (length f) m, w)
