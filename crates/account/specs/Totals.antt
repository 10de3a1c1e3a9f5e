-- Sums over at most 1,000 files, refused ones counted (02, E9). They begin all zero. A sum that would not fit stays at the greatest number; totals that begin all
-- zero never come to that.
-- Assumes nothing.
use Rattle.std.specs.Prelude.{cond, List, [], ◌∷◌, ℕ, eqb, leb}
use Rattle.cursor.specs.Refusals.{too_many_files}
use Rattle.file.specs.Asking.{Result, good, bad}
use Rattle.account.specs.ByRows.{plus}
use Rattle.account.specs.declared.Kinds.{Kinds}
use Rattle.account.specs.declared.Totals.{Totals}

abbrev pub most_files : ℕ
most_files = 1000

abbrev pub zeros : Totals
zeros = record { files = 0; refused = 0; kinds = record { header = 0; nodes = 0; metadata = 0; visible = 0; hidden = 0; unpackers = 0; references = 0; inline = 0; rest = 0 } }

abbrev pub plus_kinds : Kinds → Kinds → Kinds
plus_kinds s k = record {
  header = plus s.header k.header;
  nodes = plus s.nodes k.nodes;
  metadata = plus s.metadata k.metadata;
  visible = plus s.visible k.visible;
  hidden = plus s.hidden k.hidden;
  unpackers = plus s.unpackers k.unpackers;
  references = plus s.references k.references;
  inline = plus s.inline k.inline;
  rest = plus s.rest k.rest;
}

-- one more file; one more, which was refused
abbrev pub added : Totals → Kinds → Totals
added t k = record { files = plus t.files 1; refused = t.refused; kinds = plus_kinds t.kinds k }

abbrev pub refused_one : Totals → Totals
refused_one t = record { files = plus t.files 1; refused = plus t.refused 1; kinds = t.kinds }

abbrev pub one_more : Totals → Result Kinds → Totals
one_more t (good k) = added t k
one_more t (bad n p) = refused_one t

-- ---- a call with these totals, where the file by itself gives o

-- 32 for a 1,001st file, before the reader's refusals
unfoldable pub allowed : Totals → Result Kinds → Result Kinds
allowed t o = cond (leb most_files t.files) (bad too_many_files 0) o

-- the totals that are left; none of a 1,001st file
unfoldable pub totals_left : Totals → Result Kinds → Totals
totals_left t o = cond (leb most_files t.files) t (one_more t o)

-- the same by the answer: what a refusal leaves is told by its number
abbrev pub after_refusal : Totals → (number : ℕ) → Totals
after_refusal t n = cond (eqb n too_many_files) t (refused_one t)

abbrev pub by_answer : Totals → Result Kinds → Totals
by_answer t (good k) = added t k
by_answer t (bad n p) = after_refusal t n

-- its own refusals
abbrev pub refusals : List ℕ
refusals = too_many_files ∷ []
