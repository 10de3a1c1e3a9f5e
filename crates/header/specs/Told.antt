-- What the code's answers say, beside the table of types that the call left.
-- Assumes nothing.
use Rattle.std.specs.Prelude.{Result, Ok, Err, List, ℕ, ◌≤◌}
use Rattle.machine.specs.Machine.{Out, ok, refused}
use Rattle.refusals.specs.Reasons.{number_of}
use Rattle.refusals.specs.declared.Refusal.{Refusal}
use Rattle.cursor.specs.declared.Cursor.{Cursor}
use Rattle.header.specs.Types.{Declared, types_of, most_types}
use Rattle.header.specs.Header as spec
use Rattle.header.specs.declared.Header.{Header}
use Rattle.header.specs.declared.Edition.{Edition}
use Rattle.header.specs.declared.Extent.{Extent}

abbrev pub edition_of : Edition → spec.Edition
edition_of e = record { type = e.kind; revision = e.revision }

abbrev pub edition_told : Result (Edition × Cursor) Refusal → Out spec.Edition
edition_told (Ok (e, c)) = ok (edition_of e) c.at.0
edition_told (Err r) = refused (number_of r.0) r.1

-- an entry that was read is one type more
abbrev pub entry_told : Result Cursor Refusal → List Declared → Out (List Declared)
entry_told (Ok c) ds = ok ds c.at.0
entry_told (Err r) ds = refused (number_of r.0) r.1

abbrev pub types_told : Result (ℕ × Cursor) Refusal → List ℕ → Out (List Declared)
types_told (Ok (n, c)) ws = ok (types_of n ws) c.at.0
types_told (Err r) ws = refused (number_of r.0) r.1

-- the table has room for the types
abbrev pub Listed : Result (ℕ × Cursor) Refusal → Type 0
Listed (Ok (n, c)) = n ≤ most_types
Listed (Err r) = Unit {0}

abbrev pub extent_of : Extent → spec.Extent
extent_of x = record { start = x.start.0; last = x.last.0; end = x.end.0 }

abbrev pub extent_told : Result Extent Refusal → Out spec.Extent
extent_told (Ok x) = ok (extent_of x) x.end.0
extent_told (Err r) = refused (number_of r.0) r.1

abbrev pub header_of : Header → List ℕ → spec.Header
header_of h ws = record { version = h.version; edition = edition_of h.edition; types = types_of h.types ws; extent = extent_of h.extent }

abbrev pub header_told : Result Header Refusal → List ℕ → Out spec.Header
header_told (Ok h) ws = ok (header_of h ws) h.extent.end.0
header_told (Err r) ws = refused (number_of r.0) r.1

abbrev pub Few : Result Header Refusal → Type 0
Few (Ok h) = h.types ≤ most_types
Few (Err r) = Unit {0}
