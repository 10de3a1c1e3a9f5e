-- `unpackers_of` counts, and compares with the bytes that the file has.
-- Assumes nothing.
use Rattle.title_parts.proofs.Copying.{copied-nowhere, copied-no, copied-answer}
use Rattle.title_parts.proofs.Standing.{unpackers-cover, covers-rise, packed_none, packed-other, packed-same}
use native.Mathlib.Omega.{arith}
use Rattle.title_parts.proofs.unpackers_of.Goals as goal

pub overflow_sub-end : goal.overflow_sub-end
overflow_sub-end c = omega (arith, covers-rise (unpackers-cover _ _ _ (copied-answer (copied-nowhere c.copy_unpackers.ensures c.in-Ok.is))))

pub returns-then-end-at : goal.returns-then-end-at
returns-then-end-at c = packed-other _ _ (copied-nowhere c.copy_unpackers.ensures c.in-Ok.is)

pub returns-in_default : goal.returns-in_default
returns-in_default c = packed_none _ _ (copied-no c.copy_unpackers.ensures c.in_default.is)

pub returns : goal.returns
returns c = packed-same _ _ (copied-nowhere c.copy_unpackers.ensures c.in-Ok.is) c.requires
    (λ k. omega (arith, c.type_inv.file k)) c.if-end-at.false c.if-file-end.false
