-- `measure_reference` counts ReferenceTypeID, and a URI with its length or inline data.
-- Assumes nothing.
use mathlib.Core.List.{List}
use Prim.Native.Nat.{ℕ}
use Rattle.title_nodes.proofs.Nodes.{uri_counted, inline_counted}
use Rattle.title_nodes.proofs.measure_reference.Goals as goal

pub returns-then-reference-eq4 : goal.returns-then-reference-eq4
returns-then-reference-eq4 c = λ (f : List ℕ) (place : ℕ) inside. uri_counted f _ place _ inside c.vlq_size-a.ensures c.if-reference-eq4.true
    c.vlq_size.ensures c.on.ensures c.on-then-reference-eq4.ensures

pub returns : goal.returns
returns c = λ (f : List ℕ) (place : ℕ) inside. inline_counted f _ place _ inside c.vlq_size-a.ensures c.if-reference-eq4.false c.on-2.ensures
