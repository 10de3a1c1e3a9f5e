-- `read_counts` reads the rest of the first line.
-- Assumes nothing.
use mathlib.Core.Path.{sym, ap, ◌∙◌}
use native.Mathlib.Omega.{arith}
use Rattle.editions.specs.Sheets.{is_version}
use Rattle.editions.specs.Reads.{number_of}
use Rattle.editions.specs.Told.{NumberAt}
use Rattle.editions.proofs.Places.{next-piece, as_told}
use Rattle.editions.proofs.Judging.{lent}
use Rattle.editions.proofs.First.{lead-short, lead-version, lead-length, lead-nodes, lead-more, lead-items, lead_is}
use Rattle.editions.proofs.read_counts.Goals as goal

pub piece_end-end-requires : goal.piece_end-end-requires
piece_end-end-requires c = c.requires.inside

pub returns-then-line-end : goal.returns-then-line-end
returns-then-line-end c = let piece = next-piece 0x09 c.args.line.now c.args.at
    c.requires.inside c.piece_end-end.ensures.1 in
    lead-short c.args.line.now c.args.second c.args.at
    c.requires piece c.if-line-end.true

pub returns-then-not-is_version : goal.returns-then-not-is_version
returns-then-not-is_version c = lead-version c.args.line.now c.args.second c.args.at c.requires
    (next-piece 0x09 c.args.line.now c.args.at c.requires.inside c.piece_end-end.ensures.1) c.if-line-end.false
    (c.is_version.ensures ∙ ap is_version (lent c.args.line.now c.args.at c.piece_end-end.result (omega (arith, c.piece_end-end.ensures.1)) c.piece_end-end.ensures.0)) c.if-not-is_version.true

pub number_field-requires-2 : goal.number_field-requires-2
number_field-requires-2 c = (as_told (NumberAt c.args.line.now _) c.number_field.ensures c.in_ok-third.was).field.inside

pub piece_end-last-requires : goal.piece_end-last-requires
piece_end-last-requires c = (as_told (NumberAt c.args.line.now _) c.number_field-2.ensures c.in_ok-nodes.was).field.inside

pub returns-then-last-line : goal.returns-then-last-line
returns-then-last-line c = let told = as_told (NumberAt c.args.line.now _) c.number_field-2.ensures c.in_ok-nodes.was in
    let told' = as_told (NumberAt c.args.line.now _) c.number_field.ensures c.in_ok-third.was in
    let piece = next-piece 0x09 c.args.line.now _ told.field.inside c.piece_end-last.ensures.1 in
    let piece' = next-piece 0x09 c.args.line.now c.args.at c.requires.inside c.piece_end-end.ensures.1 in
    lead-more c.args.line.now c.args.second c.args.at c.requires piece' c.if-line-end.false (c.is_version.ensures ∙ ap is_version (lent c.args.line.now c.args.at c.piece_end-end.result (omega (arith, c.piece_end-end.ensures.1)) c.piece_end-end.ensures.0)) c.if-not-is_version.false told' told piece c.if-last-line.true

pub returns-in_err-items : goal.returns-in_err-items
returns-in_err-items c = let told = as_told (NumberAt c.args.line.now _) c.number_field-2.ensures c.in_ok-nodes.was in
    let told' = as_told (NumberAt c.args.line.now _) c.number_field.ensures c.in_ok-third.was in
    let piece = next-piece 0x09 c.args.line.now _ told.field.inside c.piece_end-last.ensures.1 in
    let piece' = next-piece 0x09 c.args.line.now c.args.at c.requires.inside c.piece_end-end.ensures.1 in
    rw c.from_residual-in_err-items.ensures (lead-items c.args.line.now c.args.second c.args.at c.requires piece' c.if-line-end.false (c.is_version.ensures ∙ ap is_version (lent c.args.line.now c.args.at c.piece_end-end.result (omega (arith, c.piece_end-end.ensures.1)) c.piece_end-end.ensures.0)) c.if-not-is_version.false told' told piece
    c.if-last-line.false
    (sym c.in_err-items.was ∙ c.read_number.ensures ∙ ap number_of (lent c.args.line.now _ _ (omega (arith, c.piece_end-last.ensures.1)) c.piece_end-last.ensures.0)))

pub returns-in_err-third : goal.returns-in_err-third
returns-in_err-third c = let told = as_told (NumberAt c.args.line.now _) c.number_field.ensures c.in_err-third.was in
    let piece = next-piece 0x09 c.args.line.now c.args.at c.requires.inside c.piece_end-end.ensures.1 in
    rw c.from_residual.ensures (lead-length c.args.line.now c.args.second c.args.at c.requires piece c.if-line-end.false (c.is_version.ensures ∙ ap is_version (lent c.args.line.now c.args.at c.piece_end-end.result (omega (arith, c.piece_end-end.ensures.1)) c.piece_end-end.ensures.0)) c.if-not-is_version.false told)

pub returns-in_err-nodes : goal.returns-in_err-nodes
returns-in_err-nodes c = let told = as_told (NumberAt c.args.line.now _) c.number_field-2.ensures c.in_err-nodes.was in
    let told' = as_told (NumberAt c.args.line.now _) c.number_field.ensures c.in_ok-third.was in
    let piece = next-piece 0x09 c.args.line.now c.args.at c.requires.inside c.piece_end-end.ensures.1 in
    rw c.from_residual-in_err-nodes.ensures (lead-nodes c.args.line.now c.args.second c.args.at c.requires piece c.if-line-end.false (c.is_version.ensures ∙ ap is_version (lent c.args.line.now c.args.at c.piece_end-end.result (omega (arith, c.piece_end-end.ensures.1)) c.piece_end-end.ensures.0)) c.if-not-is_version.false told' told)

pub returns : goal.returns
returns c = let told = as_told (NumberAt c.args.line.now _) c.number_field-2.ensures c.in_ok-nodes.was in
    let told' = as_told (NumberAt c.args.line.now _) c.number_field.ensures c.in_ok-third.was in
    let piece = next-piece 0x09 c.args.line.now _ told.field.inside c.piece_end-last.ensures.1 in
    let piece' = next-piece 0x09 c.args.line.now c.args.at c.requires.inside c.piece_end-end.ensures.1 in
    lead_is c.args.line.now c.args.second c.args.at c.requires piece' c.if-line-end.false (c.is_version.ensures ∙ ap is_version (lent c.args.line.now c.args.at c.piece_end-end.result (omega (arith, c.piece_end-end.ensures.1)) c.piece_end-end.ensures.0)) c.if-not-is_version.false told' told piece
    c.if-last-line.false
    (sym c.in_ok-items.was ∙ c.read_number.ensures ∙ ap number_of (lent c.args.line.now _ _ (omega (arith, c.piece_end-last.ensures.1)) c.piece_end-last.ensures.0))
