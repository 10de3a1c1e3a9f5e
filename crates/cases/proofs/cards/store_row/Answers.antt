-- One card more is stored, and all are.
-- Assumes nothing.
use Rattle.std.proofs.Common.{◌≡◌, ℕ, ◌*◌, ◌/◌, min, length, get_or, take, refl, ◌∙◌, ap, arith}
use lib.Seq.{length-sets}
use Rattle.shelf.specs.Shelf.{fresh_card}
use Rattle.shelf.specs.Words.{words_with}
use Rattle.shelf.proofs.Words.{four_of}
use Rattle.cases.proofs.Row.{with_none, stored_more}
use Rattle.cases.proofs.cards.store_row.Goals as goal

pub loop-i-init : goal.loop-i-init
loop-i-init c = (refl, with_none _)

pub store-requires : goal.store-requires
store-requires c = omega (arith, c.loop-i-test.true, c.loop-i.invariant.0, c.count-n.ensures)

pub loop-i-preserved : goal.loop-i-preserved
loop-i-preserved c = let four = four_of (get_or c.args.row c.loop-i.i fresh_card) in (
  ap length c.store.ensures ∙ length-sets {A = ℕ} c.loop-i.words (c.loop-i.i * 4) four ∙ c.loop-i.invariant.0,
  c.store.ensures
      ∙ stored_more c.args.words.now c.args.row c.loop-i.i c.well_formed.1.0.1.0.1 (omega (arith, c.loop-i-test.true, c.count-n.ensures)) c.loop-i.invariant.1,
)

pub returns : goal.returns
returns c = let all : c.loop-i.i ≡ min (length c.args.words.now / 4) 20 = omega (arith, c.loop-i-test.false, c.count-n.ensures) in
    c.loop-i.invariant.1 ∙ ap (λ (k : ℕ). words_with c.args.words.now (take k c.args.row)) all
