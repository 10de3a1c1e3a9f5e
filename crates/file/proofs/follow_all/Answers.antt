-- `follow_all` leaves what `follow` leaves. The invariant: what is left of the rows comes to what the whole comes to.
-- Assumes nothing.
use mathlib.Core.Path.{refl, ◌∙◌}
use Rattle.file.proofs.Growing.{stand_few, stand_inside, follows_begun, follows_spanned, follows_no, follows_next, follows_on, follows_done}
use native.Mathlib.Omega.{arith}
use Rattle.refusals.proofs.Passing.{passed_on}
use Rattle.file.proofs.follow_all.Goals as goal

pub loop-i-init : goal.loop-i-init
loop-i-init c = (follows_begun _ _ _ _ _ _ _ (omega arith) refl, refl, refl)

pub follow_row-requires : goal.follow_row-requires
follow_row-requires c = let x = c.loop-i.invariant.0 c.requires.1.0 c.requires.1.1 c.requires.1.2 in
    (omega (arith, c.requires.0), c.loop-i-test.true, (c.requires.1.0, x.log, x.stands), follows_spanned _ _ _ _ _ _ _ c.loop-i.invariant.0 (omega (arith, c.requires.0.nodes-in, c.loop-i.invariant.1)) c.requires.1.0 c.requires.1.1 c.requires.1.2)

pub returns-in_err-n : goal.returns-in_err-n
returns-in_err-n c = rw (passed_on c.from_residual.ensures.1) (follows_no _ _ _ _ _ _ _ c.loop-i.invariant.0 c.loop-i-test.true c.follow_row.ensures c.in_err-n.was)

pub with_row-span-requires : goal.with_row-span-requires
with_row-span-requires c = let y = follows_next _ _ _ _ _ _ _ c.loop-i.invariant.0 c.loop-i-test.true c.follow_row.ensures c.requires.0.start-in
    c.in_ok-n.was c.follow_row.auto.nodes c.follow_row.auto.items c.requires.1.0 c.requires.1.1 c.requires.1.2 in
    let long = c.follow_row.auto.nodes ∙ c.loop-i.invariant.1 in (
      (stand_few y.stands (omega (arith, c.requires.0.nodes-in, long))).1,
      λ i l. let q = stand_inside y.stands (omega (arith, c.requires.0.nodes-in, long)) i l in omega (arith, c.requires.0.short),
    )

pub loop-i-smaller : goal.loop-i-smaller
loop-i-smaller c = let x = c.loop-i.invariant.0 c.requires.1.0 c.requires.1.1 c.requires.1.2 in omega (arith, c.loop-i-test.true, x.stands.fits)

pub loop-i-preserved : goal.loop-i-preserved
loop-i-preserved c = let long = c.follow_row.auto.nodes ∙ c.loop-i.invariant.1 in (
  follows_on _ _ _ _ _ _ _ c.loop-i.invariant.0 c.loop-i-test.true c.follow_row.ensures c.requires.0.start-in
      c.in_ok-n.was c.follow_row.auto.nodes c.follow_row.auto.items (omega (arith, c.requires.0.nodes-in, long)) c.with_row-span.ensures.0 c.with_row-span.ensures.1,
  long,
  c.follow_row.auto.items ∙ c.loop-i.invariant.2,
)

pub returns : goal.returns
returns c = follows_done _ _ _ _ _ _ _ c.loop-i.invariant.0 c.loop-i-test.false _
