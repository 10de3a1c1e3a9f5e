-- `start_at` gives TreeStart with the least count for it.
-- Assumes nothing.
use native.Mathlib.Omega.{arith}
use mathlib.Core.Path.{◌≡◌, ap, ◌∙◌}
use Prim.Native.Nat.{ℕ}
use Rattle.vlq.proofs.Least.{least-in}
use Rattle.title_text.specs.Text.{start_with, last_bytes, start_bytes, start_at}
use Rattle.title_file.proofs.start_at.Goals as goal

pub start_with-requires : goal.start_with-requires
unfolding start_bytes
start_with-requires c = let e : c.least_bytes.result ≡ start_bytes c.args.fixed c.args.tree c.args.x = c.least_bytes.ensures
    (λ y. start_with c.args.fixed c.args.x y (last_bytes c.args.fixed c.args.tree c.args.x y))
    c.start_with-one.ensures c.start_with-two.ensures c.start_with-three.ensures in omega (
      arith,
      (least-in (λ y. start_with c.args.fixed c.args.x y
          (last_bytes c.args.fixed c.args.tree c.args.x y))).1,
    )

pub returns : goal.returns
unfolding start_at start_bytes
returns c = c.start_with.ensures ∙ ap (λ (y : ℕ). start_with c.args.fixed c.args.x y
    (last_bytes c.args.fixed c.args.tree c.args.x y))
    (c.least_bytes.ensures
    (λ y. start_with c.args.fixed c.args.x y (last_bytes c.args.fixed c.args.tree c.args.x y))
    c.start_with-one.ensures c.start_with-two.ensures c.start_with-three.ensures)
