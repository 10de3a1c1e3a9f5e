-- The status of several answers: 0 answered, 1 trouble, 2 refused, 3 answered and not Mobile XMF.
-- Assumes nothing.
use Rattle.std.specs.Prelude.{cond, ℕ, min, eqb}

-- the worse of two: 1, then 2, then 3, then 0
abbrev pub worst : ℕ → ℕ → ℕ
worst a b = cond (eqb a 0) b (cond (eqb b 0) a (min a b))
