-- `casetext::output::put_byte` meets its contract. Assumes nothing.
use mathlib.Core.Path.{refl}
use native.Mathlib.Omega.{arith}
use lib.ListN.{length-set}
use Rattle.casetext.proofs.Laws.{ends, set_past}
use Rattle.casetext.proofs.output.put_byte.Goals as goal

pub returns-then-at-out : goal.returns-then-at-out
returns-then-at-out c = record {
  ends = ends _ _ _ (simp length-set (omega arith)) (simp length-set (omega arith));
  wrote = record { wrote = refl; fits = λ l. omega arith; over = λ l. omega arith };
}

pub returns : goal.returns
returns c = record {
  ends = ends _ _ _ (omega arith) (omega arith);
  wrote = record {
    wrote = set_past c.args.out.now c.args.at c.args.byte (omega arith);
    fits = λ l. omega arith;
    over = λ l. omega arith;
  };
}
