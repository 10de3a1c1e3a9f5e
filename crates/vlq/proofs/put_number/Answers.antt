-- `put_number` puts n in its shortest form.
-- Assumes nothing.
use native.Mathlib.Omega.{arith}
use Rattle.room.proofs.Counting.{counts-as}
use Rattle.vlq.proofs.Numbers.{short-number, number_put}
use Rattle.vlq.proofs.Least.{least-in}
use Rattle.vlq.proofs.put_number.Goals as goal

pub returns-then-n-lt128 : goal.returns-then-n-lt128
returns-then-n-lt128 c = counts-as (short-number c.args.n c.if-n-lt128.true) c.put_byte.ensures

pub put_in_bytes-requires : goal.put_in_bytes-requires
put_in_bytes-requires c = omega (arith, c.vlq_size.ensures, (least-in (λ _. c.args.n)).1)

pub returns : goal.returns
returns c = number_put c.args.n c.vlq_size.result c.vlq_size.ensures c.put_in_bytes.ensures
