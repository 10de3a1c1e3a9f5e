-- Each byte is put behind those before it. Assumes nothing.
use Rattle.std.proofs.Common.{[], refl, arith}
use Rattle.casetext.proofs.Laws.{ends, put-none, put-more, put_all}
use Rattle.casetext.proofs.output.put.Goals as goal

pub loop-byte-init : goal.loop-byte-init
loop-byte-init c = record { long = refl; after = omega arith; within = omega arith; puts = put-none c.args.out.now [] c.args.at c.min-end.result (omega arith) }

pub loop-byte-preserved : goal.loop-byte-preserved
loop-byte-preserved c = record {
  long = omega arith;
  after = omega arith;
  within = omega arith;
  puts = put-more c.args.out.now c.args.at c.args.bytes.now c.loop-byte.byte-index (omega arith) (omega arith) c.loop-byte.invariant.puts c.put_byte-end.ensures.wrote;
}

pub returns : goal.returns
returns c = record {
  ends = ends _ _ _ (omega arith) (omega arith);
  wrote = put_all _ _ _ c.loop-byte.byte-index (omega arith) c.loop-byte.invariant.puts;
}
