use Rattle.local_bench.proofs.LoopLemmas.{from_begin}
use Rattle.local_bench.proofs.counted.Goals as goal

pub run-ran-requires-clause-right : goal.run-ran-requires-clause-right
run-ran-requires-clause-right c = from_begin c.args.body.now _ _ _ _ c.requires
