use Rattle.std.proofs.Common.{◌-◌, arith}
use Rattle.jv_values.proofs.WordLemmas.{operands_in-top}
use Rattle.jv_values.proofs.operands.word_on_top.Goals as goal

pub returns : goal.returns
returns c = operands_in-top c.args.words.now c.args.depth (c.args.depth - 1) (omega arith) c.requires.inside
