use Rattle.std.proofs.Common.{arith}
use Rattle.asm_lines.proofs.RowLemmas.{between_is, between_none}
use Rattle.asm_lines.proofs.operation.between.Goals as goal

pub returns : goal.returns
returns c = between_is c.args.words.now c.args.first
