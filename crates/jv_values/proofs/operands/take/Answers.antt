use Rattle.jv_types.specs.Instruction.{value_kind_of}
use Rattle.jv_values.proofs.WordLemmas.{taken_some}
use Rattle.jv_values.proofs.operands.take.Goals as goal

pub word_on_top-requires-clause-some : goal.word_on_top-requires-clause-some
word_on_top-requires-clause-some c = taken_some (value_kind_of c.args.kind) c.args.words.now c.args.depth c.requires.kind

pub overflow_sub-result-in-Reference : goal.overflow_sub-result-in-Reference
overflow_sub-result-in-Reference c = taken_some (value_kind_of c.args.kind) c.args.words.now c.args.depth c.requires.kind
