-- The word is cut at its last dot, or has none.
use Rattle.asm_lines.proofs.DotLemmas.{cut_at_dot, without_dot}
use Rattle.asm_lines.proofs.operation.split_at_last_dot.Goals as goal

pub returns-in-Some-clause-before : goal.returns-in-Some-clause-before
returns-in-Some-clause-before c = (cut_at_dot c.args.word.now c.in-Some.parts.0.now c.in-Some.parts.1.now c.in-Some.ensures.cases).0

pub returns-in-Some-clause-behind : goal.returns-in-Some-clause-behind
returns-in-Some-clause-behind c = (cut_at_dot c.args.word.now c.in-Some.parts.0.now c.in-Some.parts.1.now c.in-Some.ensures.cases).1

pub returns-in-None-clause-before : goal.returns-in-None-clause-before
returns-in-None-clause-before c = (without_dot c.args.word.now c.in-None.ensures.cases).0

pub returns-in-None-clause-behind : goal.returns-in-None-clause-behind
returns-in-None-clause-behind c = (without_dot c.args.word.now c.in-None.ensures.cases).1
