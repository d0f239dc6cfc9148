-- The line is cut at its first space.
use Rattle.asm_lines.proofs.WordLemmas.{first_word-some, first_word-none}
use Rattle.asm_lines.proofs.line.first_bytes.Goals as goal

pub returns-in-Some : goal.returns-in-Some
returns-in-Some c = first_word-some c.args.line.now c.in-Some.end c.in-Some.ensures

pub returns-in-None : goal.returns-in-None
returns-in-None c = first_word-none c.args.line.now c.in-None.ensures
