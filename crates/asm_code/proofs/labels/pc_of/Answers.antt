-- By its word.
use Rattle.asm_code.proofs.LabelLemmas.{pc_found, pc_none}
use Rattle.asm_code.proofs.labels.pc_of.Goals as goal

pub returns-in-Some : goal.returns-in-Some
returns-in-Some c = pc_found c.args.label.now c.args.labels.now.entries c.in-Some.pc.now c.in-Some.ensures.value

pub returns-in-None : goal.returns-in-None
returns-in-None c = pc_none c.args.label.now c.args.labels.now.entries c.in-None.ensures.value
