use Rattle.machine_threads.proofs.Deeds as deeds
use Rattle.machine_threads.proofs.laws.deeds_are_at_instructions.Goals as goal

pub returns : goal.returns
returns c = deeds.deeds_are_at_instructions
